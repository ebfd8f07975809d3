-- Whether a general comment ends its line: "holds an LF, is never closed, or has only spaces, tabs
-- and CRs between it and an LF or the end".
use Prim.Native.Char.{code}
use Rattle.std.specs.Prelude.{Bool, true, cond, ◌&&◌, List, [], ◌∷◌, eqb}
use Rattle.utf8.specs.declared.Char.{Char}
use Rattle.utf8.specs.Count.{is_lf}
use Rattle.blanks.specs.Blank.{is_space}

-- only spaces, tabs and CRs up to an LF or the end
unfoldable pub blank_to_end : List Char → Bool
blank_to_end [] = true
blank_to_end (c ∷ r) = cond (is_lf c) true (is_space c.code && blank_to_end r)

-- of a general comment after its opening; `star`: the character before is a `*`
unfoldable pub ends_line : Bool → List Char → Bool
ends_line star [] = true
ends_line star (c ∷ r) =
    cond (is_lf c) true
    (cond (star && eqb c.code (code "/")) (blank_to_end r) (ends_line (eqb c.code (code "*")) r))
