-- Steps of the code. No public contract cites this file.
use Rattle.std.specs.Prelude.{ℕ, ◌+◌, Bool, true, false, cond, ◌&&◌, List, [], ◌∷◌, eqb}
use Prim.Native.Char.{code}
use Rattle.utf8.specs.declared.Char.{Char}
use Rattle.utf8.specs.Chars.{is_stray}
use Rattle.utf8.specs.Count.{is_lf, is_cr, one}
use Rattle.spans.specs.declared.body.Body.{Body}
use Rattle.spans.specs.declared.line.Stop.{Stop}
use Rattle.spans.specs.declared.line.Stop.TheVariants.{Closed, End}

-- nothing of a body is read yet
abbrev pub empty_at : ℕ → Body
empty_at at = record { end = at; chars = 0; closed = false; lfs = 0; crs = 0; strays = 0 }

-- a body with one character more
unfoldable pub grown : Body → Char → Bool → Body
grown b c closes =
    record {
      end = b.end + c.width;
      chars = b.chars + 1;
      closed = closes;
      lfs = b.lfs + one (is_lf c);
      crs = b.crs + one (is_cr c);
      strays = b.strays + one (is_stray c);
    }

-- where and how the search for the comment's end stops within its line: closed before a place, or
-- at the end or at an LF
unfoldable pub stop_from : ℕ → Bool → List Char → Stop
stop_from at star [] = End false
stop_from at star (c ∷ r) =
    cond (is_lf c) (End true)
    (cond (star && eqb c.code (code "/")) (Closed (at + c.width)) (stop_from (at + c.width) (eqb c.code (code "*")) r))
