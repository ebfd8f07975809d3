-- How many characters pass a test.
use Rattle.std.specs.Prelude.{ℕ, ◌+◌, Bool, cond, List, [], ◌∷◌, eqb}
use Prim.Native.Char.{code}
use Rattle.utf8.specs.declared.Char.{Char}

abbrev pub is_lf : Char → Bool
is_lf c = eqb c.code (code "\n")

abbrev pub is_cr : Char → Bool
is_cr c = eqb c.code (code "\r")

-- how many times a test holds: once or not
abbrev pub one : Bool → ℕ
one t = cond t 1 0

abbrev pub count : (Char → Bool) → List Char → ℕ
count test [] = 0
count test (c ∷ cs) = one (test c) + count test cs
