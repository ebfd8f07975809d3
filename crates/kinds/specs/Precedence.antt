-- The five precedence levels of the binary operators, of the Go specification.
use Rattle.std.specs.Prelude.{ℕ, Bool, false, cond, ◌||◌, List, [], ◌∷◌, eqb}
use Rattle.kinds.specs.Kinds.{MUL, QUO, REM, SHL, SHR, AND, AND_NOT, ADD, SUB, OR, XOR, EQL, NEQ, LSS, LEQ, GTR, GEQ, LAND, LOR}

-- whether a kind is in a list
abbrev pub among : ℕ → List ℕ → Bool
among k [] = false
among k (n ∷ ns) = eqb k n || among k ns

-- the operators of each level
abbrev pub level5 : List ℕ
level5 = MUL ∷ QUO ∷ REM ∷ SHL ∷ SHR ∷ AND ∷ AND_NOT ∷ []

abbrev pub level4 : List ℕ
level4 = ADD ∷ SUB ∷ OR ∷ XOR ∷ []

abbrev pub level3 : List ℕ
level3 = EQL ∷ NEQ ∷ LSS ∷ LEQ ∷ GTR ∷ GEQ ∷ []

abbrev pub level2 : List ℕ
level2 = LAND ∷ []

abbrev pub level1 : List ℕ
level1 = LOR ∷ []

-- the level of a kind; 0 where it is no binary operator
unfoldable pub precedence_of : ℕ → ℕ
precedence_of k =
    cond (among k level5) 5
    (cond (among k level4) 4 (cond (among k level3) 3 (cond (among k level2) 2 (cond (among k level1) 1 0))))
