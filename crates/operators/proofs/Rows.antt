-- The operator at a place by the byte there, the rows of the table that start with it, and the next bytes.
use Prim.Native.Nat.{ℕ, ◌+◌, ◌≤◌}
use mathlib.Core.Path.{◌≡◌, refl, sym, ap, ◌∙◌}
use Prim.Native.Char.{code}
use mathlib.Core.Bool.{Bool, true, false, cond, ◌&&◌, ◌||◌, false≢true, and-true}
use mathlib.Core.List.{List, [], ◌∷◌}
use mathlib.Core.Logic.{⊎_elim}
use lib.Dec.{T, eqb}
use lib.ListN.{length, get_or, drop}
use borrow.Author.Tests.{eq-eqb, ne_eqb, eqb-true}
use Rattle.basics.proofs.Choice.{true_of, either}
use Rattle.basics.proofs.Every.{each, each_ind}
use Rattle.utf8.specs.Chars.{chars}
use Rattle.utf8.proofs.First.{chars_end}
use Rattle.kinds.specs.Kinds.{LSS, LEQ, SHL, SHL_ASSIGN, ARROW, AND, AND_ASSIGN, AND_NOT, AND_NOT_ASSIGN, LAND, GTR, GEQ, SHR, SHR_ASSIGN, PERIOD, ELLIPSIS}
use Rattle.kinds.specs.Table.{Row, operators}
use Rattle.kinds.specs.Table as table
use Rattle.operators.specs.Longest.{begins, op, no_operator, longest, operator_of}
use Rattle.operators.specs.Steps.{switch2, switch3, switch4, less_by, greater_by, and_by, period_by}
use Rattle.operators.proofs.Leading.{best, starts, leads, among, best_among, table_bytes}

-- a row of the table, by its codes
abbrev pub row : ℕ → List ℕ → Row
row k xs = record { kind = k; class = table.Operator; name = xs }

-- ---- what is chosen of a few rows, by tests y z w of their spellings
module _ (f : List ℕ → Bool) where
  pick1 : (k a : ℕ) → f (a ∷ []) ≡ true → best f (row k (a ∷ []) ∷ []) ≡ op k 1
  unfolding best
  pick1 k a e = rw e

  pick2 : (k l a x : ℕ) (y : Bool) → f (a ∷ []) ≡ true → f (a ∷ x ∷ []) ≡ y → best f (row k (a ∷ []) ∷ row l (a ∷ x ∷ []) ∷ []) ≡ cond y (op l 2) (op k 1)
  unfolding best
  pick2 k l a x true e g = rw (e, g)
  pick2 k l a x false e g = rw (e, g)

  pick2_last : (k l a x : ℕ) (y : Bool) → f (a ∷ []) ≡ true → f (a ∷ x ∷ []) ≡ y → best f (row l (a ∷ x ∷ []) ∷ row k (a ∷ []) ∷ []) ≡ cond y (op l 2) (op k 1)
  unfolding best
  pick2_last k l a x true e g = rw (e, g)
  pick2_last k l a x false e g = rw (e, g)

  pick3 : (k l m a x v : ℕ) (y z : Bool) → f (a ∷ []) ≡ true → f (a ∷ x ∷ []) ≡ y → f (a ∷ v ∷ []) ≡ z
      → best f (row k (a ∷ []) ∷ row l (a ∷ x ∷ []) ∷ row m (a ∷ v ∷ []) ∷ []) ≡ cond y (op l 2) (cond z (op m 2) (op k 1))
  unfolding best
  pick3 k l m a x v true true e g h = rw (e, g, h)
  pick3 k l m a x v true false e g h = rw (e, g, h)
  pick3 k l m a x v false true e g h = rw (e, g, h)
  pick3 k l m a x v false false e g h = rw (e, g, h)

  pick4 : (k l m n a x : ℕ) (y z w : Bool) → f (a ∷ []) ≡ true → f (a ∷ x ∷ []) ≡ y → f (a ∷ code "=" ∷ []) ≡ z → f (a ∷ x ∷ code "=" ∷ []) ≡ y && w
      → best f (row m (a ∷ x ∷ []) ∷ row n (a ∷ x ∷ code "=" ∷ []) ∷ row k (a ∷ []) ∷ row l (a ∷ code "=" ∷ []) ∷ []) ≡ cond y (cond w (op n 3) (op m 2)) (cond z (op l 2) (op k 1))
  unfolding best
  pick4 k l m n a x true true true e g h i = rw (e, g, h, i)
  pick4 k l m n a x true true false e g h i = rw (e, g, h, i)
  pick4 k l m n a x true false true e g h i = rw (e, g, h, i)
  pick4 k l m n a x true false false e g h i = rw (e, g, h, i)
  pick4 k l m n a x false true w e g h i = rw (e, g, h, i)
  pick4 k l m n a x false false w e g h i = rw (e, g, h, i)

  pick_less : (k l m n o a x v : ℕ) (y z w u : Bool) → f (a ∷ []) ≡ true → f (a ∷ x ∷ []) ≡ y → f (a ∷ code "=" ∷ []) ≡ z → f (a ∷ x ∷ code "=" ∷ []) ≡ y && w → f (a ∷ v ∷ []) ≡ u
      → best f (row m (a ∷ x ∷ []) ∷ row n (a ∷ x ∷ code "=" ∷ []) ∷ row o (a ∷ v ∷ []) ∷ row k (a ∷ []) ∷ row l (a ∷ code "=" ∷ []) ∷ [])
      ≡ cond y (cond w (op n 3) (op m 2)) (cond u (op o 2) (cond z (op l 2) (op k 1)))
  unfolding best
  pick_less k l m n o a x v true true true true e g h i j = rw (e, g, h, i, j)
  pick_less k l m n o a x v true true true false e g h i j = rw (e, g, h, i, j)
  pick_less k l m n o a x v true true false true e g h i j = rw (e, g, h, i, j)
  pick_less k l m n o a x v true true false false e g h i j = rw (e, g, h, i, j)
  pick_less k l m n o a x v true false true true e g h i j = rw (e, g, h, i, j)
  pick_less k l m n o a x v true false true false e g h i j = rw (e, g, h, i, j)
  pick_less k l m n o a x v true false false true e g h i j = rw (e, g, h, i, j)
  pick_less k l m n o a x v true false false false e g h i j = rw (e, g, h, i, j)
  pick_less k l m n o a x v false true w true e g h i j = rw (e, g, h, i, j)
  pick_less k l m n o a x v false true w false e g h i j = rw (e, g, h, i, j)
  pick_less k l m n o a x v false false w true e g h i j = rw (e, g, h, i, j)
  pick_less k l m n o a x v false false w false e g h i j = rw (e, g, h, i, j)

  pick_and : (k l m n o a x v : ℕ) (y z w u : Bool) → f (a ∷ []) ≡ true → f (a ∷ x ∷ []) ≡ y → f (a ∷ code "=" ∷ []) ≡ z → f (a ∷ x ∷ code "=" ∷ []) ≡ y && w → f (a ∷ v ∷ []) ≡ u
      → best f (row k (a ∷ []) ∷ row m (a ∷ x ∷ []) ∷ row l (a ∷ code "=" ∷ []) ∷ row n (a ∷ x ∷ code "=" ∷ []) ∷ row o (a ∷ v ∷ []) ∷ [])
      ≡ cond y (cond w (op n 3) (op m 2)) (cond z (op l 2) (cond u (op o 2) (op k 1)))
  unfolding best
  pick_and k l m n o a x v true true true true e g h i j = rw (e, g, h, i, j)
  pick_and k l m n o a x v true true true false e g h i j = rw (e, g, h, i, j)
  pick_and k l m n o a x v true true false true e g h i j = rw (e, g, h, i, j)
  pick_and k l m n o a x v true true false false e g h i j = rw (e, g, h, i, j)
  pick_and k l m n o a x v true false true true e g h i j = rw (e, g, h, i, j)
  pick_and k l m n o a x v true false true false e g h i j = rw (e, g, h, i, j)
  pick_and k l m n o a x v true false false true e g h i j = rw (e, g, h, i, j)
  pick_and k l m n o a x v true false false false e g h i j = rw (e, g, h, i, j)
  pick_and k l m n o a x v false true w true e g h i j = rw (e, g, h, i, j)
  pick_and k l m n o a x v false true w false e g h i j = rw (e, g, h, i, j)
  pick_and k l m n o a x v false false w true e g h i j = rw (e, g, h, i, j)
  pick_and k l m n o a x v false false w false e g h i j = rw (e, g, h, i, j)

  pick_dots : (k l a x v : ℕ) (y : Bool) → f (a ∷ []) ≡ true → f (a ∷ x ∷ v ∷ []) ≡ y → best f (row l (a ∷ x ∷ v ∷ []) ∷ row k (a ∷ []) ∷ []) ≡ cond y (op l 3) (op k 1)
  unfolding best
  pick_dots k l a x v true e g = rw (e, g)
  pick_dots k l a x v false e g = rw (e, g)

-- ---- the tests of the spellings that start with the byte at a place
module _ (s : List ℕ) (p a : ℕ) (e : get_or s p 0 ≡ a) where
  starts_one : starts (a ∷ []) s p ≡ true
  starts_one = rw (eq-eqb _ _ e)

  starts_two : (x : ℕ) → starts (a ∷ x ∷ []) s p ≡ eqb (get_or s (p + 1) 0) x
  starts_two x = rw (eq-eqb _ _ e, and-true (eqb (get_or s (p + 1) 0) x))

  starts_three : (x y : ℕ) → starts (a ∷ x ∷ y ∷ []) s p ≡ eqb (get_or s (p + 1) 0) x && eqb (get_or s (p + 1 + 1) 0) y
  starts_three x y = rw (eq-eqb _ _ e, and-true (eqb (get_or s (p + 1 + 1) 0) y))

  first_rows : (rows : List Row) → among a operators ≡ rows → operator_of (chars (drop p s)) ≡ best (λ n. starts n s p) rows
  first_rows rows w = table_bytes s p ∙ best_among operators s p ∙ ap (best (λ n. starts n s p)) (ap (λ x. among x operators) e ∙ w)

  -- ---- the operator at a place, by the byte there, its rows and the next bytes
  pub one_is : (k : ℕ) → among a operators ≡ row k (a ∷ []) ∷ [] → op k 1 ≡ operator_of (chars (drop p s))
  one_is k w = sym (first_rows _ w ∙ pick1 (λ n. starts n s p) k a starts_one)

  pub switch2_is : (k l : ℕ) → among a operators ≡ row k (a ∷ []) ∷ row l (a ∷ (code "=") ∷ []) ∷ []
      → switch2 (get_or s (p + 1) 0) k l ≡ operator_of (chars (drop p s))
  switch2_is k l w = sym (first_rows _ w ∙ pick2 (λ n. starts n s p) k l a (code "=") _ starts_one (starts_two (code "=")))

  pub switch2_last_is : (k l : ℕ) → among a operators ≡ row l (a ∷ (code "=") ∷ []) ∷ row k (a ∷ []) ∷ []
      → switch2 (get_or s (p + 1) 0) k l ≡ operator_of (chars (drop p s))
  switch2_last_is k l w = sym (first_rows _ w ∙ pick2_last (λ n. starts n s p) k l a (code "=") _ starts_one (starts_two (code "=")))

  pub switch3_is : (k l m x : ℕ) → among a operators ≡ row k (a ∷ []) ∷ row l (a ∷ (code "=") ∷ []) ∷ row m (a ∷ x ∷ []) ∷ []
      → switch3 (get_or s (p + 1) 0) k l x m ≡ operator_of (chars (drop p s))
  switch3_is k l m x w = sym (first_rows _ w ∙ pick3 (λ n. starts n s p) k l m a (code "=") x _ _ starts_one (starts_two (code "=")) (starts_two x))

nothing : no_operator ≡ longest operators []
unfolding operators longest begins
nothing = refl

-- two tests of a number change places
swap : {A : Type 0} (u v w : A) (b x y : ℕ) → eqb x y ≡ false → cond (eqb b x) u (cond (eqb b y) v w) ≡ cond (eqb b y) v (cond (eqb b x) u w)
swap u v w b x y n =
    ⊎_elim (λ (e : eqb b x ≡ true). let f : eqb b y ≡ false = rw (eqb-true b x e) n in rw (e, f)) (λ (e : eqb b x ≡ false). rw e) (either (eqb b x))

-- the four first bytes with rows of three codes
module _ (s : List ℕ) (p : ℕ) where
  pub less_is : get_or s p 0 ≡ code "<" → less_by (get_or s (p + 1) 0) (get_or s (p + 1 + 1) 0) ≡ operator_of (chars (drop p s))
  unfolding operators
  less_is e =
      ap (switch4 (get_or s (p + 1) 0) (get_or s (p + 1 + 1) 0) (code "<") SHL SHL_ASSIGN) (swap _ _ _ (get_or s (p + 1) 0) (code "=") (code "-") refl)
      ∙ sym (first_rows s p (code "<") e _ refl ∙ pick_less (λ n. starts n s p) LSS LEQ SHL SHL_ASSIGN ARROW (code "<") (code "<") (code "-") _ _ _ _
      (starts_one s p (code "<") e) (starts_two s p (code "<") e (code "<")) (starts_two s p (code "<") e (code "=")) (starts_three s p (code "<") e (code "<") (code "=")) (starts_two s p (code "<") e (code "-")))

  pub greater_is : get_or s p 0 ≡ code ">" → greater_by (get_or s (p + 1) 0) (get_or s (p + 1 + 1) 0) ≡ operator_of (chars (drop p s))
  unfolding operators
  greater_is e =
      sym (first_rows s p (code ">") e _ refl ∙ pick4 (λ n. starts n s p) GTR GEQ SHR SHR_ASSIGN (code ">") (code ">") _ _ _
      (starts_one s p (code ">") e) (starts_two s p (code ">") e (code ">")) (starts_two s p (code ">") e (code "=")) (starts_three s p (code ">") e (code ">") (code "=")))

  pub and_is : get_or s p 0 ≡ code "&" → and_by (get_or s (p + 1) 0) (get_or s (p + 1 + 1) 0) ≡ operator_of (chars (drop p s))
  unfolding operators
  and_is e =
      sym (first_rows s p (code "&") e _ refl ∙ pick_and (λ n. starts n s p) AND AND_ASSIGN AND_NOT AND_NOT_ASSIGN LAND (code "&") (code "^") (code "&") _ _ _ _
      (starts_one s p (code "&") e) (starts_two s p (code "&") e (code "^")) (starts_two s p (code "&") e (code "=")) (starts_three s p (code "&") e (code "^") (code "=")) (starts_two s p (code "&") e (code "&")))

  pub period_is : get_or s p 0 ≡ code "." → period_by (get_or s (p + 1) 0) (get_or s (p + 1 + 1) 0) ≡ operator_of (chars (drop p s))
  unfolding operators
  period_is e =
      sym (first_rows s p (code ".") e _ refl ∙ pick_dots (λ n. starts n s p) PERIOD ELLIPSIS (code ".") (code ".") (code ".") _ (starts_one s p (code ".") e) (starts_three s p (code ".") e (code ".") (code ".")))

  pub end_is : length s ≤ p → no_operator ≡ operator_of (chars (drop p s))
  end_is h = nothing ∙ ap (longest operators) (sym (chars_end s p h))

-- ---- a byte that no spelling starts with
abbrev elem : ℕ → List ℕ → Bool
elem a [] = false
elem a (k ∷ ks) = eqb a k || elem a ks

-- a is none of the numbers, as the last arm of a `match` has it
abbrev pub NotIn : ℕ → List ℕ → Type 0
NotIn a [] = Unit
NotIn a (k ∷ ks) = NotIn a ks × (a ≡ k → ⊥)

not_elem : (a : ℕ) (ks : List ℕ) → NotIn a ks → elem a ks ≡ false
not_elem a [] n = refl
not_elem a (k ∷ ks) n = rw (ne_eqb a k n.1) (not_elem a ks n.0)

abbrev listed : List ℕ → List ℕ → Bool
listed ks [] = false
listed ks (x ∷ xs) = elem x ks

no_leads : (a : ℕ) (ks xs : List ℕ) → elem a ks ≡ false → T (listed ks xs) → leads a xs ≡ false
no_leads a ks [] n t = absurd t
no_leads a ks (x ∷ xs) n t = ne_eqb a x (λ e. false≢true (sym n ∙ ap (λ y. elem y ks) e ∙ true_of (elem x ks) t))

no_rows : (a : ℕ) (ks : List ℕ) → elem a ks ≡ false → (rows : List Row) → T (each (λ row. listed ks row.name) rows) → among a rows ≡ []
no_rows a ks n = each_ind (λ row. listed ks row.name) (λ rows. among a rows ≡ []) refl (λ row rows t same. rw (no_leads a ks row.name n t) same)

-- the numbers are the first codes of all rows, and maybe others
abbrev pub leading : List ℕ → Bool
leading ks = each (λ row. listed ks row.name) operators

pub none_is : (ks : List ℕ) → T (leading ks) → (s : List ℕ) (p : ℕ) → NotIn (get_or s p 0) ks → no_operator ≡ operator_of (chars (drop p s))
unfolding best
none_is ks all s p n = sym (first_rows s p (get_or s p 0) refl [] (no_rows (get_or s p 0) ks (not_elem (get_or s p 0) ks n) operators all))
