-- Laws of the longest operator: its bounds, more text after a line feed, when there is none, and its kind.
use Prim.Native.Nat.{ℕ, suc, ◌≤◌, ◌<◌}
use Prim.Native.Char.{code}
use mathlib.Core.Path.{◌≡◌, refl}
use mathlib.Core.Bool.{Bool, true, false, not, ◌&&◌, ◌||◌, false≢true}
use mathlib.Core.List.{List, [], ◌∷◌, ◌++◌}
use mathlib.Core.Logic.{◌⊎◌, inl, inr, ⊎_elim}
use native.Mathlib.Omega.{arith}
use lib.Dec.{T, leb, eqb}
use lib.ListN.{length}
use borrow.Author.Tests.{eqb-true, leb-true, leb-false}
use Rattle.basics.specs.Same.{same}
use Rattle.basics.proofs.Choice.{cond_ind, either, true_of, and_left, and_right, and_split}
use Rattle.basics.proofs.Every.{each, each_ind}
use Rattle.basics.proofs.Lists.{same_true}
use Rattle.utf8.specs.declared.Char.{Char}
use Rattle.utf8.proofs.Ends.{Ends, ends_tail, ends_some}
use Rattle.kinds.specs.Kinds.{ILLEGAL}
use Rattle.kinds.specs.Table.{Row, operators, specials, table, row_of, is_operator}
use Rattle.operators.specs.Longest.{OperatorSaid, begins, op, no_operator, longest, operator_of}

-- ---- no longer than the text
begins_bound : (xs : List ℕ) (r : List Char) → begins xs r ≡ true → length xs ≤ length r
unfolding begins
begins_bound [] r e = omega arith
begins_bound (x ∷ xs) [] e = absurd (false≢true e)
begins_bound (x ∷ xs) (c ∷ r) e = omega (arith, begins_bound xs r (and_split (eqb c.code x) (begins xs r) e).1)

-- what holds of no operator, and of each row that the characters begin with, holds of the longest; f is a test that the rows pass
pub longest_ind : (P : OperatorSaid → Type 0) (f : Row → Bool) (r : List Char) → P no_operator
    → ((row : Row) → T (f row) → begins row.name r ≡ true → P (op row.kind (length row.name))) → (rows : List Row) → T (each f rows) → P (longest rows r)
unfolding longest
longest_ind P f r base one =
    each_ind f (λ rows. P (longest rows r)) base (λ row rows t rest.
    cond_ind P (begins row.name r) _ _ (λ b. cond_ind P (leb (longest rows r).len (length row.name)) _ _ (λ _. one row t b) (λ _. rest)) (λ _. rest))

pub operator_bound : (r : List Char) → (operator_of r).len ≤ length r
unfolding operators
operator_bound r = longest_ind (λ x. x.len ≤ length r) (λ _. true) r (omega arith) (λ row _. begins_bound row.name r) operators tt

-- ---- in a text that ends in a line feed
abbrev no_feed : List ℕ → Bool
no_feed = each (λ x. not (eqb x (code "\n")))

begins_local : (xs : List ℕ) (r t : List Char) → T (no_feed xs) → Ends r → (begins xs (r ++ t) ≡ begins xs r) × (begins xs r ≡ true → length xs < length r)
unfolding begins
begins_local [] r t n h = (refl, λ _. ends_some r h)
begins_local (x ∷ xs) [] t n h = absurd h
begins_local (x ∷ xs) (c ∷ r) t n h = go (eqb c.code x) refl (begins_local xs r t (and_right (not (eqb x (code "\n"))) (no_feed xs) n))
  where
    feed : eqb c.code x ≡ true → c.code ≡ code "\n" → ⊥
    feed e z = let q : T (not (eqb x (code "\n"))) = and_left (not (eqb x (code "\n"))) (no_feed xs) n in rw (← eqb-true c.code x e, z) at q

    go : (y : Bool) → eqb c.code x ≡ y → (Ends r → (begins xs (r ++ t) ≡ begins xs r) × (begins xs r ≡ true → length xs < length r))
        → (y && begins xs (r ++ t) ≡ y && begins xs r) × (y && begins xs r ≡ true → suc (length xs) < suc (length r))
    go true e ih = let q = ih (ends_tail c r h (feed e)) in (q.0, λ b. omega (arith, q.1 b))
    go false e ih = (refl, λ b. absurd (false≢true b))

pub operator_local : (r t : List Char) → Ends r → (operator_of (r ++ t) ≡ operator_of r) × ((operator_of r).len < length r)
unfolding operators longest
operator_local r t h = (
  each_ind (λ row. no_feed row.name) (λ rows. longest rows (r ++ t) ≡ longest rows r) refl (λ row rows n same. rw ((begins_local row.name r t n h).0, same)) operators tt,
  longest_ind (λ x. x.len < length r) (λ row. no_feed row.name) r (ends_some r h) (λ row n. (begins_local row.name r t n h).1) operators tt,
)

-- ---- no operator is of kind ILLEGAL or of no characters
abbrev some : Row → Bool
some row = not (eqb row.kind ILLEGAL) && not (eqb (length row.name) 0)

abbrev Agree : OperatorSaid → Type 0
Agree x = eqb x.kind ILLEGAL ≡ eqb x.len 0

both_false : (a b : Bool) → T (not a && not b) → a ≡ b
both_false true b t = absurd t
both_false false true t = absurd t
both_false false false t = refl

-- the kind is ILLEGAL just where there are no characters
pub operator_none : (r : List Char) → eqb (operator_of r).kind ILLEGAL ≡ eqb (operator_of r).len 0
unfolding operators
operator_none r = longest_ind Agree some r refl (λ row t _. both_false (eqb row.kind ILLEGAL) (eqb (length row.name) 0) t) operators tt

-- any other is of the class of operators
pub operator_proper : (r : List Char) → ((operator_of r).len ≡ 0) ⊎ (is_operator (operator_of r).kind ≡ true)
unfolding row_of table specials operators
operator_proper r =
    longest_ind (λ x. (x.len ≡ 0) ⊎ (is_operator x.kind ≡ true)) (λ row. is_operator row.kind) r
    (inl refl) (λ row t _. inr (true_of _ t)) operators tt

-- none is of more than three characters
pub operator_short : (r : List Char) → (operator_of r).len ≤ 3
unfolding operators
operator_short r =
    longest_ind (λ x. x.len ≤ 3) (λ row. leb (length row.name) 3) r
    (omega arith) (λ row t _. leb-true _ _ (true_of _ t)) operators tt

-- ---- a row has this spelling
abbrev pub spells : List ℕ → List Row → Bool
spells xs [] = false
spells xs (row ∷ rows) = same xs row.name || spells xs rows

-- the longest is no shorter than a spelling that the characters begin with
longest_least : (xs : List ℕ) (rows : List Row) (r : List Char) → begins xs r ≡ true → spells xs rows ≡ true → length xs ≤ (longest rows r).len
unfolding longest
longest_least xs [] r b t = absurd (false≢true t)
longest_least xs (row ∷ rows) r b t =
    let P : OperatorSaid → Type 0 = λ x. length xs ≤ x.len in
    let rest = longest rows r in
    ⊎_elim
    (λ (e : same xs row.name ≡ true).
    rw (← same_true xs row.name e, b)
    (cond_ind P (leb rest.len (length xs)) _ _ (λ _. omega arith) (λ l. omega (arith, leb-false rest.len (length xs) l))))
    (λ (e : same xs row.name ≡ false).
    let ih = longest_least xs rows r b (rw e at t) in
    cond_ind P (begins row.name r) _ _
    (λ _. cond_ind P (leb rest.len (length row.name)) _ _ (λ l. omega (arith, ih, leb-true rest.len (length row.name) l)) (λ _. ih)) (λ _. ih))
    (either (same xs row.name))

pub operator_least : (xs : List ℕ) (r : List Char) → begins xs r ≡ true → spells xs operators ≡ true → length xs ≤ (operator_of r).len
operator_least xs r b t = longest_least xs operators r b t
