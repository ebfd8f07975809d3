-- Laws of lists: the next element, the element at an index, and whether two lists are the same.
use Prim.Native.Nat.{ℕ, zero, suc, ◌+◌, ◌≤◌, ◌<◌}
use mathlib.Core.Path.{◌≡◌, refl, ap, ap₂}
use mathlib.Core.Bool.{true, false, false≢true, and-false}
use mathlib.Core.Option.{none, some}
use mathlib.Core.List.{List, [], ◌∷◌, ◌++◌}
use native.Mathlib.Nat.{le_of_suc-le-suc, not-suc-le-zero}
use native.Mathlib.Omega.{arith}
use native.Mathlib.Numerals.{add-one}
use lib.Dec.{eqb}
use lib.ListN.{length, take, drop, get_or, get_elem?, length-drop}
use lib.Seq.{drop-cons, take-suc, get_or-drop}
use borrow.Author.Tests.{eq-eqb, eqb-true}
use Rattle.basics.specs.Same.{same}
use Rattle.basics.proofs.Choice.{and_split}

-- the code's p + 1
pub drop_next : {A : Type 0} (s : List A) (p : ℕ) (d : A) → p < length s → drop p s ≡ get_or s p d ∷ drop (p + 1) s
drop_next s p d h = rw (add-one, drop-cons s p d)

-- one element more from a place on
pub take_more : {A : Type 0} (s : List A) (at k : ℕ) (d : A) → at + k < length s → take (k + 1) (drop at s) ≡ take k (drop at s) ++ (get_or s (at + k) d ∷ [])
take_more s at k d h = rw (add-one, take-suc (drop at s) k d (omega (arith, length-drop at s)), get_or-drop)

-- within a list the default does not matter
pub get_d_any : {A : Type 0} (s : List A) (k : ℕ) (d e : A) → k < length s → get_or s k d ≡ get_or s k e
get_d_any [] k d e h = absurd (not-suc-le-zero h)
get_d_any (x ∷ s) zero d e h = refl
get_d_any (x ∷ s) (suc k) d e h = get_d_any s k d e (le_of_suc-le-suc h)

-- what is not the default 0 stands within the list
pub reach : (s : List ℕ) (i : ℕ) → 0 < get_or s i 0 → i < length s
reach [] i h = absurd (not-suc-le-zero h)
reach (x ∷ s) zero h = omega arith
reach (x ∷ s) (suc i) h = omega (arith, reach s i h)

-- ---- the element at an index, if there is one
pub at_append : {A : Type 0} (s t : List A) (i : ℕ) → i < length s → get_elem? (s ++ t) i ≡ get_elem? s i
at_append [] t i h = absurd (not-suc-le-zero h)
at_append (x ∷ s) t zero h = refl
at_append (x ∷ s) t (suc i) h = at_append s t i (le_of_suc-le-suc h)

pub at_end : {A : Type 0} (s : List A) (x : A) → get_elem? (s ++ (x ∷ [])) (length s) ≡ some x
at_end [] x = refl
at_end (y ∷ s) x = at_end s x

pub at_past : {A : Type 0} (s : List A) (i : ℕ) → length s ≤ i → get_elem? s i ≡ none
at_past [] i h = refl
at_past (x ∷ s) zero h = absurd (not-suc-le-zero h)
at_past (x ∷ s) (suc i) h = at_past s i (le_of_suc-le-suc h)

-- ---- whether two lists are the same
pub same_refl : (a : List ℕ) → same a a ≡ true
unfolding same
same_refl [] = refl
same_refl (x ∷ a) = rw (eq-eqb x x refl, same_refl a)

pub same_true : (a b : List ℕ) → same a b ≡ true → a ≡ b
unfolding same
same_true [] [] e = refl
same_true [] (y ∷ b) e = absurd (false≢true e)
same_true (x ∷ a) [] e = absurd (false≢true e)
same_true (x ∷ a) (y ∷ b) e =
    let q = and_split (eqb x y) (same a b) e in ap₂ (λ h t. h ∷ t) (eqb-true x y q.0) (same_true a b q.1)

-- lists of two lengths differ
pub same_length : (a b : List ℕ) → (length a ≡ length b → ⊥) → same a b ≡ false
unfolding same
same_length [] [] h = absurd (h refl)
same_length [] (y ∷ b) h = refl
same_length (x ∷ a) [] h = refl
same_length (x ∷ a) (y ∷ b) h = rw (same_length a b (λ e. h (ap suc e))) (and-false (eqb x y))
