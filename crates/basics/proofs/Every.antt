-- A rule at each entry of a table, and at each number below a bound, by one test that antt computes.
use Prim.Native.Nat.{ℕ, zero, suc, ◌+◌, ◌<◌}
use mathlib.Core.Path.{◌≡◌, refl, ap, subst, sym, ◌∙◌}
use mathlib.Core.Bool.{Bool, true, ◌&&◌}
use mathlib.Core.List.{List, [], ◌∷◌}
use mathlib.Core.Logic.{◌⊎◌, inl, inr, ⊎_elim}
use native.Mathlib.Nat.{add-zero, zero-add, add-suc, suc-add, le_of_suc-le-suc, not-suc-le-zero}
use native.Mathlib.Omega.{arith}
use lib.Dec.{T}
use lib.ListN.{length, get_or}
use Rattle.basics.proofs.Choice.{and_left, and_right}

-- the test f passes at each entry of the list and its place, counted from i
abbrev pub every : {A : Type 0} → (ℕ → A → Bool) → ℕ → List A → Bool
every f i [] = true
every f i (x ∷ xs) = f i x && every f (suc i) xs

from : {A : Type 0} (f : ℕ → A → Bool) (xs : List A) (i : ℕ) (d : A) → T (every f i xs) → (k : ℕ) → k < length xs → T (f (i + k) (get_or xs k d))
from f [] i d t k h = absurd (not-suc-le-zero h)
from f (x ∷ xs) i d t zero h = subst (λ (m : ℕ). T (f m x)) (sym (add-zero i)) (and_left (f i x) (every f (suc i) xs) t)
from f (x ∷ xs) i d t (suc k) h =
    subst (λ (m : ℕ). T (f m (get_or xs k d))) (suc-add i k ∙ sym (add-suc i k))
    (from f xs (suc i) d (and_right (f i x) (every f (suc i) xs) t) k (le_of_suc-le-suc h))

pub every_entry : {A : Type 0} (f : ℕ → A → Bool) (xs : List A) (d : A) → T (every f 0 xs) → (k : ℕ) → k < length xs → T (f k (get_or xs k d))
every_entry f xs d t k h = subst (λ (m : ℕ). T (f m (get_or xs k d))) (zero-add k) (from f xs 0 d t k h)

-- the test f passes at each element
abbrev pub each : {A : Type 0} → (A → Bool) → List A → Bool
each f [] = true
each f (x ∷ xs) = f x && each f xs

-- what holds of no elements, and of one more that passes, holds of a list of such elements
pub each_ind : {A : Type 0} (f : A → Bool) (P : List A → Type 0) → P [] → ((x : A) (xs : List A) → T (f x) → P xs → P (x ∷ xs)) → (xs : List A) → T (each f xs) → P xs
each_ind f P none more [] t = none
each_ind f P none more (x ∷ xs) t = more x xs (and_left (f x) (each f xs) t) (each_ind f P none more xs (and_right (f x) (each f xs) t))

-- the test f passes at each number below n
abbrev pub below : (ℕ → Bool) → ℕ → Bool
below f zero = true
below f (suc n) = f n && below f n

at_or_below : (k n : ℕ) → k < suc n → (k ≡ n) ⊎ (k < n)
at_or_below zero zero h = inl refl
at_or_below zero (suc n) h = inr (omega arith)
at_or_below (suc k) zero h = absurd (not-suc-le-zero (le_of_suc-le-suc h))
at_or_below (suc k) (suc n) h = ⊎_elim (λ e. inl (ap suc e)) (λ l. inr (omega arith)) (at_or_below k n (le_of_suc-le-suc h))

pub every_below : (f : ℕ → Bool) (n : ℕ) → T (below f n) → (k : ℕ) → k < n → T (f k)
every_below f zero t k h = absurd (not-suc-le-zero h)
every_below f (suc n) t k h =
    ⊎_elim (λ (e : k ≡ n). subst (λ (m : ℕ). T (f m)) (sym e) (and_left (f n) (below f n) t))
    (λ (l : k < n). every_below f n (and_right (f n) (below f n) t) k l) (at_or_below k n h)
