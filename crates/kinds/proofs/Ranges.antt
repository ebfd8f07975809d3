-- A rule at each number of a range, and a test that agrees with a range, by one test that antt computes.
use Prim.Native.Nat.{ℕ, ◌+◌, ◌-◌, ◌≤◌, ◌<◌}
use mathlib.Core.Path.{◌≡◌, subst}
use mathlib.Core.Bool.{Bool, beq}
use native.Mathlib.Omega.{arith}
use lib.Dec.{T, eqb, eqb→eq}
use Rattle.basics.proofs.Choice.{same_test}
use Rattle.basics.proofs.Every.{below, every_below}

-- the test f passes at each of the n numbers from lo on
pub every_within : (f : ℕ → Bool) (lo n : ℕ) → T (below (λ j. f (lo + j)) n) → (k : ℕ) → lo ≤ k → k < lo + n → T (f k)
every_within f lo n t k l h =
    let e : lo + (k - lo) ≡ k = omega arith in
    subst (λ (m : ℕ). T (f m)) e (every_below (λ j. f (lo + j)) n t (k - lo) (omega arith))

-- a function has one value on a range
pub value_within : (f : ℕ → ℕ) (v lo n : ℕ) → T (below (λ j. eqb v (f (lo + j))) n) → (k : ℕ) → lo ≤ k → k < lo + n → v ≡ f k
value_within f v lo n t k l h = eqb→eq v (f k) (every_within (λ m. eqb v (f m)) lo n t k l h)

-- two tests of bytes are one
pub same_tests : (f g : ℕ → Bool) → T (below (λ k. beq (f k) (g k)) 256) → (k : ℕ) → k < 256 → f k ≡ g k
same_tests f g t k h = same_test (f k) (g k) (every_below (λ m. beq (f m) (g m)) 256 t k h)
