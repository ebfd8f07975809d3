-- Laws of numbers that 64 bits hold or do not, and of products with powers.
use Prim.Native.Nat.{ℕ, ◌+◌, ◌*◌, ◌%◌, ◌^◌, ◌≤◌, ◌<◌}
use mathlib.Core.Path.{◌≡◌, sym, ap, ◌∙◌}
use mathlib.Core.Bool.{true, false}
use mathlib.Core.Logic.{◌≢◌, ⊎_elim}
use native.Mathlib.Omega.{arith}
use native.Mathlib.Numerals.{add-one}
use native.Mathlib.Nat.{mul-one, pow-zero, add-zero, add_comm, add-mul-mod_self_right, mod-eq_of_lt, mul_assoc, pow-suc, one-le-pow, le-mul_of_pos_right, mul_comm, pow-le-pow_left, pow-le-pow_right, le_trans}
use lib.Dec.{ltb}
use borrow.Author.Tests.{lt-ltb, le-ltb, ltb-true, ltb-false}
use Rattle.basics.proofs.Choice.{either}
use Rattle.std.specs.Prelude.{Option, Some, None}
use Rattle.std.specs.Option.{SomeIff}
use Rattle.digits.specs.declared.Base.{Base}
use Rattle.digits.specs.declared.Base.TheVariants.{Binary, Octal, Decimal, Hexadecimal}
use Rattle.digits.specs.Base.{base_number}
use Rattle.quantity.specs.Whole.{capped}

-- ---- capped numbers
pub fits : (n : ℕ) → n < 2 ^ 64 → capped n ≡ Some n
unfolding capped
fits n h = rw (lt-ltb n (2 ^ 64) h)

pub over : (n : ℕ) → 2 ^ 64 ≤ n → capped n ≡ None
unfolding capped
over n h = rw (le-ltb n (2 ^ 64) h)

pub fits_is : (a n : ℕ) → Some a ≡ capped n → a ≡ n
fits_is a n e =
    ⊎_elim (λ (t : ltb n (2 ^ 64) ≡ true). let f = fits n (ltb-true n (2 ^ 64) t) in cc)
    (λ (t : ltb n (2 ^ 64) ≡ false). let f = over n (ltb-false n (2 ^ 64) t) in let z : ◌≡◌ {A = ℕ} 0 1 = cc in absurd (omega arith)) (either (ltb n (2 ^ 64)))

pub fits_low : (a n : ℕ) → Some a ≡ capped n → n < 2 ^ 64
fits_low a n e =
    ⊎_elim (λ (t : ltb n (2 ^ 64) ≡ true). ltb-true n (2 ^ 64) t)
    (λ (t : ltb n (2 ^ 64) ≡ false). let f = over n (ltb-false n (2 ^ 64) t) in let z : ◌≡◌ {A = ℕ} 0 1 = cc in absurd (omega arith)) (either (ltb n (2 ^ 64)))

pub over_is : (n : ℕ) → ◌≡◌ {A = Option ℕ} None (capped n) → 2 ^ 64 ≤ n
over_is n e =
    ⊎_elim (λ (t : ltb n (2 ^ 64) ≡ true). let f = fits n (ltb-true n (2 ^ 64) t) in let z : ◌≡◌ {A = ℕ} 0 1 = cc in absurd (omega arith))
    (λ (t : ltb n (2 ^ 64) ≡ false). ltb-false n (2 ^ 64) t) (either (ltb n (2 ^ 64)))

-- what the library's sums and products say
pub capped_is : (n : ℕ) (r : Option ℕ) → SomeIff r (n < 2 ^ 64) n → r ≡ capped n
capped_is n None none = sym (over n (omega (arith, none)))
capped_is n (Some x) s = ap Some s.1 ∙ sym (fits n s.0)

-- ---- the bases
pub base_two : (b : Base) → 2 ≤ base_number b
base_two Binary = omega arith
base_two Octal = omega arith
base_two Decimal = omega arith
base_two Hexadecimal = omega arith

-- ---- a number times a power of the base
module _ (base : ℕ) (two : 2 ≤ base) where
  pub pow_pos : (k : ℕ) → 0 < base ^ k
  pow_pos k = one-le-pow k base (omega arith)

  -- a power is at least as large as that of 2
  pub far : (x k : ℕ) → 0 < x → 64 ≤ k → 2 ^ 64 ≤ x * base ^ k
  far x k some l =
      le_trans (le_trans (pow-le-pow_left {n = 2} {m = base} two 64) (pow-le-pow_right {n = base} (omega arith) {i = 64} {j = k} l)) (rw (mul_comm x (base ^ k)) (le-mul_of_pos_right (base ^ k) some))

  pub far_power : (x k : ℕ) → 0 < x → 2 ^ 64 ≤ base ^ k → 2 ^ 64 ≤ x * base ^ k
  far_power x k some l = le_trans l (rw (mul_comm x (base ^ k)) (le-mul_of_pos_right (base ^ k) some))

  pub least : (x k : ℕ) → x ≤ x * base ^ k
  least x k = le-mul_of_pos_right x (pow_pos k)

  pub no_more : (x : ℕ) → x * base ^ 0 ≡ x
  no_more x = ap (λ y. x * y) (pow-zero base) ∙ mul-one x

  -- ---- one digit after m and z zeros
  module _ (m z : ℕ) where
    after : m * base ^ z * base ≡ m * base ^ (z + 1)
    after = mul_assoc m (base ^ z) base ∙ ap (λ y. m * y) (sym (pow-suc base z) ∙ ap (λ i. base ^ i) (sym (add-one z)))

    -- a zero
    pub after_zero : (d : ℕ) → d ≡ 0 → m * base ^ z * base + d ≡ m * base ^ (z + 1)
    after_zero d e = ap (λ y. m * base ^ z * base + y) e ∙ add-zero (m * base ^ z * base) ∙ after

    -- another one
    pub after_some : (d : ℕ) → m * base ^ z * base + d ≡ (d + m * base ^ (z + 1)) * base ^ 0
    after_some d = ap (λ y. y + d) after ∙ add_comm (m * base ^ (z + 1)) d ∙ sym (no_more (d + m * base ^ (z + 1)))

    pub bare_some : (d : ℕ) → d < base → d ≢ 0 → (d + m * base ^ (z + 1)) % base ≢ 0
    bare_some d l n e =
        n (sym (mod-eq_of_lt l) ∙ sym (add-mul-mod_self_right d (m * base ^ z) base) ∙ ap (λ y. (d + y) % base) after ∙ e)
