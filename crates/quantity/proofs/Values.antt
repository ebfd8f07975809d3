-- The pairs of the numbers that texts denote.
use Prim.Native.Nat.{ℕ, ◌+◌, ◌*◌, ◌^◌, ◌%◌, ◌≤◌}
use mathlib.Core.Path.{◌≡◌, refl, sym, ap, ◌∙◌}
use mathlib.Core.Bool.{Bool, true, false}
use mathlib.Core.Logic.{◌≢◌, inl}
use mathlib.Core.List.{List}
use native.Mathlib.Nat.{mul_assoc, mul-one, zero-mul}
use lib.Pow.{pow-add}
use lib.Dec.{lit<, lit≤}
use Rattle.refusal.specs.Outcome.{refused}
use Rattle.refusal.specs.Refusals.{NO_PAIR}
use Rattle.quantity.specs.Pair.{pair, pair_of}
use Rattle.quantity.specs.Text.{digits_of, is_negative, scaled_by, decimal_by, whole_in}
use Rattle.quantity.specs.Figures.{Denotes, TooLong}
use Rattle.quantity.proofs.Search.{ten_pos, pair_found}
use Rattle.quantity.proofs.Shifts.{wide}

-- m with z zeros after it, p of its digits decimal places, and an exponent x
module _ (m z p x : ℕ) where
  pub raised : Denotes (scaled_by (m * 10 ^ z) p false x) m (z + x) p
  raised = record { some = ten_pos p; is = ap (λ y. y * 10 ^ p) (mul_assoc m (10 ^ z) (10 ^ x) ∙ ap (λ y. m * y) (sym (pow-add 10 z x))) }

  pub lowered : Denotes (scaled_by (m * 10 ^ z) p true x) m z (p + x)
  lowered = record { some = ten_pos (p + x); is = refl }

  -- digits that are too many
  long_none : (n : ℕ) (negative : Bool) → n ≡ m * 10 ^ z → m % 10 ≢ 0 → 2 ^ 64 ≤ m → pair_of (scaled_by n p negative x) ≡ refused NO_PAIR
  long_none n true e b l = rw e (wide _ m z (p + x) lowered b l)
  long_none n false e b l = rw e (wide _ m (z + x) p raised b l)

-- zero
zero_pair : (n p x : ℕ) (negative : Bool) → n ≡ 0 → pair_of (scaled_by n p negative x) ≡ pair 0 0
zero_pair n p x true e = pair_found _ (ten_pos (p + x)) 0 0 (rw e (zero-mul (10 ^ 0) ∙ sym (zero-mul (10 ^ (p + x))))) (inl refl) (lit≤ tt) (lit< tt)
zero_pair n p x false e =
    pair_found _ (ten_pos p) 0 0 (rw e (ap (λ y. y * 10 ^ 0) (zero-mul (10 ^ x)) ∙ zero-mul (10 ^ 0) ∙ sym (zero-mul (10 ^ p)))) (inl refl) (lit≤ tt) (lit< tt)

-- a whole number of a base
pub whole_denotes : (base : ℕ) (t : List ℕ) → Denotes (whole_in base t) (digits_of base t) 0 0
whole_denotes base t = record { some = lit< tt; is = sym (mul-one (digits_of base t * 10 ^ 0)) }

-- ---- a decimal number, by its figures and its exponent
module _ (figures exponent : List ℕ) where
  pub decimal_long : TooLong 10 (digits_of 10 figures) → pair_of (decimal_by figures exponent) ≡ refused NO_PAIR
  decimal_long l = long_none l.m l.z _ _ (digits_of 10 figures) (is_negative exponent) l.is l.bare l.long

  module _ (m z : ℕ) (is : digits_of 10 figures ≡ m * 10 ^ z) where
    pub decimal_zero : m ≡ 0 → pair_of (decimal_by figures exponent) ≡ pair 0 0
    decimal_zero n = zero_pair (digits_of 10 figures) _ _ (is_negative exponent) (is ∙ ap (λ i. i * 10 ^ z) n ∙ zero-mul (10 ^ z))
