-- The pair of a number m * 10^rise / 10^fall.
use Prim.Native.Nat.{ℕ, ◌*◌, ◌-◌, ◌^◌, ◌%◌, ◌≤◌, ◌<◌}
use mathlib.Core.Path.{◌≡◌, refl, sym, ap, ◌∙◌}
use mathlib.Core.Logic.{◌≢◌, inl, inr, ⊎_elim}
use native.Mathlib.Omega.{arith}
use native.Mathlib.Decide.{dec_lt}
use native.Mathlib.Nat.{mul_assoc, mul_comm, mul_left_comm, mul-one, one-mul, mul-le-mul_right, pow-le-pow_right, le_trans, eq_of_mul-eq-mul_right, le-mul_of_pos_right}
use lib.Dec.{lit<, lit≤}
use Rattle.refusal.specs.Outcome.{refused}
use Rattle.refusal.specs.Refusals.{NO_PAIR}
use Rattle.quantity.specs.Pair.{Rational, pair, pair_of}
use Rattle.std.specs.Prelude.{Some}
use Rattle.quantity.specs.Whole.{capped}
use Rattle.quantity.specs.Figures.{Denotes, Near}
use Rattle.quantity.proofs.Capped.{fits_is}
use Rattle.quantity.proofs.Search.{ten_pos, ten_parts, pair_found, pair_wide, pair_deep}

-- the two powers, where 64 bits hold both
pub known : (v : Rational) (m a b rise fall : ℕ) → Some a ≡ capped rise → Some b ≡ capped fall → Denotes v m rise fall → Denotes v m a b
known v m a b rise fall u w d = let r = fits_is a rise u in let f = fits_is b fall w in rw (r, f) d

-- ---- a whole number
module _ (v : Rational) (n : ℕ) (d : Denotes v n 0 0) where
  whole_is : v.over * 10 ^ 0 ≡ n * v.under
  whole_is = d.is ∙ ap (λ x. x * v.under) (mul-one n)

  pub whole_found : n < 2 ^ 64 → pair_of v ≡ pair n 0
  whole_found l = pair_found v d.some n 0 whole_is (inl refl) (lit≤ tt) l

  pub whole_wide : 2 ^ 64 ≤ n → pair_of v ≡ refused NO_PAIR
  whole_wide w = pair_wide v d.some n 0 whole_is (inl refl) w

module _ (v : Rational) (m rise fall : ℕ) (d : Denotes v m rise fall) where
  -- ---- no fewer zeros than places: a whole number
  pub up_is : fall ≤ rise → Denotes v (m * 10 ^ (rise - fall)) 0 0
  up_is h =
      record {
        some = d.some;
        is =
            mul-one v.over
            ∙ eq_of_mul-eq-mul_right (10 ^ fall) (ten_pos fall) v.over (m * 10 ^ (rise - fall) * v.under)
            (d.is ∙ ap (λ x. m * x * v.under) (ten_parts fall rise h) ∙ simp (mul_assoc, mul_comm, mul_left_comm))
            ∙ ap (λ x. x * v.under) (sym (mul-one (m * 10 ^ (rise - fall))));
      }

  -- so many zeros that no m but 0 fits
  pub up_far : 0 < m → 2 ^ 64 ≤ rise → fall < 2 ^ 63 → pair_of v ≡ refused NO_PAIR
  up_far some r f =
      whole_wide v (m * 10 ^ (rise - fall)) (up_is (omega arith))
      (le_trans (le_trans (lit≤ tt) (pow-le-pow_right {n = 10} (lit< tt) {i = 20} {j = rise - fall} (omega arith))) times)
    where
      times : 10 ^ (rise - fall) ≤ m * 10 ^ (rise - fall)
      times = rw (one-mul (10 ^ (rise - fall))) at (mul-le-mul_right (10 ^ (rise - fall)) some)

  -- ---- fewer zeros than places: a fraction
  down_is : rise ≤ fall → v.over * 10 ^ (fall - rise) ≡ m * v.under
  down_is h =
      eq_of_mul-eq-mul_right (10 ^ rise) (ten_pos rise) (v.over * 10 ^ (fall - rise)) (m * v.under)
      (simp (mul_assoc, mul_comm) (simp (mul_assoc, mul_comm) at (sym (ap (λ x. v.over * x) (ten_parts rise fall h)) ∙ d.is)))

  -- m does not end in a zero
  module _ (bare : m % 10 ≢ 0) where
    pub down_found : rise ≤ fall → fall - rise ≤ 18 → m < 2 ^ 64 → pair_of v ≡ pair m (fall - rise)
    down_found h k l = pair_found v d.some m (fall - rise) (down_is h) (inr bare) k l

    pub down_deep : rise ≤ fall → 18 < fall - rise → pair_of v ≡ refused NO_PAIR
    down_deep h k = pair_deep v d.some m (fall - rise) (down_is h) (inr bare) k

    pub wide : 2 ^ 64 ≤ m → pair_of v ≡ refused NO_PAIR
    wide w =
        elim (dec_lt rise fall) [
          | yes h ↦ pair_wide v d.some m (fall - rise) (down_is (omega arith)) (inr bare) w
          | no h ↦ whole_wide v (m * 10 ^ (rise - fall)) (up_is (omega arith)) (le_trans w (le-mul_of_pos_right m (ten_pos (rise - fall))))
        ]

    -- ---- one of the two is too large for 64 bits
    module _ (near : Near rise fall) where
      pub far_up : 2 ^ 64 ≤ rise → pair_of v ≡ refused NO_PAIR
      far_up r =
          ⊎_elim (λ (h : rise < 2 ^ 63). absurd (omega (arith, r, h)))
          (λ (h : fall < 2 ^ 63). up_far (elim (dec_lt 0 m) [ yes l ↦ l | no l ↦ absurd (bare (zero_ends (omega arith))) ]) r h) near
        where
          zero_ends : m ≡ 0 → m % 10 ≡ 0
          zero_ends z = ap (λ x. x % 10) z

      pub far_down : 2 ^ 64 ≤ fall → pair_of v ≡ refused NO_PAIR
      far_down f =
          ⊎_elim (λ (h : rise < 2 ^ 63). down_deep (omega (arith, f, h)) (omega (arith, f, h)))
          (λ (h : fall < 2 ^ 63). absurd (omega (arith, f, h))) near
