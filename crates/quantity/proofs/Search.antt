-- Laws of the search for the least pair.
use Prim.Native.Nat.{ℕ, zero, suc, ◌+◌, ◌*◌, ◌-◌, ◌/◌, ◌%◌, ◌^◌, ◌≤◌, ◌<◌}
use mathlib.Core.Path.{◌≡◌, refl, sym, ap, ◌∙◌}
use mathlib.Core.Bool.{true, false}
use mathlib.Core.Logic.{◌⊎◌, ◌≢◌, ⊎_elim}
use native.Mathlib.Omega.{arith}
use native.Mathlib.Decide.{dec_lt}
use native.Mathlib.Nat.{mul_assoc, mul_right_comm, mul-mod_left, mul-div_cancel, div-add-mod', eq_of_mul-eq-mul_right, one-le-pow, pow-suc, le-mul_of_pos_right, mul-one, le_trans, sub_self}
use lib.Pow.{pow-add}
use lib.Dec.{ltb, eqb, lit<}
use borrow.Author.Tests.{lt-ltb, le-ltb, eqb-true}
use Rattle.basics.proofs.Choice.{either, and_split}
use Rattle.refusal.specs.Outcome.{refused}
use Rattle.refusal.specs.Refusals.{NO_PAIR}
use Rattle.quantity.specs.Pair.{Rational, pair, fits_at, first_pair, pair_of}

-- ---- the search, over any number
module _ (v : Rational) where
  pub none_from : (n k : ℕ) → ((i : ℕ) → k ≤ i → i < k + n → fits_at v i ≡ false) → first_pair v n k ≡ refused NO_PAIR
  unfolding first_pair
  none_from zero k all = refl
  none_from (suc n) k all = rw (all k (omega arith) (omega arith)) (none_from n (suc k) (λ i l h. all i (omega arith) (omega arith)))

  pub found_from : (n k j : ℕ) → k ≤ j → j < k + n → ((i : ℕ) → k ≤ i → i < j → fits_at v i ≡ false) → fits_at v j ≡ true
      → first_pair v n k ≡ pair (v.over * 10 ^ j / v.under) j
  unfolding first_pair
  found_from zero k j l h all here = absurd (omega arith)
  found_from (suc n) k j l h all here =
      elim (dec_lt k j) [
        | yes less ↦ rw (all k (omega arith) less) (found_from n (suc k) j less (omega arith) (λ i g f. all i (omega arith) f) here)
        | no more ↦ let same : j ≡ k = omega arith in rw same (rw (rw same at here))
      ]

-- powers of ten
pub ten_pos : (k : ℕ) → 0 < 10 ^ k
ten_pos k = one-le-pow k 10 (lit< tt)

pub ten_parts : (j k : ℕ) → j ≤ k → 10 ^ k ≡ 10 ^ j * 10 ^ (k - j)
ten_parts j k h = let e : k ≡ j + (k - j) = omega arith in ap (λ i. 10 ^ i) e ∙ pow-add 10 j (k - j)

-- ---- a number that is m / 10^j
module _ (v : Rational) (some : 0 < v.under) (m j : ℕ) (is : v.over * 10 ^ j ≡ m * v.under) where
  -- at k from j on it is a whole number
  whole_at : (k : ℕ) → j ≤ k → v.over * 10 ^ k ≡ m * 10 ^ (k - j) * v.under
  whole_at k h =
      ap (λ x. v.over * x) (ten_parts j k h) ∙ sym (mul_assoc v.over (10 ^ j) (10 ^ (k - j))) ∙ ap (λ x. x * 10 ^ (k - j)) is
      ∙ mul_right_comm m v.under (10 ^ (k - j))

  pub fits_at_lem : (k : ℕ) → j ≤ k → fits_at v k ≡ ltb (m * 10 ^ (k - j)) (2 ^ 64)
  fits_at_lem k h = rw (whole_at k h, mul-mod_left (m * 10 ^ (k - j)) v.under, mul-div_cancel (m * 10 ^ (k - j)) some)

  -- m is too large, and so is every m * 10^i
  wide_at : (k : ℕ) → 2 ^ 64 ≤ m → j ≤ k → fits_at v k ≡ false
  wide_at k w h = fits_at_lem k h ∙ le-ltb (m * 10 ^ (k - j)) (2 ^ 64) (le_trans w (le-mul_of_pos_right m (ten_pos (k - j))))

  -- before j it is none, where m does not end in a zero
  module _ (bare : (j ≡ 0) ⊎ (m % 10 ≢ 0)) where
    whole_before : (k q : ℕ) → k < j → v.over * 10 ^ k ≡ q * v.under → m ≡ q * 10 ^ (j - k)
    whole_before k q h e =
        eq_of_mul-eq-mul_right v.under some m (q * 10 ^ (j - k))
        (sym is ∙ ap (λ x. v.over * x) (ten_parts k j (omega arith)) ∙ sym (mul_assoc v.over (10 ^ k) (10 ^ (j - k))) ∙ ap (λ x. x * 10 ^ (j - k)) e
        ∙ mul_right_comm q v.under (10 ^ (j - k)))

    ends_before : (k q : ℕ) → k < j → v.over * 10 ^ k ≡ q * v.under → m % 10 ≡ 0
    ends_before k q h e =
        let n : j - k ≡ suc (j - k - 1) = omega arith in
        ap (λ x. x % 10) (whole_before k q h e ∙ ap (λ x. q * 10 ^ x) n ∙ ap (λ x. q * x) (pow-suc 10 (j - k - 1)) ∙ sym (mul_assoc q (10 ^ (j - k - 1)) 10))
        ∙ mul-mod_left (q * 10 ^ (j - k - 1)) 10

    broken_at : (k : ℕ) → k < j → fits_at v k ≡ false
    broken_at k h =
        ⊎_elim (λ (t : fits_at v k ≡ true). absurd (fails t)) (λ f. f) (either (fits_at v k))
      where
        fails : fits_at v k ≡ true → ⊥
        fails t =
            let z = eqb-true (v.over * 10 ^ k % v.under) 0 (and_split (eqb (v.over * 10 ^ k % v.under) 0) (ltb (v.over * 10 ^ k / v.under) (2 ^ 64)) t).0 in
            let e = div-add-mod' (v.over * 10 ^ k) v.under in
            ⊎_elim (λ (n : j ≡ 0). omega (arith, h, n))
            (λ (n : m % 10 ≢ 0). n (ends_before k (v.over * 10 ^ k / v.under) h (omega (arith, z, e)))) bare

    pub pair_found : j ≤ 18 → m < 2 ^ 64 → pair_of v ≡ pair m j
    pair_found l f =
        let e : m * 10 ^ (j - j) ≡ m = ap (λ x. m * 10 ^ x) (sub_self j) ∙ mul-one m in
        let w = whole_at j (omega arith) ∙ ap (λ x. x * v.under) e in
        found_from v 19 0 j (omega arith) (omega arith) (λ i g h. broken_at i h) (fits_at_lem j (omega arith) ∙ lt-ltb (m * 10 ^ (j - j)) (2 ^ 64) (rw e f))
        ∙ ap (λ x. pair x j) (ap (λ x. x / v.under) w ∙ mul-div_cancel m some)

    pub pair_wide : 2 ^ 64 ≤ m → pair_of v ≡ refused NO_PAIR
    pair_wide w = none_from v 19 0 (λ i l h. elim (dec_lt i j) [ yes less ↦ broken_at i less | no more ↦ wide_at i w (omega arith) ])

    pub pair_deep : 18 < j → pair_of v ≡ refused NO_PAIR
    pair_deep d = none_from v 19 0 (λ i l h. broken_at i (omega arith))
