-- Laws of the parts of a text, from a place on.
use Prim.Native.Nat.{ℕ, suc, ◌+◌, ◌*◌, ◌%◌, ◌^◌, ◌≤◌, ◌<◌}
use mathlib.Core.Path.{◌≡◌, refl, ap, ◌∙◌}
use mathlib.Core.Bool.{Bool, true, false, cond}
use mathlib.Core.List.{List, [], ◌∷◌}
use mathlib.Core.Logic.{◌≢◌}
use native.Mathlib.Omega.{arith}
use lib.Dec.{ltb, eqb}
use lib.ListN.{length, drop, get_or, drop_of_length-le}
use borrow.Author.Tests.{lt-ltb, le-ltb, ltb-true, eqb-true, eqb-false}
use Rattle.basics.proofs.Lists.{drop_next}
use Rattle.std.specs.List.{position_or_len, count_by}
use Rattle.std.proofs.lemmas.List.Recursion.{is_position_or_len, is_count_by}
use Rattle.digits.specs.Digit.{digit_val, is_decimal}
use Rattle.quantity.specs.Text.{digits_from, digit_count, first_at}
use Rattle.quantity.specs.Figures.{TooLong}
use Rattle.quantity.proofs.Capped.{after_zero, after_some, bare_some, least}

-- ---- the place of a byte
suc_is : (n : ℕ) → suc n ≡ 1 + n
suc_is n = omega arith

pub first_is : (b : ℕ) (s : List ℕ) → first_at b s ≡ position_or_len (λ x. eqb x b) s
unfolding first_at
first_is b = is_position_or_len (first_at b) (λ x. eqb x b) refl (λ x s. ap (cond (eqb x b) 0) (suc_is (first_at b s)))

pub place_within : (b : ℕ) (s : List ℕ) → first_at b s ≤ length s
unfolding first_at
place_within b [] = omega arith
place_within b (c ∷ s) = go (eqb c b) (place_within b s)
  where
    go : (t : Bool) → first_at b s ≤ length s → cond t 0 (suc (first_at b s)) ≤ suc (length s)
    go true h = omega arith
    go false h = omega (arith, h)

-- ---- how many digits
pub count_is : (s : List ℕ) → digit_count s ≡ count_by is_decimal s
unfolding digit_count
count_is = is_count_by digit_count is_decimal refl (λ x s. ap (λ n. cond (is_decimal x) n (digit_count s)) (suc_is (digit_count s)))

pub count_within : (s : List ℕ) → digit_count s ≤ length s
unfolding digit_count
count_within [] = omega arith
count_within (c ∷ s) = go (is_decimal c) (count_within s)
  where
    go : (t : Bool) → digit_count s ≤ length s → cond t (suc (digit_count s)) (digit_count s) ≤ suc (length s)
    go true h = omega (arith, h)
    go false h = omega (arith, h)

-- ---- digits as a number
digits_cons : (base n b : ℕ) (s : List ℕ) → digits_from base n (b ∷ s) ≡ digits_from base (cond (ltb (digit_val b) base) (n * base + digit_val b) n) s
unfolding digits_from
digits_cons base n b s = refl

module _ (base : ℕ) (s : List ℕ) (p n : ℕ) where
  pub digits_end : length s ≤ p → digits_from base n (drop p s) ≡ n
  unfolding digits_from
  digits_end h = rw (drop_of_length-le s h)

  module _ (h : p < length s) where
    pub digits_digit : digit_val (get_or s p 0) < base → digits_from base n (drop p s) ≡ digits_from base (n * base + digit_val (get_or s p 0)) (drop (p + 1) s)
    digits_digit d = rw (drop_next s p 0 h, digits_cons base n (get_or s p 0) (drop (p + 1) s), lt-ltb _ _ d)

    pub digits_other : base ≤ digit_val (get_or s p 0) → digits_from base n (drop p s) ≡ digits_from base n (drop (p + 1) s)
    digits_other d = rw (drop_next s p 0 h, digits_cons base n (get_or s p 0) (drop (p + 1) s), le-ltb _ _ d)

-- a digit after m and z zeros: a zero, or another one
module _ (base : ℕ) (two : 2 ≤ base) (s : List ℕ) (p m z d : ℕ) (h : p < length s) (is : d ≡ digit_val (get_or s p 0)) (low : d < base) where
  one_digit : digits_from base (m * base ^ z) (drop p s) ≡ digits_from base (m * base ^ z * base + d) (drop (p + 1) s)
  one_digit = rw is (digits_digit base s p (m * base ^ z) h (rw is at low))

  pub digit_zero : d ≡ 0 → digits_from base (m * base ^ z) (drop p s) ≡ digits_from base (m * base ^ (z + 1)) (drop (p + 1) s)
  digit_zero e = one_digit ∙ ap (λ n. digits_from base n (drop (p + 1) s)) (after_zero base two m z d e)

  pub digit_some : digits_from base (m * base ^ z) (drop p s) ≡ digits_from base ((d + m * base ^ (z + 1)) * base ^ 0) (drop (p + 1) s)
  digit_some = one_digit ∙ ap (λ n. digits_from base n (drop (p + 1) s)) (after_some base two m z d)

-- digits that are too many stay so, whatever follows them
pub too_long : (base : ℕ) → 2 ≤ base → (s : List ℕ) (m z : ℕ) → m % base ≢ 0 → 2 ^ 64 ≤ m → TooLong base (digits_from base (m * base ^ z) s)
unfolding digits_from
too_long base two [] m z b l = record { m = m; z = z; is = refl; bare = b; long = l }
too_long base two (c ∷ s) m z b l = go (ltb (digit_val c) base) (eqb (digit_val c) 0) refl refl (too_long base two s)
  where
    go : (t u : Bool) → ltb (digit_val c) base ≡ t → eqb (digit_val c) 0 ≡ u
        → ((k i : ℕ) → k % base ≢ 0 → 2 ^ 64 ≤ k → TooLong base (digits_from base (k * base ^ i) s))
        → TooLong base (digits_from base (cond t (m * base ^ z * base + digit_val c) (m * base ^ z)) s)
    go true true e f ih = rw (after_zero base two m z (digit_val c) (eqb-true (digit_val c) 0 f)) (ih m (z + 1) b l)
    go true false e f ih =
        rw (after_some base two m z (digit_val c))
        (ih (digit_val c + m * base ^ (z + 1)) 0 (bare_some base two m z (digit_val c) (ltb-true (digit_val c) base e) (eqb-false (digit_val c) 0 f))
        (omega (arith, l, least base two m (z + 1))))
    go false u e f ih = ih m z b l
