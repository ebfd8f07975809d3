-- Laws of trailing zeros by bytes: a byte of zeros adds eight, and in any other they end. So they count the bytes before the first mark.
use Prim.Native.Nat.{ℕ, zero, suc, ◌+◌, ◌*◌, ◌/◌, ◌%◌, ◌^◌, ◌<◌}
use mathlib.Core.Path.{◌≡◌, refl, ap, ◌∙◌}
use mathlib.Core.Bool.{cond}
use mathlib.Core.List.{List}
use native.Mathlib.Nat.{add-zero, suc-add, pow-suc, mod-lt, zero-lt-suc}
use native.Mathlib.Omega.{arith}
use lib.Arith.{digits_div, digits_mod}
use lib.Count.{count_trailing_zeros, under}
use lib.Dec.{eqb}
use lib.ListN.{take, drop, get_or}
use borrow.Author.Tests.{ne_eqb}
use Rattle.swar.specs.Number.{number_of}
use Rattle.swar.specs.Lanes.{lanes}
use Rattle.swar.specs.Marks.{before_mark}
use Rattle.swar.proofs.Numbers.{Bytes, number_next}
use Rattle.swar.proofs.Each.{Small, lanes_next}

tz_even : (k a : ℕ) → count_trailing_zeros (suc k) (a * 2) ≡ suc (count_trailing_zeros k a)
unfolding count_trailing_zeros
tz_even k a =
    let d : (a * 2) % 2 ≡ 0 = omega arith in
    let e : (a * 2) / 2 ≡ a = omega arith in
    rw (d, e)

bits : (n : ℕ) → 8 * suc n ≡ suc (suc (suc (suc (suc (suc (suc (suc (8 * n))))))))
bits n = omega arith

zeros_next : (n a : ℕ) → count_trailing_zeros (8 * suc n) (a * 256) / 8 ≡ suc (count_trailing_zeros (8 * n) a / 8)
zeros_next n a =
    let e : a * 256 ≡ a * 2 * 2 * 2 * 2 * 2 * 2 * 2 * 2 = omega arith in
    rw (bits n, e, tz_even, tz_even, tz_even, tz_even, tz_even, tz_even, tz_even, tz_even) (omega arith)

-- where the m lowest digits are not all zeros, fewer than m zeros stand at the end
zeros_low : (m k a y : ℕ) → 0 < y → y < 2 ^ m → count_trailing_zeros (m + k) (a * 2 ^ m + y) < m
unfolding count_trailing_zeros
zeros_low zero k a y z h = absurd (omega arith)
zeros_low (suc m) k a y z h =
    let e : a * 2 ^ suc m + y ≡ (a * 2 ^ m + y / 2) * 2 + y % 2 = rw (pow-suc 2 m) (omega arith) in
    let d : ((a * 2 ^ m + y / 2) * 2 + y % 2) % 2 ≡ y % 2 = omega arith in
    let q : ((a * 2 ^ m + y / 2) * 2 + y % 2) / 2 ≡ a * 2 ^ m + y / 2 = omega arith in
    rw (e, suc-add m k, d, q) (go (y % 2) refl (zeros_low m k a (y / 2)))
  where
    go : (r : ℕ) → y % 2 ≡ r → (0 < y / 2 → y / 2 < 2 ^ m → count_trailing_zeros (m + k) (a * 2 ^ m + y / 2) < m)
        → under r (count_trailing_zeros (m + k) (a * 2 ^ m + y / 2)) < suc m
    go zero e ih = omega (arith, ih (omega arith) (omega (arith, pow-suc 2 m)))
    go (suc r) e ih = omega arith

-- a number of k digits that is not 0 has fewer zeros
zeros_lt : (k n : ℕ) → 0 < n → n < 2 ^ k → count_trailing_zeros k n < k
zeros_lt k n p h = let e : 0 * 2 ^ k + n ≡ n = omega arith in rw (e, add-zero k) at (zeros_low k 0 0 n p h)

zeros_end : (n a b : ℕ) → 0 < b → b < 256 → count_trailing_zeros (8 * suc n) (a * 256 + b) / 8 ≡ 0
zeros_end n a b l h = let size : 8 * suc n ≡ 8 + 8 * n = omega arith in rw size (omega (arith, zeros_low 8 (8 * n) a b l h))

-- the zeros at a number's end, by bytes
pub zeros_before : (n w : ℕ) → count_trailing_zeros (8 * n) w / 8 ≡ before_mark n w
unfolding before_mark count_trailing_zeros
zeros_before zero w = refl
zeros_before (suc n) w =
    let split : w ≡ w / 256 * 256 + w % 256 = omega arith in
    ap (λ x. count_trailing_zeros (8 * suc n) x / 8) split ∙ go (w % 256) (mod-lt w (zero-lt-suc 255)) (zeros_before n (w / 256))
  where
    go : (b : ℕ) → b < 256 → count_trailing_zeros (8 * n) (w / 256) / 8 ≡ before_mark n (w / 256)
        → count_trailing_zeros (8 * suc n) (w / 256 * 256 + b) / 8 ≡ cond (eqb b 0) (suc (before_mark n (w / 256))) 0
    go zero l ih = rw (add-zero (w / 256 * 256), zeros_next n (w / 256), ih) refl
    go (suc b) l ih = rw (ne_eqb (suc b) 0 (λ z. omega arith)) (zeros_end n (w / 256) (suc b) (omega arith) l)

-- no mark is before all n bytes
pub before_all : (n : ℕ) → before_mark n 0 ≡ n
unfolding before_mark
before_all zero = refl
before_all (suc n) = ap suc (before_all n)

-- of eight bytes that are not all 0, fewer than eight
pub before_lt : (w : ℕ) → 0 < w → w < 2 ^ 64 → before_mark 8 w < 8
before_lt w p h = omega (arith, zeros_before 8 w, zeros_lt 64 w p h)

-- P n p k speaks of the n bytes from a place p on, the first k of which f makes zero. What holds of no bytes, of a first one that f makes something else, and of one
-- more that it makes zero, holds with the number of bytes that f makes zero before the first other.
module _ (f : ℕ → ℕ) (small : Small f) (s : List ℕ) (bytes : Bytes s) (P : ℕ → ℕ → ℕ → Type 0) where
  module _ (none : (p : ℕ) → P 0 p 0) (end : (n p : ℕ) → 0 < f (get_or s p 0) → P (suc n) p 0)
      (more : (n p k : ℕ) → f (get_or s p 0) ≡ 0 → P n (suc p) k → P (suc n) p (suc k)) where
    pub before_run : (n p : ℕ) → P n p (before_mark n (lanes n f (number_of (take n (drop p s)))))
    unfolding before_mark
    before_run zero p = none p
    before_run (suc n) p =
        rw (number_next s p n, lanes_next n f (number_of (take n (drop (suc p) s))) (get_or s p 0) (bytes p), digits_mod rest (small (get_or s p 0) (bytes p)), digits_div rest (small (get_or s p 0) (bytes p)))
        (go (f (get_or s p 0)) refl (before_run n (suc p)))
      where
        rest : ℕ
        rest = lanes n f (number_of (take n (drop (suc p) s)))

        go : (b : ℕ) → f (get_or s p 0) ≡ b → P n (suc p) (before_mark n rest) → P (suc n) p (cond (eqb b 0) (suc (before_mark n rest)) 0)
        go zero e ih = more n p _ e ih
        go (suc b) e ih = rw (ne_eqb (suc b) 0 (λ z. omega arith)) (end n p (omega arith))
