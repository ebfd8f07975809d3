-- Laws of digits: the tests of the code in their order, and the digit at a place of a text.
use Prim.Native.Nat.{ℕ, ◌+◌, ◌-◌, ◌≤◌, ◌<◌}
use Prim.Native.Char.{code}
use mathlib.Core.Path.{◌≡◌, sym}
use mathlib.Core.Bool.{Bool, cond}
use mathlib.Core.List.{List}
use native.Mathlib.Omega.{arith}
use native.Mathlib.Decide.{dec_lt}
use lib.Dec.{ltb, leb, eqb, eqb→eq}
use lib.ListN.{length, get_or, drop}
use borrow.Author.Tests.{lt-ltb, le-ltb, lt-leb, le-leb}
use Rattle.basics.proofs.Every.{every_below}
use Rattle.utf8.specs.Chars.{first_char}
use Rattle.utf8.proofs.Places.{test_there}
use Rattle.digits.specs.Digit.{digit_val}
use Rattle.digits.specs.declared.Base.{Base}
use Rattle.digits.specs.declared.Base.TheVariants.{Binary, Octal, Decimal, Hexadecimal}
use Rattle.digits.specs.Base.{base_number}

-- the same number by the bounds of the ranges, in their order
abbrev pub by_bounds : ℕ → ℕ
by_bounds b =
    cond (ltb b (code "0")) 16
    (cond (leb b (code "9")) (b - code "0")
    (cond (ltb b (code "A")) 16
    (cond (leb b (code "F")) (b - code "A" + 10)
    (cond (ltb b (code "a")) 16
    (cond (leb b (code "f")) (b - code "a" + 10)
    16)))))

right : ℕ → Bool
right b = eqb (by_bounds b) (digit_val b)

pub digit_by_bounds : (b : ℕ) → b < 256 → by_bounds b ≡ digit_val b
unfolding right digit_val
digit_by_bounds b h = eqb→eq _ _ (every_below right 256 tt b h)

-- the number on each range that the tests of the code leave
module _ (b : ℕ) (h : b < 256) where
  pub before_digits : b < 48 → digit_val b ≡ 16
  before_digits u = sym (simp (lt-ltb _ _ u) at (digit_by_bounds b h))

  pub decimal : 48 ≤ b → b ≤ 57 → digit_val b ≡ b - 48
  decimal l u = sym (simp (le-ltb _ _ l, le-leb _ _ u) at (digit_by_bounds b h))

  pub after_digits : 57 < b → b < 65 → digit_val b ≡ 16
  after_digits l u =
      let x : 48 ≤ b = omega arith in
      sym (simp (le-ltb _ _ x, lt-leb _ _ l, lt-ltb _ _ u) at (digit_by_bounds b h))

  pub upper_case : 65 ≤ b → b ≤ 70 → digit_val b ≡ b - 65 + 10
  upper_case l u =
      let x : 48 ≤ b = omega arith in
      let y : 57 < b = omega arith in
      sym (simp (le-ltb _ _ x, lt-leb _ _ y, le-ltb _ _ l, le-leb _ _ u) at (digit_by_bounds b h))

  pub after_upper_case : 70 < b → b < 97 → digit_val b ≡ 16
  after_upper_case l u =
      let x : 48 ≤ b = omega arith in
      let y : 57 < b = omega arith in
      let z : 65 ≤ b = omega arith in
      sym (simp (le-ltb _ _ x, lt-leb _ _ y, le-ltb _ _ z, lt-leb _ _ l, lt-ltb _ _ u) at (digit_by_bounds b h))

  pub lower_case : 97 ≤ b → b ≤ 102 → digit_val b ≡ b - 97 + 10
  lower_case l u =
      let x : 48 ≤ b = omega arith in
      let y : 57 < b = omega arith in
      let z : 65 ≤ b = omega arith in
      let w : 70 < b = omega arith in
      sym (simp (le-ltb _ _ x, lt-leb _ _ y, le-ltb _ _ z, lt-leb _ _ w, le-ltb _ _ l, le-leb _ _ u) at (digit_by_bounds b h))

  pub after_lower_case : 102 < b → digit_val b ≡ 16
  after_lower_case l =
      let x : 48 ≤ b = omega arith in
      let y : 57 < b = omega arith in
      let z : 65 ≤ b = omega arith in
      let w : 70 < b = omega arith in
      let v : 97 ≤ b = omega arith in
      sym (simp (le-ltb _ _ x, lt-leb _ _ y, le-ltb _ _ z, lt-leb _ _ w, le-ltb _ _ v, lt-leb _ _ l) at (digit_by_bounds b h))

pub ruleset ranges = (before_digits, decimal, after_digits, upper_case, after_upper_case, lower_case, after_lower_case)

-- no character above 127 is a digit
pub digit_high : (c : ℕ) → 128 ≤ c → digit_val c ≡ 16
unfolding digit_val
digit_high c h =
    simp (le-leb (code "0") c (omega arith), lt-leb c (code "9") (omega arith), le-leb (code "a") c (omega arith), lt-leb c (code "f") (omega arith), le-leb (code "A") c (omega arith), lt-leb c (code "F") (omega arith))

pub digit_low : (c : ℕ) → digit_val c < 16 → c < 0x80
digit_low c l = elim (dec_lt c 0x80) [ yes k ↦ k | no k ↦ absurd (omega (arith, digit_high c (omega arith))) ]

-- the digit at a place may be read off the byte there
pub digit_there : (s : List ℕ) (p : ℕ) → p < length s → digit_val (first_char (drop p s)).code ≡ digit_val (get_or s p 0)
digit_there s p h = test_there s p digit_val digit_high h

-- ---- the bases
pub base_most : (b : Base) → base_number b ≤ 16
base_most Binary = omega arith
base_most Octal = omega arith
base_most Decimal = omega arith
base_most Hexadecimal = omega arith
