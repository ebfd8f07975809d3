-- Laws of the digits of an escape: one step at a place of a text, by the byte there, and the size of their value.
use Prim.Native.Nat.{ℕ, zero, suc, ◌+◌, ◌*◌, ◌-◌, ◌^◌, ◌≤◌, ◌<◌, suc-le-suc}
use mathlib.Core.Path.{◌≡◌, ap, ◌∙◌}
use mathlib.Core.List.{List, [], ◌∷◌}
use native.Mathlib.Omega.{arith}
use native.Mathlib.Numerals.{add-one}
use native.Mathlib.Nat.{add-zero, pow-suc, pow-le-pow_right, mul-le-mul, suc-mul}
use lib.Dec.{ltb}
use lib.ListN.{length, get_or, drop}
use borrow.Author.Tests.{lt-ltb, le-ltb}
use Rattle.basics.proofs.Choice.{cond_ind}
use Rattle.utf8.specs.declared.Char.{Char}
use Rattle.utf8.specs.Chars.{chars}
use Rattle.utf8.proofs.First.{chars_at, chars_end, chars_ascii}
use Rattle.errors.specs.Numbers.{CUT_ESCAPE, BAD_ESCAPE}
use Rattle.digits.specs.Digit.{digit_val}
use Rattle.digits.proofs.Digits.{digit_low, digit_there}
use Rattle.escapes.specs.EscapeDigits.{Digits, no_more_digits, one_digit_more, escape_digits}

-- n digits before
abbrev pub grown : ℕ → Digits → Digits
grown n d = record { value = d.value; len = n + d.len; error = d.error }

pub grown_more : (n : ℕ) (d : Digits) → grown n (one_digit_more d) ≡ grown (n + 1) d
grown_more n d = let e : n + suc d.len ≡ n + 1 + d.len = omega arith in rw e

pub grown_stop : (n v e : ℕ) → grown n (no_more_digits v e) ≡ record { value = v; len = n; error = e }
grown_stop n v e = rw (add-zero n)

-- the digits that are left after the first so many of them
abbrev pub left_of : ℕ → ℕ → List ℕ → ℕ → ℕ → ℕ → Digits
left_of base count s at len v = escape_digits base (count - len) v (chars (drop (at + len) s))

module _ (base count : ℕ) (s : List ℕ) (at len v : ℕ) where
  pub all_read : count ≤ len → left_of base count s at len v ≡ no_more_digits v 0
  unfolding escape_digits
  all_read h = let none : count - len ≡ 0 = omega arith in rw none

  module _ (some : len < count) where
    one_less : count - len ≡ suc (count - (len + 1))
    one_less = omega arith

    pub next_cut : length s ≤ at + len → left_of base count s at len v ≡ no_more_digits v CUT_ESCAPE
    unfolding escape_digits
    next_cut h = rw (one_less, chars_end s (at + len) h)

    module _ (h : at + len < length s) where
      pub next_off : base ≤ digit_val (get_or s (at + len) 0) → left_of base count s at len v ≡ no_more_digits v BAD_ESCAPE
      unfolding escape_digits
      next_off d = rw (one_less, chars_at s (at + len) h, digit_there s (at + len) h, le-ltb _ _ d)

      pub next_digit : digit_val (get_or s (at + len) 0) < base → base ≤ 16
          → left_of base count s at len v ≡ one_digit_more (left_of base count s at (len + 1) (v * base + digit_val (get_or s (at + len) 0)))
      unfolding escape_digits
      next_digit d l =
          let place : at + (len + 1) ≡ at + len + 1 = omega arith in
          ap (λ n. escape_digits base n v (chars (drop (at + len) s))) one_less
          ∙ rw (place, chars_ascii s (at + len) h (digit_low (get_or s (at + len) 0) (omega (arith, d, l))), lt-ltb _ _ d)

-- no more digits than asked for
pub digits_len : (base n v : ℕ) (r : List Char) → (escape_digits base n v r).len ≤ n
unfolding escape_digits
digits_len base zero v r = omega arith
digits_len base (suc n) v [] = omega arith
digits_len base (suc n) v (c ∷ r) =
    cond_ind (λ (x : Digits). x.len ≤ suc n) (ltb (digit_val c.code) base) _ _
    (λ _. suc-le-suc (digits_len base n (v * base + digit_val c.code) r)) (λ _. omega arith)

-- ---- eight hexadecimal digits fit 32 bits
pub grow : (v b d k : ℕ) → v < 16 ^ k → b ≤ 16 → d < b → v * b + d < 16 ^ (k + 1)
grow v b d k h hb hd = rw (add-one, pow-suc) (omega (arith, mul-le-mul h hb, suc-mul v b))

pub small : (k : ℕ) → k ≤ 8 → 16 ^ k ≤ 4294967296
small k h = pow-le-pow_right (omega arith) h

-- a value with a digit more still fits
pub room : (v b d k : ℕ) → v < 16 ^ k → k < 8 → b ≤ 16 → d < b → v * b + d < 4294967296
room v b d k h hk hb hd = omega (arith, grow v b d k h hb hd, small (k + 1) (omega arith))
