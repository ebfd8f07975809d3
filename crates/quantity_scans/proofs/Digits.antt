-- The digits of a number's text are those of the bytes read: a letter in lower case is the same
-- digit, and an o is none.
use Prim.Native.Nat.{ℕ, ◌+◌, ◌*◌, ◌≤◌}
use Prim.Native.Char.{code}
use mathlib.Core.Path.{◌≡◌, refl, ap, ◌∙◌}
use mathlib.Core.Bool.{Bool, cond}
use mathlib.Core.List.{List, [], ◌∷◌}
use native.Mathlib.Omega.{arith}
use native.Mathlib.Decide.{dec_lt}
use lib.Dec.{ltb, eqb, eqb→eq}
use borrow.Author.Tests.{le-ltb}
use Rattle.basics.proofs.Choice.{above_it}
use Rattle.basics.proofs.Every.{every_below}
use Rattle.digits.specs.Digit.{digit_val}
use Rattle.numbers.specs.declared.Spelling.TheVariants.{AsRead, LowerPrefix, OctalPrefix, LowerExponent}
use Rattle.numbers.specs.Spelling.{lower, lower_e, number_text}
use Rattle.writing.specs.Spelled.{lower_exponent}
use Rattle.quantity.specs.Text.{digits_from}
use Rattle.quantity_scans.specs.Digits.{DigitsAsRead}
use Rattle.quantity_scans.proofs.Lowered.{by_e, digit_e}

-- ---- a letter in lower case
is_same : ℕ → Bool
is_same b = eqb (digit_val (lower b)) (digit_val b)

lower_digit : (b : ℕ) → digit_val (lower b) ≡ digit_val b
unfolding is_same digit_val
lower_digit b =
    elim (dec_lt b 0x80) [
      | yes h ↦ eqb→eq _ _ (every_below is_same 0x80 tt b h)
      | no h ↦ rw (above_it (code "A") b (code "Z") (omega arith) (omega arith))
    ]

-- ---- a byte that is the same digit, and one that is none
module _ (base : ℕ) where
  same_digit : (n b c : ℕ) (t : List ℕ) → digit_val b ≡ digit_val c → digits_from base n (b ∷ t) ≡ digits_from base n (c ∷ t)
  unfolding digits_from
  same_digit n b c t e = ap (λ v. digits_from base (cond (ltb v base) (n * base + v) n) t) e

  no_digit : (n b : ℕ) (t : List ℕ) → base ≤ digit_val b → digits_from base n (b ∷ t) ≡ digits_from base n t
  unfolding digits_from
  no_digit n b t h = rw (le-ltb (digit_val b) base h)

  -- the first byte, and what follows it
  same_first : (n b : ℕ) (s t : List ℕ) → ((m : ℕ) → digits_from base m s ≡ digits_from base m t) → digits_from base n (b ∷ s) ≡ digits_from base n (b ∷ t)
  unfolding digits_from
  same_first n b s t f = f (cond (ltb (digit_val b) base) (n * base + digit_val b) n)

  lowered_digits : (n : ℕ) (bytes : List ℕ) → digits_from base n (lower_e bytes) ≡ digits_from base n bytes
  lowered_digits n [] = refl
  lowered_digits n (b ∷ bytes) =
      same_digit n (lower_exponent b) b (lower_e bytes) (by_e digit_val digit_e b) ∙ same_first n b (lower_e bytes) bytes (λ m. lowered_digits m bytes)

no_o : digit_val (code "o") ≡ 16
unfolding digit_val
no_o = refl

pub digits_as_read : DigitsAsRead
unfolding number_text
digits_as_read base h AsRead bytes = refl
digits_as_read base h LowerPrefix [] = refl
digits_as_read base h LowerPrefix (a ∷ []) = refl
digits_as_read base h LowerPrefix (a ∷ b ∷ bytes) =
    same_first base 0 a (lower b ∷ bytes) (b ∷ bytes) (λ m. same_digit base m (lower b) b bytes (lower_digit b))
digits_as_read base h OctalPrefix [] = refl
digits_as_read base h OctalPrefix (a ∷ bytes) =
    same_first base 0 a (code "o" ∷ bytes) bytes (λ m. no_digit base m (code "o") bytes (omega (arith, no_o)))
digits_as_read base h LowerExponent bytes = lowered_digits base 0 bytes
