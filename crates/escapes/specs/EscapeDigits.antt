-- The digits of an escape.
use Rattle.std.specs.Prelude.{ℕ, zero, suc, ◌+◌, ◌*◌, cond, List, [], ◌∷◌, ltb}
use Rattle.utf8.specs.declared.Char.{Char}
use Rattle.errors.specs.Numbers.{CUT_ESCAPE, BAD_ESCAPE}
use Rattle.digits.specs.Digit.{digit_val}

-- digits that were read: their value, how many, and the number of the error where they are too few
pub record Digits : Type 0 where
  pub value : ℕ
  pub len : ℕ
  pub error : ℕ

-- no more digits are read
abbrev pub no_more_digits : ℕ → ℕ → Digits
no_more_digits value error = record { value = value; len = 0; error = error }

-- one digit before
abbrev pub one_digit_more : Digits → Digits
one_digit_more n = record { value = n.value; len = suc n.len; error = n.error }

-- exactly so many digits below the base, after digits of the value given: an error where the end
-- cuts them, and where another character comes instead
unfoldable pub escape_digits : ℕ → ℕ → ℕ → List Char → Digits
escape_digits base zero value r = no_more_digits value 0
escape_digits base (suc n) value [] = no_more_digits value CUT_ESCAPE
escape_digits base (suc n) value (c ∷ r) =
    cond (ltb (digit_val c.code) base) (one_digit_more (escape_digits base n (value * base + digit_val c.code) r)) (no_more_digits value BAD_ESCAPE)
