-- The number that the text of a literal denotes: one definition for every base, for digit groups,
-- for a fraction and for an exponent. It is meant for texts that a scan gives an INT or a FLOAT, with
-- prefix and exponent in lower case. Of other texts it says something too, but nobody asks.
use Rattle.std.specs.Prelude.{ℕ, suc, ◌+◌, ◌*◌, ◌^◌, Bool, cond, List, [], ◌∷◌, ltb, eqb, take, drop, get_or}
use Prim.Native.Char.{code}
use Rattle.digits.specs.Digit.{digit_val, is_decimal}
use Rattle.quantity.specs.Pair.{Rational}

-- n, and after it the digits of a base in a text. Bytes that are no digits of the base count nothing:
-- underscores, a point, a sign
unfoldable pub digits_from : ℕ → ℕ → List ℕ → ℕ
digits_from base n [] = n
digits_from base n (b ∷ t) = digits_from base (cond (ltb (digit_val b) base) (n * base + digit_val b) n) t

-- the digits of a base in a text, as a number. A prefix of that base counts nothing: its 0 comes
-- first, and its letter is no digit of its own base
abbrev pub digits_of : ℕ → List ℕ → ℕ
digits_of base t = digits_from base 0 t

-- how many decimal digits a text has
unfoldable pub digit_count : List ℕ → ℕ
digit_count [] = 0
digit_count (b ∷ t) = cond (is_decimal b) (suc (digit_count t)) (digit_count t)

-- how many bytes are before the first c
unfoldable pub first_at : ℕ → List ℕ → ℕ
first_at c [] = 0
first_at c (b ∷ t) = cond (eqb b c) 0 (suc (first_at c t))

-- what is before the first c, and what is from there on: all of it and nothing, if there is no c
abbrev pub up_to : ℕ → List ℕ → List ℕ
up_to c t = take (first_at c t) t

abbrev pub from : ℕ → List ℕ → List ℕ
from c t = drop (first_at c t) t

-- ---- a decimal number: figures, some of them after a point, and an exponent
-- an exponent starts with its e; a minus may follow
abbrev pub is_negative : List ℕ → Bool
is_negative exponent = eqb (get_or exponent 1 0) (code "-")

-- n / 10^places, times 10^x, or divided by it
abbrev pub scaled_by : ℕ → ℕ → Bool → ℕ → Rational
scaled_by n places negative x =
    cond negative (record { over = n; under = 10 ^ (places + x) }) (record { over = n * 10 ^ x; under = 10 ^ places })

-- by the figures, with their point, and the exponent
abbrev pub decimal_by : List ℕ → List ℕ → Rational
decimal_by figures exponent =
    scaled_by (digits_of 10 figures) (digit_count (from (code ".") figures)) (is_negative exponent) (digits_of 10 exponent)

unfoldable pub decimal_in : List ℕ → Rational
decimal_in t = decimal_by (up_to (code "e") t) (from (code "e") t)

-- ---- a whole number of a base
abbrev pub whole_in : ℕ → List ℕ → Rational
whole_in base t = record { over = digits_of base t; under = 1 }

-- ---- the base, by the first two bytes: 0x, 0o, 0b, or none of them
abbrev pub base_by : ℕ → ℕ → ℕ
base_by first second =
    cond (eqb first (code "0"))
    (cond (eqb second (code "x")) 16 (cond (eqb second (code "o")) 8 (cond (eqb second (code "b")) 2 10)))
    10

unfoldable pub base_of : List ℕ → ℕ
base_of t = base_by (get_or t 0 0) (get_or t 1 0)

-- the number that a text denotes
unfoldable pub denoted : List ℕ → Rational
denoted t = cond (eqb (base_of t) 10) (decimal_in t) (whole_in (base_of t) t)
