-- Worked examples, by computing.
use Prim.Native.Nat.{ℕ}
use Prim.Native.String.{String}
use mathlib.Core.Path.{◌≡◌, refl, ◌∙◌}
use mathlib.Core.List.{[], ◌∷◌, map}
use Rattle.basics.specs.Spelling.{spelled}
use Rattle.refusal.specs.Outcome.{Outcome, refused}
use Rattle.refusal.specs.Refusals.{NO_NUMBER, NO_PAIR}
use Rattle.utf8.specs.Chars.{first_char, chars_from}
use Rattle.kinds.specs.Kinds.{IDENT, INT, FLOAT, IMAG}
use Rattle.digits.specs.Digit.{digit_val}
use Rattle.numbers.specs.Run.{digit_run, strict_run, run_len}
use Rattle.numbers.specs.Number.{exponent, finish, fraction, decimal_rest, decimal, prefixed, bare_zero, leading_zero, without_i, number}
use Rattle.quantity.specs.declared.Quantity.{Quantity}
use Rattle.quantity.specs.Pair.{pair, first_pair, pair_of}
use Rattle.quantity.specs.Text.{digits_from, digit_count, first_at, decimal_in, base_of, denoted}
use Rattle.quantity.proofs.Values.{decimal_zero}
use Rattle.quantity_query.specs.Given.{is_given}
use Rattle.quantity_query.specs.Number.{number_behind}

-- what a text is answered, as a token of that kind
abbrev answered : ℕ → String → Outcome Quantity
answered kind text = number_behind kind (spelled text)

pub integers : map (answered INT) (
    "0" ∷ "1_000" ∷ "0x1F" ∷ "0x_dead_beef" ∷ "0o_600" ∷ "0o17" ∷ "0b101" ∷ "18446744073709551615" ∷ "18446744073709551616" ∷ "0xffffffffffffffff" ∷ "0x1_0000_0000_0000_0000" ∷ []
    )
    ≡ pair 0 0 ∷ pair 1000 0 ∷ pair 31 0 ∷ pair 3735928559 0 ∷ pair 384 0 ∷ pair 15 0 ∷ pair 5 0 ∷ pair 18446744073709551615 0 ∷ refused NO_PAIR ∷ pair 18446744073709551615 0
    ∷ refused NO_PAIR ∷ []
unfolding first_char chars_from digit_val digit_run strict_run run_len exponent finish fraction decimal_rest decimal prefixed bare_zero leading_zero without_i number first_pair digits_from digit_count first_at decimal_in base_of denoted is_given number_behind
integers = refl

pub floats : map (answered FLOAT) (
    "2.50e-1" ∷ "072.40" ∷ "1e19" ∷ "1e20" ∷ "0e99" ∷ "1e99" ∷ ".5" ∷ "1." ∷ "1e-18" ∷ "1e-19" ∷ "10e-19" ∷ "100000000000000000000000000000e-30" ∷ "1_000.000_100" ∷ "1_0.2_50e+0_1" ∷ []
    )
    ≡ pair 25 2 ∷ pair 724 1 ∷ pair 10000000000000000000 0 ∷ refused NO_PAIR ∷ pair 0 0 ∷ refused NO_PAIR ∷ pair 5 1 ∷ pair 1 0 ∷ pair 1 18 ∷ refused NO_PAIR ∷ pair 1 18
    ∷ pair 1 1 ∷ pair 10000001 4 ∷ pair 1025 1 ∷ []
unfolding first_char chars_from digit_val digit_run strict_run run_len exponent finish fraction decimal_rest decimal prefixed bare_zero leading_zero without_i number first_pair digits_from digit_count first_at decimal_in base_of denoted is_given number_behind
floats = refl

-- no scan shows these
pub others : answered INT "0X1F" ∷ answered INT "017" ∷ answered INT "0_600" ∷ answered INT "1__0" ∷ answered INT "1.5" ∷ answered INT "" ∷ answered FLOAT "e5" ∷ answered FLOAT "1E5" ∷ answered FLOAT "."
    ∷ answered FLOAT "1" ∷ answered FLOAT "1.5i" ∷ answered IMAG "1i" ∷ answered IDENT "x" ∷ []
    ≡ refused NO_NUMBER ∷ refused NO_NUMBER ∷ refused NO_NUMBER ∷ refused NO_NUMBER ∷ refused NO_NUMBER ∷ refused NO_NUMBER ∷ refused NO_NUMBER ∷ refused NO_NUMBER ∷ refused NO_NUMBER
    ∷ refused NO_NUMBER ∷ refused NO_NUMBER ∷ refused NO_NUMBER ∷ refused NO_NUMBER ∷ []
unfolding first_char chars_from digit_val digit_run strict_run run_len exponent finish fraction decimal_rest decimal prefixed bare_zero leading_zero without_i number is_given number_behind
others = refl

-- "`0e999999` is 0 and 0": by the law of zero, for 10^999999 is not computed
zero_given : answered FLOAT "0e999999" ≡ pair_of (decimal_in (spelled "0e999999"))
unfolding first_char chars_from digit_val digit_run strict_run run_len exponent finish fraction decimal_rest decimal prefixed bare_zero leading_zero without_i number base_of denoted is_given number_behind
zero_given = refl

zero_decimal : pair_of (decimal_in (spelled "0e999999")) ≡ pair 0 0
unfolding digit_val digits_from first_at decimal_in
zero_decimal = decimal_zero (spelled "0") (spelled "e999999") 0 0 refl refl

pub zero : answered FLOAT "0e999999" ≡ pair 0 0
zero = zero_given ∙ zero_decimal
