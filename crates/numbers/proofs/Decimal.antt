-- A decimal integer of digits alone, by the bytes at a place.
use Prim.Native.Nat.{ℕ, zero, suc, ◌+◌, ◌-◌, ◌≤◌, ◌<◌}
use Prim.Native.Char.{code}
use mathlib.Core.Path.{◌≡◌, refl, sym, ap, ◌∙◌}
use mathlib.Core.Bool.{Bool, true, false, ◌||◌, false≢true}
use mathlib.Core.List.{List}
use mathlib.Core.Logic.{◌≢◌, ⊎_elim}
use native.Mathlib.Omega.{arith}
use native.Mathlib.Decide.{dec_lt}
use lib.Dec.{eqb, lit≤}
use lib.ListN.{length, get_or, drop}
use borrow.Author.Tests.{eqb-true, eqb-false, ne_eqb}
use Rattle.basics.specs.Between.{between}
use Rattle.basics.proofs.Choice.{cond_ind, either, between_true}
use Rattle.basics.proofs.Lists.{reach}
use Rattle.utf8.specs.Chars.{chars}
use Rattle.kinds.specs.Kinds.{INT}
use Rattle.digits.specs.Digit.{digit_val, is_decimal}
use Rattle.numbers.specs.declared.Spelling.TheVariants.{AsRead}
use Rattle.numbers.specs.Run.{Run, longer_run, digit_run}
use Rattle.numbers.specs.Number.{NumberSaid, decimal, bare_zero, zero_by, without_i, number, number_at}
use Rattle.numbers.proofs.Runs.{run_end, run_digit, run_other}
use Rattle.numbers.proofs.Numerals.{finish_end, rest_plain, decimal_good, octal_is, bare_decimal, zero_is, without_zero, without_other}
use Rattle.numbers.proofs.Placed.{number_other}

-- the number of a decimal digit, and of any other byte
decimal_low : (b : ℕ) → is_decimal b ≡ true → digit_val b < 10
unfolding digit_val
decimal_low b d = let q = between_true (code "0") b (code "9") d in rw d (omega (arith, q))

other_high : (b : ℕ) → is_decimal b ≡ false → 10 ≤ digit_val b
unfolding digit_val
other_high b d =
    rw d
    (cond_ind (λ v. 10 ≤ v) (between (code "a") b (code "f")) _ _ (λ t. omega (arith, between_true (code "a") b (code "f") t))
    (λ _. cond_ind (λ v. 10 ≤ v) (between (code "A") b (code "F")) _ _ (λ t. omega (arith, between_true (code "A") b (code "F") t)) (λ _. omega arith)))

-- n digits, and after them neither a digit nor an underscore
run_of : (s : List ℕ) (n at end : ℕ) → at + n ≡ end → ((p : ℕ) → at ≤ p → p < end → is_decimal (get_or s p 0) ≡ true)
    → is_decimal (get_or s end 0) ≡ false → get_or s end 0 ≢ code "_" → digit_run 10 false (chars (drop at s)) ≡ record { len = n; misplaced = false }
run_of s zero at end e all d u =
    let same : at ≡ end = omega (arith, e) in
    rw same
    (elim (dec_lt end (length s)) [ yes h ↦ run_other 10 s end h (other_high (get_or s end 0) d) false u | no h ↦ run_end 10 s end false (omega arith) ])
run_of s (suc n) at end e all d u =
    let here = all at (omega arith) (omega (arith, e)) in
    run_digit 10 s at (reach s at (omega (arith, between_true (code "0") (get_or s at 0) (code "9") here))) false (decimal_low (get_or s at 0) here) (lit≤ tt)
    ∙ ap longer_run (run_of s n (at + 1) end (omega (arith, e)) (λ p l h. all p (omega arith) h) d u)

-- a character that a number may go on with: a digit, a letter, an underscore, a point
abbrev pub goes_on : ℕ → Bool
goes_on c = is_decimal c || between (code "a") c (code "z") || between (code "A") c (code "Z") || eqb c (code "_") || eqb c (code ".")

module _ (s : List ℕ) (at end : ℕ) (some : at < end) (all : (p : ℕ) → at ≤ p → p < end → is_decimal (get_or s p 0) ≡ true)
    (behind : goes_on (get_or s end 0) ≡ false) where
  none_of : (x : ℕ) → goes_on x ≡ true → get_or s end 0 ≢ x
  none_of x t e = false≢true (sym behind ∙ ap goes_on e ∙ t)

  no_digit : is_decimal (get_or s end 0) ≡ false
  no_digit =
      ⊎_elim (λ (d : is_decimal (get_or s end 0) ≡ true). absurd (false≢true (sym behind ∙ rw d))) (λ d. d) (either (is_decimal (get_or s end 0)))

  run_is : digit_run 10 false (chars (drop at s)) ≡ record { len = end - at; misplaced = false }
  run_is = run_of s (end - at) at end (omega arith) all no_digit (none_of (code "_") refl)

  abbrev Integer : NumberSaid
  Integer = record { kind = INT; end = end; error = 0; spelling = AsRead }

  decimal_is : number_at at (decimal (chars (drop at s))) ≡ Integer
  decimal_is =
      let e : at + (end - at) ≡ end = omega arith in
      rw (run_is, e) at (decimal_good s at (ap (λ (d : Run). d.misplaced) run_is))
      ∙ rest_plain s end (none_of (code ".") refl) ∙ finish_end s end INT (none_of (code "e") refl) (none_of (code "E") refl)

  -- a 0 by itself
  module _ (z : get_or s at 0 ≡ code "0") (e : at + 1 ≡ end) where
    bare_is : zero_by (get_or s end 0) (chars (drop at s)) ≡ bare_zero (chars (drop at s))
    bare_is =
        rw (
          ne_eqb _ _ (none_of (code "x") refl),
          ne_eqb _ _ (none_of (code "X") refl),
          ne_eqb _ _ (none_of (code "o") refl),
          ne_eqb _ _ (none_of (code "O") refl),
          ne_eqb _ _ (none_of (code "b") refl),
          ne_eqb _ _ (none_of (code "B") refl),
        )

    zero_alone : number_at at (without_i (chars (drop at s))) ≡ Integer
    zero_alone =
        without_zero s at z ∙ ap (number_at at) (zero_is s at z ∙ ap (λ p. zero_by (get_or s p 0) (chars (drop at s))) e ∙ bare_is)
        ∙ bare_decimal s at z (octal_is s at z ∙ rw (e, no_digit, ne_eqb _ _ (none_of (code "_") refl))) ∙ decimal_is

  module _ (alone : get_or s at 0 ≡ code "0" → at + 1 ≡ end) where
    without_is : number_at at (without_i (chars (drop at s))) ≡ Integer
    without_is =
        let first = between_true (code "0") (get_or s at 0) (code "9") (all at (omega arith) some) in
        ⊎_elim (λ t. let z = eqb-true (get_or s at 0) (code "0") t in zero_alone z (alone z))
        (λ f. without_other s at (λ e. omega (arith, e, first)) (eqb-false (get_or s at 0) (code "0") f) ∙ decimal_is)
        (either (eqb (get_or s at 0) (code "0")))

    pub integer_is : number_at at (number (chars (drop at s))) ≡ record { kind = INT; end = end; error = 0; spelling = AsRead }
    integer_is =
        let kind = ap (λ (x : NumberSaid). x.kind) without_is in
        let reached = ap (λ (x : NumberSaid). x.end) without_is in
        number_other s at (λ e. omega (arith, kind, e)) (λ e. none_of (code "i") refl (ap (λ p. get_or s p 0) (sym reached) ∙ e)) ∙ without_is
