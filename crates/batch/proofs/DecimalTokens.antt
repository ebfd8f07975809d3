-- A decimal integer that was given is one that the lexer says.
use Prim.Native.Nat.{ℕ, ◌+◌, ◌-◌, ◌≤◌, ◌<◌}
use mathlib.Core.Path.{◌≡◌, refl, sym, ap, ◌∙◌}
use mathlib.Core.Bool.{Bool, true, false, not, ◌||◌, true≢false}
use mathlib.Core.List.{List}
use mathlib.Core.Logic.{⊎_elim}
use native.Mathlib.Omega.{arith}
use native.Mathlib.Nat.{add-zero}
use native.Mathlib.Decide.{dec_lt}
use Rattle.std.specs.Prelude.{None}
use lib.ListN.{length, get_or, take, drop, length-drop}
use lib.Seq.{length-take-le, get_or-drop}
use Rattle.std.proofs.lemmas.List.{get_or-take}
use Rattle.basics.proofs.Choice.{either, between_true, true_of}
use Rattle.basics.proofs.Every.{every_below}
use Rattle.basics.proofs.Lists.{reach}
use Rattle.utf8.specs.Chars.{chars}
use Rattle.digits.specs.Digit.{is_decimal}
use Rattle.kinds.specs.Kinds.{INT}
use Rattle.kinds.specs.declared.kind.Kind.TheVariants.{Int}
use Rattle.kinds.specs.Table.{operators}
use Rattle.words.specs.Word.{is_letter}
use Rattle.numbers.specs.declared.Spelling.TheVariants.{AsRead as Same}
use Rattle.numbers.specs.Number.{Numeral, NumberSaid, number, number_at}
use Rattle.numbers.proofs.Decimal.{goes_on, integer_is}
use Rattle.lexer.specs.declared.lexed.Text.TheVariants.{Number as NumberText}
use Rattle.lexer.specs.Lex.{lex_token}
use Rattle.lexer.specs.Made.{shown_as, answer_with}
use Rattle.lexer.specs.Placed.{placed, said}
use Rattle.lexer.proofs.Ways.{number_there}
use Rattle.lexer.proofs.Numerals.{numeral_at, numeral_said}
use Rattle.lexer.proofs.Dispatch.{number_is}
use Rattle.batch.specs.declared.next.Next.{Next}
use Rattle.batch.specs.declared.first.First.{First}
use Rattle.batch.specs.declared.first.First.TheVariants.{Letter, Delimiter, Point, LineFeed, Operator, Digit, Quote, Other}
use Rattle.batch.specs.KindOf.{all_kinds}
use Rattle.batch.specs.Simple.{rows_from, first_of, DigitsBefore, simple_token, Gave}
use Rattle.batch.proofs.SimpleTokens.{letter_past}
use Rattle.batch.proofs.Giving.{gives_plain}

none_of_two : (a b c : Bool) → not a || (b || not c) ≡ true → b ≡ false → c ≡ true → a ≡ false
none_of_two false b c t x y = refl
none_of_two true b c t x y = sym t ∙ rw (x, y)

-- neither a letter nor a point
abbrev pub ends_number : First → Bool
ends_number Letter = false
ends_number (Delimiter kind) = true
ends_number Point = false
ends_number LineFeed = true
ends_number Operator = true
ends_number Digit = true
ends_number Quote = true
ends_number Other = true

pub number_ends : (x : First) → (x ≡ Letter → ⊥) → (x ≡ Point → ⊥) → ends_number x ≡ true
number_ends Letter l p = absurd (l refl)
number_ends (Delimiter kind) l p = refl
number_ends Point l p = absurd (p refl)
number_ends LineFeed l p = refl
number_ends Operator l p = refl
number_ends Digit l p = refl
number_ends Quote l p = refl
number_ends Other l p = refl

-- a byte with which no number goes on, by what it tells
pub goes_not_on : (b : ℕ) → b < 256 → is_decimal b ≡ false → ends_number (first_of b) ≡ true → goes_on b ≡ false
unfolding first_of rows_from operators is_letter all_kinds
goes_not_on b h d e =
    none_of_two (goes_on b) (is_decimal b) (ends_number (first_of b))
    (true_of _ (every_below (λ x. not (goes_on x) || (is_decimal x || not (ends_number (first_of x)))) 256 tt b h)) d e

module _ (src : List ℕ) (at end : ℕ) (some : at < end) (all : (p : ℕ) → at ≤ p → p < end → is_decimal (get_or src p 0) ≡ true)
    (behind : goes_on (get_or src end 0) ≡ false) (alone : get_or src at 0 ≡ 48 → at + 1 ≡ end) where
  first : is_decimal (get_or src at 0) ≡ true
  first = all at (omega arith) some

  no_letter : is_letter (get_or src at 0) ≡ false
  no_letter =
      ⊎_elim
      (λ (l : is_letter (get_or src at 0) ≡ true). absurd (omega (arith, letter_past (get_or src at 0) l, between_true 48 (get_or src at 0) 57 first)))
      (λ l. l) (either (is_letter (get_or src at 0)))

  abbrev read : Numeral
  read = number (chars (drop at src))

  read_is : number_at at read ≡ record { kind = INT; end = end; error = 0; spelling = Same }
  read_is = integer_is src at end some all behind alone

  integer_reads : (m : Bool)
      → said src at (answer_with None Int end (end - at) false true (shown_as (NumberText Same) (end - at) false)) ≡ placed src at (lex_token m (chars (drop at src)))
  integer_reads m =
      let reached : end ≡ at + read.len = sym (ap (λ (x : NumberSaid). x.end) read_is) in
      let spelled : Same ≡ read.spelling = sym (ap (λ (x : NumberSaid). x.spelling) read_is) in
      ap (λ k. said src at (answer_with None Int end (end - at) false true (shown_as (NumberText Same) k false))) (sym (add-zero (end - at)))
      ∙ (λ i. said src at (numeral_at src at Int None (reached i) (spelled i)))
      ∙ numeral_said src at (number_there src at (rw first)) Int None (sym (ap (λ (x : NumberSaid). x.kind) read_is)) (sym (ap (λ (x : NumberSaid). x.error) read_is))
      ∙ ap (placed src at)
      (number_is m src at (reach src at (omega (arith, between_true 48 (get_or src at 0) 57 first))) (get_or src (at + 1) 0) refl no_letter (rw first))

  pub gives_integer : (safe position : ℕ) → end < safe + 16
      → {r : Next} → r ≡ record { token = simple_token INT false position at end; place = end; mark = true } → Gave src at safe position r
  gives_integer safe position near e =
      let whole : at + (end - at) ≡ end = omega arith in
      gives_plain src at safe position Int end (end - at) false true (NumberText Same) (end - at) integer_reads refl refl refl near (e ∙ rw whole)

-- digits from a place on, at the latest to the safe place, where the first byte is one
module _ (src : List ℕ) (at safe n : ℕ) (inside : safe < length src) (is : DigitsBefore (take (safe - at) (drop at src)) n) where
  within : at + n < safe
  within = omega (arith, is.0, length-take-le (safe - at) (drop at src) (omega (arith, length-drop at src)))

  read_at : (k : ℕ) → k < safe - at → get_or (take (safe - at) (drop at src)) k 0 ≡ get_or src (at + k) 0
  read_at k h = get_or-take (safe - at) (drop at src) k 0 h ∙ get_or-drop at src k 0

  pub digits_end : (at + n < safe) × (is_decimal (get_or src (at + n) 0) ≡ false)
  digits_end = (within, sym (ap is_decimal (read_at n (omega (arith, within)))) ∙ is.1)

  pub digits_all : (p : ℕ) → at ≤ p → p < at + n → is_decimal (get_or src p 0) ≡ true
  digits_all p low h =
      let e : at + (p - at) ≡ p = omega arith in
      ap (λ q. is_decimal (get_or src q 0)) (sym e) ∙ sym (ap is_decimal (read_at (p - at) (omega (arith, within)))) ∙ is.2 (p - at) (omega arith)

  pub some_digit : is_decimal (get_or src at 0) ≡ true → at < at + n
  some_digit d =
      elim (dec_lt 0 n) [
        | yes k ↦ omega arith
        | no k ↦ let e : at + n ≡ at = omega arith in absurd (true≢false (sym d ∙ rw e at digits_end.1))
      ]
