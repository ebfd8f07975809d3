-- The text of an octal number, and the source that has no o: it is the number of that text too.
-- With it a scan gives the longest texts, which have a byte more than a source may be read.
use Prim.Native.Nat.{ℕ, suc, ◌+◌, ◌≤◌}
use Prim.Native.Char.{code}
use mathlib.Core.Path.{◌≡◌, refl, sym, ap, ap₂, subst, ◌∙◌}
use mathlib.Core.Bool.{true, false, false≢true, and-false}
use mathlib.Core.List.{List, [], ◌∷◌}
use mathlib.Core.Logic.{◌≢◌}
use native.Mathlib.Omega.{arith}
use lib.Dec.{eqb, lit<}
use lib.ListN.{length, take}
use lib.Seq.{take-length, drop-length}
use borrow.Author.Tests.{eqb-true, ne_eqb}
use Rattle.basics.proofs.Choice.{and_split}
use Rattle.utf8.specs.declared.Char.{Char}
use Rattle.utf8.specs.Chars.{chars, peek}
use Rattle.utf8.proofs.First.{ascii, chars_ascii, chars_le}
use Rattle.errors.specs.Numbers.{BAD_OCTAL}
use Rattle.position.specs.Place.{max_position}
use Rattle.numbers.specs.declared.Spelling.TheVariants.{AsRead, OctalPrefix}
use Rattle.numbers.specs.Spelling.{number_text}
use Rattle.numbers.specs.Run.{is_digit_or_underscore, run_len}
use Rattle.numbers.specs.Number.{Numeral, after_chars, prefixed, is_bare_octal, bare_zero, zero_by, number}
use Rattle.numbers.proofs.Tested.{number_within}
use Rattle.lexer.proofs.Ways.{number_there}
use Rattle.quantity_query.specs.Given.{starts_octal}
use Rattle.quantity_scans.specs.Scans.{ScanGives}
use Rattle.quantity_scans.proofs.Cut.{longest_first, longest_some}
use Rattle.quantity_scans.proofs.Again.{Good, prefixed_some, octal_run}
use Rattle.quantity_scans.proofs.Zeros.{Real, number_plain, number_whole}
use Rattle.quantity_scans.proofs.Respelled.{spelled_as, prefixed_as, zero_by_lem}
use Rattle.quantity_scans.proofs.Texts.{ReadAgain}
use Rattle.quantity_scans.proofs.Sources.{number_scanned}

-- ---- a text that starts with 0o
pub octal_start : (t : List ℕ) → starts_octal t ≡ true → (rest : List ℕ) × (t ≡ code "0" ∷ code "o" ∷ rest)
octal_start [] e = absurd (false≢true e)
octal_start (a ∷ []) e = absurd (false≢true (sym (and-false (eqb a (code "0"))) ∙ e))
octal_start (a ∷ b ∷ rest) e =
    let q = and_split (eqb a (code "0")) (eqb b (code "o")) e in
    (rest, ap₂ (λ x y. x ∷ y ∷ rest) (eqb-true a (code "0") q.0) (eqb-true b (code "o") q.1))

-- ---- a digit or an underscore is no letter of a prefix
other_than : (y : ℕ) → is_digit_or_underscore y ≡ true → (x : ℕ) → is_digit_or_underscore x ≡ false → y ≢ x
other_than y t x f e = false≢true (sym f ∙ ap is_digit_or_underscore (sym e) ∙ t)

zero_bare : (y : ℕ) (r : List Char) → is_digit_or_underscore y ≡ true → zero_by y r ≡ bare_zero r
zero_bare y r t =
    rw (
      ne_eqb y (code "x") (other_than y t (code "x") refl),
      ne_eqb y (code "X") (other_than y t (code "X") refl),
      ne_eqb y (code "o") (other_than y t (code "o") refl),
      ne_eqb y (code "O") (other_than y t (code "O") refl),
      ne_eqb y (code "b") (other_than y t (code "b") refl),
      ne_eqb y (code "B") (other_than y t (code "B") refl),
    )

-- ---- `0o` before the bytes rest, and 0 before them
module _ (kind n : ℕ) (rest : List ℕ) (real : Real kind) (a : ReadAgain kind n (code "0" ∷ code "o" ∷ rest)) where
  abbrev q : List Char
  q = chars rest

  abbrev long : List Char
  long = ascii (code "0") ∷ ascii (code "o") ∷ q

  abbrev short : List Char
  short = ascii (code "0") ∷ q

  abbrev digits : Numeral
  digits = prefixed 8 BAD_OCTAL AsRead q

  short_chars : chars (code "0" ∷ rest) ≡ short
  short_chars = chars_ascii (code "0" ∷ rest) 0 (omega arith) (lit< tt)

  long_chars : chars (code "0" ∷ code "o" ∷ rest) ≡ long
  long_chars = chars_ascii (code "0" ∷ code "o" ∷ rest) 0 (omega arith) (lit< tt) ∙ ap (λ r. ascii (code "0") ∷ r) (chars_ascii (code "o" ∷ rest) 0 (omega arith) (lit< tt))

  -- what the text is read as
  long_real : Real (number long).kind
  long_real = subst Real (sym a.kind_is ∙ ap (λ r. (number r).kind) long_chars) real

  long_is : number long ≡ after_chars 2 digits
  long_is = (number_plain long long_real).0 ∙ zero_by_lem long (code "o") refl refl

  digits_good : Good digits
  digits_good = subst Good (zero_by_lem long (code "o") refl refl) (number_plain long long_real).1.0

  digits_all : (digits.len ≡ length rest) × (digits.len ≡ length q)
  digits_all =
      let l = ap (λ (x : Numeral). x.len) long_is in
      let m = ap (λ r. (number r).len) (sym long_chars) ∙ a.all in
      (omega (arith, l, m), omega (arith, l, m, number_within long, chars_le rest))

  -- so all after the 0 is one run
  run_all : run_len q ≡ length q
  run_all = let e = digits_all.1 in rw (e, take-length q) at (octal_run BAD_OCTAL AsRead q digits_good)

  next_in_run : is_digit_or_underscore (peek q) ≡ true
  next_in_run = longest_some q (omega (arith, run_all, digits_all.1, prefixed_some 8 BAD_OCTAL AsRead q digits_good))

  short_octal : is_bare_octal short ≡ true
  short_octal =
      let l : run_len short ≡ length short = longest_first short refl ∙ omega (arith, run_all) in
      rw (next_in_run, l, drop-length short)

  -- without the o it is a bare octal number
  short_is : number short ≡ after_chars 1 (spelled_as OctalPrefix digits)
  unfolding bare_zero
  short_is =
      number_whole short (after_chars 1 (spelled_as OctalPrefix digits))
      (zero_by_lem short (peek q) refl refl ∙ zero_bare (peek q) short next_in_run ∙ rw short_octal (ap (after_chars 1) (prefixed_as 8 BAD_OCTAL OctalPrefix AsRead q)))
      (omega (arith, digits_all.1))

  source_is : number (chars (code "0" ∷ rest)) ≡ after_chars 1 (spelled_as OctalPrefix digits)
  source_is = ap number short_chars ∙ short_is

  source_text : let x = number (chars (code "0" ∷ rest)) in number_text x.spelling (take x.len (code "0" ∷ rest)) ≡ code "0" ∷ code "o" ∷ rest
  unfolding number_text
  source_text =
      let src = code "0" ∷ rest in
      let len : 1 + digits.len ≡ length src = omega (arith, digits_all.0) in
      rw (source_is, len, take-length rest)

  source_kind : (number (chars (code "0" ∷ rest))).kind ≡ kind
  source_kind = ap (λ (x : Numeral). x.kind) source_is ∙ sym (ap (λ (x : Numeral). x.kind) (ap number long_chars ∙ long_is)) ∙ a.kind_is

  pub octal_scanned : suc (length rest) ≤ max_position → ScanGives kind (code "0" ∷ code "o" ∷ rest)
  octal_scanned h =
      let src = code "0" ∷ rest in
      subst (λ k. ScanGives k (code "0" ∷ code "o" ∷ rest)) source_kind (number_scanned src (code "0" ∷ code "o" ∷ rest) (number_there src 0 refl) source_text h)
