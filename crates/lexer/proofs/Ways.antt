-- Which way the text of a token is made, by its first characters.
use Prim.Native.Nat.{ℕ, zero, suc, ◌+◌, ◌≤◌, ◌<◌}
use mathlib.Core.Path.{◌≡◌, refl, sym, ◌∙◌}
use mathlib.Core.Bool.{Bool, true, false, not, ◌&&◌, ◌||◌, false≢true}
use mathlib.Core.List.{List, [], ◌∷◌, ◌++◌}
use mathlib.Core.Logic.{⊎_elim}
use native.Mathlib.Omega.{arith}
use lib.Dec.{T, eqb}
use lib.ListN.{length, get_or, take, drop, length-append}
use borrow.Author.Tests.{ne_eqb, eqb-true, not-true}
use Rattle.basics.proofs.Choice.{either, and_split, above_it, true_of}
use Rattle.basics.proofs.Every.{every_below}
use Rattle.basics.proofs.Lists.{same_refl, same_length}
use Rattle.utf8.specs.declared.Char.{Char}
use Rattle.utf8.specs.Chars.{chars, peek, encoded}
use Rattle.utf8.proofs.Places.{ascii_only, test_next}
use Rattle.utf8.proofs.Ends.{peek_take}
use Rattle.kinds.specs.Kinds.{COMMENT}
use Rattle.digits.specs.Digit.{is_decimal}
use Rattle.words.specs.Word.{is_letter, is_word, word_len}
use Rattle.words.proofs.Words.{letter_high}
use Rattle.spans.specs.Body.{clean}
use Rattle.lexer.specs.declared.lexed.Text.TheVariants.{AsRead, Number, WithoutCr, WithLf}
use Rattle.lexer.specs.Lexeme.{Lexeme}
use Rattle.lexer.specs.Making.{is_number, is_raw, spelling_of, text_way}
use Rattle.lexer.proofs.Opened.{open_chars}

-- ---- a lexeme that has a text
module _ (cs : List Char) (x : Lexeme) (some : 0 < length x.text) where
  has_text : eqb (length x.text) 0 ≡ false
  has_text = ne_eqb (length x.text) 0 (λ e. omega arith)

  pub way_number : is_number cs ≡ true → Number (spelling_of x.text (encoded cs)) ≡ text_way cs x
  way_number n = rw (has_text, n)

  module _ (no_number : is_number cs ≡ false) where
    pub way_read : is_raw cs ≡ false → eqb x.kind COMMENT ≡ false → AsRead ≡ text_way cs x
    way_read w k = rw (has_text, no_number, w, k)

    module _ (spanned : is_raw cs || eqb x.kind COMMENT ≡ true) where
      pub way_without_cr : x.text ≡ clean cs → WithoutCr ≡ text_way cs x
      way_without_cr e = rw (has_text, no_number, spanned, e, same_refl (clean cs))

      pub way_with_lf : x.text ≡ clean cs ++ (10 ∷ []) → WithLf ≡ text_way cs x
      way_with_lf e =
          let fed : List ℕ = clean cs ++ (10 ∷ []) in
          rw (has_text, no_number, spanned, e, same_length fed (clean cs) (λ z. omega (arith, z, length-append (clean cs) (10 ∷ []))))

-- ---- the second character of those read is that of the text
second_taken : (n : ℕ) (r : List Char) → 1 < n → peek (drop 1 (take n r)) ≡ peek (drop 1 r)
second_taken zero r h = absurd (omega arith)
second_taken (suc zero) r h = absurd (omega arith)
second_taken (suc (suc n)) [] h = refl
second_taken (suc (suc n)) (c ∷ []) h = refl
second_taken (suc (suc n)) (c ∷ d ∷ r) h = refl

-- a number of n characters: two where it starts with a point
pub number_taken : (n : ℕ) (r : List Char) → is_number r ≡ true → 0 < n → (is_decimal (peek r) ≡ false → 1 < n) → is_number (take n r) ≡ true
number_taken n r t some two =
    ⊎_elim (λ (d : is_decimal (peek r) ≡ true). rw (peek_take n r some, d))
    (λ (d : is_decimal (peek r) ≡ false). rw (peek_take n r some, second_taken n r (two d)) t) (either (is_decimal (peek r)))

-- ---- no character above 127 is a digit
pub decimal_high : (c : ℕ) → 0x80 ≤ c → is_decimal c ≡ false
decimal_high c h = above_it 48 c 57 (omega arith) (omega arith)

-- a number by the bytes at a place
pub number_there : (s : List ℕ) (at : ℕ) → is_decimal (get_or s at 0) || (eqb (get_or s at 0) 46 && is_decimal (get_or s (at + 1) 0)) ≡ true → is_number (chars (drop at s)) ≡ true
number_there s at t =
    let b = get_or s at 0 in
    ⊎_elim (λ (d : is_decimal b ≡ true). rw (test_next s at is_decimal decimal_high, d))
    (λ (d : is_decimal b ≡ false).
    let q = and_split (eqb b 46) (is_decimal (get_or s (at + 1) 0)) (rw d at t) in
    rw (open_chars s at 46 (omega arith) (omega arith) (eqb-true b 46 q.0)) (test_next s (at + 1) is_decimal decimal_high ∙ q.1))
    (either (is_decimal b))

-- ---- a letter is no digit, no point and no backquote
letter_plain : ℕ → Bool
letter_plain b = not (is_letter b) || (not (is_decimal b) && (not (eqb b 46) && not (eqb b 96)))

all_plain : (b : ℕ) → b < 0x80 → T (letter_plain b)
unfolding letter_plain is_letter
all_plain = every_below letter_plain 0x80 tt

letter_plain_lem : (b : ℕ) → is_letter b ≡ true → (is_decimal b ≡ false) × (eqb b 46 ≡ false) × (eqb b 96 ≡ false)
unfolding letter_plain
letter_plain_lem b l =
    let t = true_of _ (rw l at (all_plain b (ascii_only is_letter letter_high b l))) in
    let p = and_split (not (is_decimal b)) _ t in
    let q = and_split (not (eqb b 46)) _ p.1 in
    (not-true _ p.0, not-true _ q.0, not-true _ q.1)

no_letter : is_letter 0 ≡ false
unfolding is_letter
no_letter = refl

-- what a word reads
pub word_starts : (r : List Char) → is_letter (peek r) ≡ true → (0 < word_len r) × (is_number (take (word_len r) r) ≡ false) × (is_raw (take (word_len r) r) ≡ false)
unfolding word_len is_word
word_starts [] l = absurd (false≢true (sym no_letter ∙ l))
word_starts (c ∷ r) l =
    let p = letter_plain_lem c.code l in
    rw l (omega arith, rw (p.0, p.1), p.2)
