-- Which rule reads the token at a place, by the bytes there.
use Prim.Native.Nat.{ℕ, zero, suc, ◌+◌, ◌≤◌, ◌<◌}
use mathlib.Core.Path.{◌≡◌, refl, sym, ap, ◌∙◌}
use mathlib.Core.Bool.{Bool, true, false, cond, not, ◌&&◌, ◌||◌}
use mathlib.Core.List.{List, ◌∷◌}
use mathlib.Core.Logic.{◌≢◌, ⊎_elim}
use native.Mathlib.Omega.{arith}
use native.Mathlib.Decide.{dec_lt}
use lib.Dec.{eqb, lit<}
use lib.ListN.{length, get_or, take, drop}
use borrow.Author.Tests.{ne_eqb, eqb-true}
use Rattle.basics.proofs.Choice.{either, and_split}
use Rattle.basics.proofs.Lists.{reach}
use Rattle.utf8.specs.declared.Char.{Char}
use Rattle.utf8.specs.Chars.{ended, first_char, chars, peek}
use Rattle.utf8.proofs.First.{ascii, ascii_there, there_high, chars_at, chars_end, chars_ascii}
use Rattle.utf8.proofs.Places.{code_next, test_next}
use Rattle.digits.specs.Digit.{is_decimal}
use Rattle.kinds.specs.Kinds.{EOF}
use Rattle.words.specs.Word.{is_letter}
use Rattle.words.proofs.Words.{letter_high}
use Rattle.lexer.specs.Lexeme.{bare, inserted_semicolon}
use Rattle.lexer.specs.Words.{lex_word, lex_number}
use Rattle.lexer.specs.Quotes.{lex_string, lex_char, lex_raw}
use Rattle.lexer.specs.Comments.{lex_comment}
use Rattle.lexer.specs.Lex.{lex_illegal, lex_operator, lex_dot, lex_slash, lex_other, lex_by, lex_token}
use Rattle.lexer.specs.Making.{is_number, is_raw}
use Rattle.lexer.proofs.Ascii.{Ascii}
use Rattle.lexer.proofs.Ways.{decimal_high}

-- ---- no character above 127 has a rule of its own
high_by : (mark : Bool) (c : ℕ) (r : List Char) → 0x80 ≤ c → lex_by mark c r ≡ lex_operator mark r
unfolding lex_by
high_by mark c r h =
    rw (
      letter_high c h,
      decimal_high c h,
      ne_eqb c 10 (λ e. omega arith),
      ne_eqb c 34 (λ e. omega arith),
      ne_eqb c 39 (λ e. omega arith),
      ne_eqb c 96 (λ e. omega arith),
      ne_eqb c 46 (λ e. omega arith),
      ne_eqb c 47 (λ e. omega arith),
    )

-- ---- the rule of a byte
module _ (mark : Bool) (r : List Char) where
  letter_by : (b : ℕ) → is_letter b ≡ true → lex_by mark b r ≡ lex_word r
  unfolding lex_by
  letter_by b l = rw l

  decimal_by : (b : ℕ) → is_letter b ≡ false → is_decimal b ≡ true → lex_by mark b r ≡ lex_number r
  unfolding lex_by
  decimal_by b l d = rw (l, d)

  feed_by : lex_by mark 10 r ≡ inserted_semicolon
  unfolding lex_by is_letter
  feed_by = refl

  string_by : lex_by mark 34 r ≡ lex_string r
  unfolding lex_by is_letter
  string_by = refl

  char_by : lex_by mark 39 r ≡ lex_char r
  unfolding lex_by is_letter
  char_by = refl

  raw_by : lex_by mark 96 r ≡ lex_raw r
  unfolding lex_by is_letter
  raw_by = refl

  dot_by : lex_by mark 46 r ≡ lex_dot mark r
  unfolding lex_by is_letter
  dot_by = refl

  other_by : (b : ℕ) → is_letter b ≡ false → is_decimal b ≡ false → b ≢ 10 → b ≢ 34 → b ≢ 39 → b ≢ 96 → lex_by mark b r ≡ lex_other mark b r
  unfolding lex_by
  other_by b l d f s c w = rw (l, d, ne_eqb b 10 f, ne_eqb b 34 s, ne_eqb b 39 c, ne_eqb b 96 w)

-- ---- past the end
module _ (mark : Bool) (s : List ℕ) (at : ℕ) (h : length s ≤ at) where
  pub end_marked : mark ≡ true → inserted_semicolon ≡ lex_token mark (chars (drop at s))
  unfolding lex_token
  end_marked m = rw (chars_end s at h, m)

  pub end_unmarked : mark ≡ false → bare EOF 0 false ≡ lex_token mark (chars (drop at s))
  unfolding lex_token
  end_unmarked m = rw (chars_end s at h, m)

module _ (mark : Bool) (s : List ℕ) (at : ℕ) (h : at < length s) where
  token_by : lex_token mark (chars (drop at s)) ≡ lex_by mark (first_char (drop at s)).code (chars (drop at s))
  unfolding lex_token
  token_by = rw (chars_at s at h)

  -- the rule goes by the byte
  pub by_byte : lex_token mark (chars (drop at s)) ≡ lex_by mark (get_or s at 0) (chars (drop at s))
  by_byte =
      elim (dec_lt (get_or s at 0) 0x80) [
        | yes l ↦ token_by ∙ ap (λ (c : Char). lex_by mark c.code (chars (drop at s))) (ascii_there s at h l)
        | no l ↦
            token_by ∙ high_by mark _ (chars (drop at s)) (there_high s at h (omega arith))
            ∙ sym (high_by mark (get_or s at 0) (chars (drop at s)) (omega arith))
      ]

  pub is_by : (b : ℕ) → get_or s at 0 ≡ b → lex_token mark (chars (drop at s)) ≡ lex_by mark b (chars (drop at s))
  is_by b e = by_byte ∙ ap (λ x. lex_by mark x (chars (drop at s))) e

  pub word_is : is_letter (get_or s at 0) ≡ true → lex_word (chars (drop at s)) ≡ lex_token mark (chars (drop at s))
  word_is l = sym (by_byte ∙ letter_by mark (chars (drop at s)) (get_or s at 0) l)

  pub feed_is : get_or s at 0 ≡ 10 → inserted_semicolon ≡ lex_token mark (chars (drop at s))
  feed_is e = sym (is_by 10 e ∙ feed_by mark (chars (drop at s)))

  pub string_is : get_or s at 0 ≡ 34 → lex_string (chars (drop at s)) ≡ lex_token mark (chars (drop at s))
  string_is e = sym (is_by 34 e ∙ string_by mark (chars (drop at s)))

  pub char_is : get_or s at 0 ≡ 39 → lex_char (chars (drop at s)) ≡ lex_token mark (chars (drop at s))
  char_is e = sym (is_by 39 e ∙ char_by mark (chars (drop at s)))

  pub raw_is : get_or s at 0 ≡ 96 → lex_raw (chars (drop at s)) ≡ lex_token mark (chars (drop at s))
  raw_is e = sym (is_by 96 e ∙ raw_by mark (chars (drop at s)))

  pub other_is : is_letter (get_or s at 0) ≡ false → is_decimal (get_or s at 0) ≡ false
      → get_or s at 0 ≢ 10 → get_or s at 0 ≢ 34 → get_or s at 0 ≢ 39 → get_or s at 0 ≢ 96
      → lex_other mark (get_or s at 0) (chars (drop at s)) ≡ lex_token mark (chars (drop at s))
  other_is l d f q c w = sym (by_byte ∙ other_by mark (chars (drop at s)) (get_or s at 0) l d f q c w)

  -- ---- by the next byte
  after : get_or s at 0 < 0x80 → drop 1 (chars (drop at s)) ≡ chars (drop (at + 1) s)
  after l = rw (chars_ascii s at h l)

  after_two : get_or s at 0 < 0x80 → get_or s (at + 1) 0 ≡ 46 → drop 2 (chars (drop at s)) ≡ chars (drop (at + 2) s)
  after_two l e =
      let two : at + 1 + 1 ≡ at + 2 = omega arith in
      rw (chars_ascii s at h l, chars_ascii s (at + 1) (reach s (at + 1) (omega (arith, e))) (omega (arith, e)), two)

  third : get_or s at 0 < 0x80
      → eqb (get_or s (at + 1) 0) 46 && not (eqb (peek (drop 2 (chars (drop at s)))) 46) ≡ eqb (get_or s (at + 1) 0) 46 && not (eqb (get_or s (at + 2) 0) 46)
  third l =
      ⊎_elim (λ (e : eqb (get_or s (at + 1) 0) 46 ≡ true). rw (after_two l (eqb-true _ 46 e), code_next s (at + 2) 46 (lit< tt)))
      (λ (e : eqb (get_or s (at + 1) 0) 46 ≡ false). rw e) (either (eqb (get_or s (at + 1) 0) 46))

  dot_bytes : get_or s at 0 ≡ 46
      → lex_dot mark (chars (drop at s))
      ≡ cond (is_decimal (get_or s (at + 1) 0)) (lex_number (chars (drop at s)))
      (cond (eqb (get_or s (at + 1) 0) 46 && not (eqb (get_or s (at + 2) 0) 46)) (lex_illegal mark 2 (chars (drop at s))) (lex_operator mark (chars (drop at s))))
  unfolding lex_dot
  dot_bytes e =
      rw (after (omega (arith, e)), test_next s (at + 1) is_decimal decimal_high, code_next s (at + 1) 46 (lit< tt), third (omega (arith, e)))

  slash_bytes : get_or s at 0 ≡ 47
      → lex_slash mark (chars (drop at s))
      ≡ cond (eqb (get_or s (at + 1) 0) 47 || eqb (get_or s (at + 1) 0) 42) (lex_comment mark (chars (drop at s))) (lex_operator mark (chars (drop at s)))
  unfolding lex_slash
  slash_bytes e = rw (after (omega (arith, e)), code_next s (at + 1) 47 (lit< tt), code_next s (at + 1) 42 (lit< tt))

  module _ (second : ℕ) (next : get_or s (at + 1) 0 ≡ second) where
    pub number_is : is_letter (get_or s at 0) ≡ false → is_decimal (get_or s at 0) || (eqb (get_or s at 0) 46 && is_decimal second) ≡ true
        → lex_number (chars (drop at s)) ≡ lex_token mark (chars (drop at s))
    number_is l t =
        let r = chars (drop at s) in
        ⊎_elim
        (λ (d : is_decimal (get_or s at 0) ≡ true). sym (by_byte ∙ decimal_by mark r (get_or s at 0) l d))
        (λ (d : is_decimal (get_or s at 0) ≡ false).
        let q = and_split (eqb (get_or s at 0) 46) (is_decimal second) (rw d at t) in
        let e = eqb-true (get_or s at 0) 46 q.0 in
        sym (is_by 46 e ∙ dot_by mark r ∙ dot_bytes e ∙ rw (next, q.1)))
        (either (is_decimal (get_or s at 0)))

    pub comment_is : eqb (get_or s at 0) 47 && (eqb second 47 || eqb second 42) ≡ true
        → lex_comment mark (chars (drop at s)) ≡ lex_other mark (get_or s at 0) (chars (drop at s))
    comment_is t =
        let q = and_split (eqb (get_or s at 0) 47) (eqb second 47 || eqb second 42) t in
        let e = eqb-true (get_or s at 0) 47 q.0 in
        rw (e, slash_bytes e, next, q.1)

    -- a point before a digit starts a number
    module _ (no_number : eqb (get_or s at 0) 46 && is_decimal second ≡ false) where
      pub points_is : eqb (get_or s at 0) 46 && (eqb (get_or s (at + 1) 0) 46 && not (eqb (get_or s (at + 2) 0) 46)) ≡ true
          → lex_illegal mark 2 (chars (drop at s)) ≡ lex_other mark (get_or s at 0) (chars (drop at s))
      points_is t =
          let q = and_split (eqb (get_or s at 0) 46) (eqb (get_or s (at + 1) 0) 46 && not (eqb (get_or s (at + 2) 0) 46)) t in
          let e = eqb-true (get_or s at 0) 46 q.0 in
          rw (e, dot_bytes e, q.1, next, rw q.0 at no_number)

      pub operator_is : eqb (get_or s at 0) 47 && (eqb second 47 || eqb second 42) ≡ false
          → eqb (get_or s at 0) 46 && (eqb (get_or s (at + 1) 0) 46 && not (eqb (get_or s (at + 2) 0) 46)) ≡ false
          → lex_operator mark (chars (drop at s)) ≡ lex_other mark (get_or s at 0) (chars (drop at s))
      operator_is no-comment no-points =
          ⊎_elim
          (λ (t : eqb (get_or s at 0) 46 ≡ true).
          let e = eqb-true (get_or s at 0) 46 t in rw (t, dot_bytes e, rw t at no-points, next, rw t at no_number))
          (λ (t : eqb (get_or s at 0) 46 ≡ false).
          ⊎_elim
          (λ (u : eqb (get_or s at 0) 47 ≡ true). let e = eqb-true (get_or s at 0) 47 u in rw (t, u, slash_bytes e, next, rw u at no-comment))
          (λ (u : eqb (get_or s at 0) 47 ≡ false). rw (t, u)) (either (eqb (get_or s at 0) 47)))
          (either (eqb (get_or s at 0) 46))

-- ---- two points are ASCII
two_points : (c d : Char) (r : List Char) → c.code ≡ 46 → d.code ≡ 46 → Ascii 2 (c ∷ d ∷ r)
two_points c d r e f = (omega arith, go)
  where
    go : (i : ℕ) → i < 2 → ((get_or (c ∷ d ∷ r) i ended).code < 0x80) × ((get_or (c ∷ d ∷ r) i ended).code ≢ 10)
    go zero h = (omega (arith, e), λ z. omega (arith, e, z))
    go (suc zero) h = (omega (arith, f), λ z. omega (arith, f, z))
    go (suc (suc i)) h = absurd (omega arith)

-- neither digit nor backquote is among them
pub points_ascii : (s : List ℕ) (at : ℕ) (b : Bool) → eqb (get_or s at 0) 46 && (eqb (get_or s (at + 1) 0) 46 && b) ≡ true
    → Ascii 2 (chars (drop at s)) × (is_number (take 2 (chars (drop at s))) ≡ false) × (is_raw (take 2 (chars (drop at s))) ≡ false)
points_ascii s at b t =
    let q = and_split (eqb (get_or s at 0) 46) (eqb (get_or s (at + 1) 0) 46 && b) t in
    let e = eqb-true (get_or s at 0) 46 q.0 in
    let f = eqb-true (get_or s (at + 1) 0) 46 (and_split (eqb (get_or s (at + 1) 0) 46) b q.1).0 in
    let h = reach s at (omega (arith, e)) in
    let k = reach s (at + 1) (omega (arith, f)) in
    let first = ascii (get_or s at 0) in
    let second = ascii (get_or s (at + 1) 0) in
    rw (chars_ascii s at h (omega (arith, e)), chars_ascii s (at + 1) k (omega (arith, f))) (two_points first second (chars (drop (at + 1 + 1) s)) e f, rw (e, f), rw e)
