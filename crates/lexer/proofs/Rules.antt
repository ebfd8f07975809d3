-- The laws of each rule: words, numbers, quoted literals, raw strings, comments, what is no token, operators, points and slashes.
use Prim.Native.Nat.{ℕ, suc, ◌+◌, ◌-◌, ◌≤◌, ◌<◌}
use mathlib.Core.Path.{◌≡◌, refl, sym, ap, ◌∙◌}
use mathlib.Core.Bool.{Bool, true, false, cond, not, ◌&&◌, ◌||◌, true≢false}
use mathlib.Core.List.{List, [], ◌∷◌, ◌++◌}
use mathlib.Core.Logic.{◌≢◌}
use native.Mathlib.Omega.{arith}
use lib.Dec.{eqb, lit<}
use lib.ListN.{length, take}
use lib.Seq.{take-append-le}
use borrow.Author.Tests.{eqb-true, eqb-false}
use Rattle.basics.proofs.Choice.{cond_ind, and_split}
use Rattle.utf8.specs.declared.Char.{Char}
use Rattle.utf8.specs.Chars.{peek, encoded}
use Rattle.utf8.proofs.Ends.{Ends, ends_tail, ends_some, peek_append}
use Rattle.utf8.proofs.Runs.{run_bound, run_local}
use Rattle.kinds.specs.Kinds.{ILLEGAL, EOF, IDENT, COMMENT}
use Rattle.kinds.specs.Table.{ident_token, sets_mark}
use Rattle.errors.specs.Numbers.{OPEN_RAW_STRING, OPEN_COMMENT}
use Rattle.digits.specs.Digit.{is_decimal}
use Rattle.words.specs.Word.{is_letter, is_word, word_len}
use Rattle.words.proofs.Words.{word_run, feed_no_word}
use Rattle.numbers.specs.Number.{number}
use Rattle.numbers.proofs.Local.{number_local}
use Rattle.numbers.proofs.Tested.{number_within, number_kind, number_some}
use Rattle.quotes.specs.Body.{Body, body}
use Rattle.quotes.proofs.Local.{body_bound, body_local}
use Rattle.spans.specs.Span.{to_stop, to_star_slash}
use Rattle.spans.specs.Line.{ends_line}
use Rattle.spans.proofs.Spans.{stop_spanned, slash_spanned, stop_local, slash_local, line_closed, stop_left, slash_left}
use Rattle.spans.proofs.LineEnds.{ends_local}
use Rattle.operators.specs.Longest.{operator_of}
use Rattle.operators.proofs.Bounds.{operator_bound, operator_local, operator_none}
use Rattle.lexer.specs.Lexeme.{Lexeme, bare, inserted_semicolon}
use Rattle.lexer.specs.Words.{word_lexeme, lex_word, lex_number}
use Rattle.lexer.specs.Quotes.{string_of, lex_string, char_literal_of, lex_char, lex_raw}
use Rattle.lexer.specs.Comments.{line_comment, general_comment, comment, lex_comment}
use Rattle.lexer.specs.Lex.{lex_illegal, lex_operator, lex_dot, lex_slash}
use Rattle.lexer.proofs.Known.{Known, word_known, operator_known}
use Rattle.lexer.proofs.Fine.{Fine, fine_cond, fine_to, fine_semicolon, Reads, reads_shown, fine_reads, closed_if}

-- ---- words and numbers
word_reads : (n : ℕ) (word : List ℕ) → Reads n (word_lexeme n word)
unfolding word_lexeme
word_reads n word =
    cond_ind (Reads n) (eqb (ident_token word) IDENT) _ _ (λ _. reads_shown IDENT n word 0 true (λ e. omega arith))
    (λ _. reads_shown (ident_token word) n [] 0 (sets_mark (ident_token word)) (word_known word))

word_some : (c : Char) (r : List Char) → is_letter c.code ≡ true → 0 < word_len (c ∷ r)
unfolding word_len is_word
word_some c r e = rw e (omega arith)

pub fine_word : (m : Bool) (c : Char) (r t : List Char) → is_letter c.code ≡ true → Fine m (c ∷ r) (lex_word (c ∷ r)) (lex_word (c ∷ (r ++ t)))
fine_word m c r t e =
    let q : List Char = c ∷ r in
    let n = word_len q in
    fine_reads m q n _ _ (word_reads n (encoded (take n q))) (word_some c r e) (run_bound word_run q)
    (λ h s. let k = run_local word_run feed_no_word q t h in (rw (k.0, take-append-le n q t (run_bound word_run q)), λ _. k.1))

-- the first character is a decimal digit, unless it is a point
pub fine_number : (m : Bool) (c : Char) (r t : List Char) → (eqb c.code 46 ≡ false → is_decimal c.code ≡ true)
    → Fine m (c ∷ r) (lex_number (c ∷ r)) (lex_number (c ∷ (r ++ t)))
unfolding lex_number
fine_number m c r t f =
    let q : List Char = c ∷ r in
    let x = number q in
    fine_reads m q x.len _ _ (reads_shown x.kind x.len _ x.error true (number_kind q EOF refl)) (number_some q f) (number_within q)
    (λ h s. let k = number_local q t h in (rw (k.0, take-append-le x.len q t (number_within q)), λ _. k.1))

-- ---- quoted literals: f makes the token of the characters read
fine_quoted : (quote : ℕ) → (quote ≡ 10 → ⊥) → (f : List Char → Body → Lexeme) → ((q : List Char) (b : Body) → Reads (suc b.len) (f q b))
    → ((q q' : List Char) (b : Body) → take (suc b.len) q' ≡ take (suc b.len) q → f q' b ≡ f q b)
    → (m : Bool) (c : Char) (r t : List Char) → c.code ≢ 10 → Fine m (c ∷ r) (f (c ∷ r) (body quote r)) (f (c ∷ (r ++ t)) (body quote (r ++ t)))
fine_quoted quote n f reads same m c r t k =
    let b = body quote r in
    let l : suc b.len ≤ suc (length r) = omega (arith, body_bound quote r) in
    fine_reads m (c ∷ r) (suc b.len) _ _ (reads (c ∷ r) b) (omega arith) l
    (λ h s.
    let i = body_local quote n r t (ends_tail c r h k) in
    (ap (f (c ∷ (r ++ t))) i.0 ∙ same (c ∷ r) (c ∷ (r ++ t)) b (take-append-le (suc b.len) (c ∷ r) t l), λ _. omega (arith, i.1)))

pub fine_string : (m : Bool) (c : Char) (r t : List Char) → c.code ≢ 10 → Fine m (c ∷ r) (lex_string (c ∷ r)) (lex_string (c ∷ (r ++ t)))
unfolding lex_string
fine_string =
    fine_quoted 34 (λ e. omega arith) string_of
    (λ q b. record { none = refl; len = refl; known = cond_ind Known b.closed _ _ (λ _ e. omega arith) (λ _ e. omega arith); there = refl })
    (λ q q' b e. rw e)

pub fine_char : (m : Bool) (c : Char) (r t : List Char) → c.code ≢ 10 → Fine m (c ∷ r) (lex_char (c ∷ r)) (lex_char (c ∷ (r ++ t)))
unfolding lex_char
fine_char =
    fine_quoted 39 (λ e. omega arith) char_literal_of
    (λ q b. record { none = refl; len = refl; known = cond_ind Known (b.closed && eqb b.count 1) _ _ (λ _ e. omega arith) (λ _ e. omega arith); there = refl })
    (λ q q' b e. rw e)

-- ---- raw strings
pub fine_raw : (m : Bool) (c : Char) (r t : List Char) → c.code ≢ 10 → Fine m (c ∷ r) (lex_raw (c ∷ r)) (lex_raw (c ∷ (r ++ t)))
unfolding lex_raw
fine_raw m c r t n =
    let s = to_stop 96 r in
    let b = (stop_spanned 96 r).bound in
    fine_reads m (c ∷ r) (suc s.len) _ _ (record { none = refl; len = refl; known = λ e. omega arith; there = refl }) (omega arith) (omega arith)
    (λ h z.
    let e = closed_if s.closed OPEN_RAW_STRING (λ w. w.0 refl) z in (
      rw (stop_local 96 r t e, e, take-append-le s.len r t b, take-append-le (s.len - 1) r t (omega arith)),
      λ _. omega (arith, stop_left 96 r (λ y. omega arith) (ends_tail c r h n) e),
    ))

-- ---- comments: two characters, which are no line feeds, and what follows them
module _ (m : Bool) (c d : Char) (r t : List Char) (k : c.code ≢ 10) (j : d.code ≢ 10) where
  behind : Ends (c ∷ d ∷ r) → Ends r
  behind h = ends_tail d r (ends_tail c (d ∷ r) h k) j

  -- a line comment is read with no mark set, so it leaves none
  fine_line : m ≡ false → Fine m (c ∷ d ∷ r) (line_comment m (c ∷ d ∷ r) (to_stop 10 r)) (line_comment m (c ∷ d ∷ (r ++ t)) (to_stop 10 (r ++ t)))
  fine_line off =
      let s = to_stop 10 r in
      let b = (stop_spanned 10 r).bound in
      fine_reads m (c ∷ d ∷ r) (2 + s.len) _ _ (reads_shown COMMENT (2 + s.len) _ 0 m (λ e. omega arith)) (omega arith) (omega arith)
      (λ h z. (rw (stop_local 10 r t (line_closed r (behind h)), take-append-le (2 + s.len) (c ∷ d ∷ r) t (omega arith)), λ w. absurd (true≢false (sym w ∙ off))))

  fine_general : Fine m (c ∷ d ∷ r) (general_comment m (c ∷ d ∷ r) (to_star_slash false r)) (general_comment m (c ∷ d ∷ (r ++ t)) (to_star_slash false (r ++ t)))
  fine_general =
      let s = to_star_slash false r in
      let b = (slash_spanned false r).bound in
      fine_reads m (c ∷ d ∷ r) (2 + s.len) _ _ (reads_shown COMMENT (2 + s.len) _ (cond s.closed 0 OPEN_COMMENT) m (λ e. omega arith)) (omega arith) (omega arith)
      (λ h z.
      let e = closed_if s.closed OPEN_COMMENT (λ w. w.1 refl) z in (
        rw (slash_local false r t e, take-append-le (2 + s.len) (c ∷ d ∷ r) t (omega arith)),
        λ _. omega (arith, slash_left false r (behind h) e),
      ))

  -- under a set mark a line comment is an inserted semicolon
  no_mark : (b : Bool) → m && (eqb d.code 47 || b) ≡ false → eqb d.code 47 ≡ true → m ≡ false
  no_mark b e f = go m (rw f at e)
    where
      go : (x : Bool) → x && true ≡ false → x ≡ false
      go true e = e
      go false e = refl

  fine_comment : Fine m (c ∷ d ∷ r) (lex_comment m (c ∷ d ∷ r)) (lex_comment m (c ∷ d ∷ (r ++ t)))
  unfolding lex_comment comment
  fine_comment =
      let q : List Char = c ∷ d ∷ r in
      fine_to m q _ _ (cond (m && (eqb d.code 47 || ends_line false r)) inserted_semicolon (comment m (c ∷ d ∷ (r ++ t))))
      (fine_cond m q (m && (eqb d.code 47 || ends_line false r)) _ _ _ _
      (λ e. fine_semicolon m q (and_split m _ e).0)
      (λ e. fine_cond m q (eqb d.code 47) _ _ _ _ (λ f. fine_line (no_mark (ends_line false r) e f)) (λ _. fine_general)))
      (λ h. rw (ends_local false r t (behind h)))

-- ---- what is no token, and operators
fine_illegal : (m : Bool) (n : ℕ) (r t : List Char) → 0 < n → n ≤ length r → (Ends r → n < length r) → Fine m r (lex_illegal m n r) (lex_illegal m n (r ++ t))
fine_illegal m n r t some b l =
    fine_reads m r n _ _ (reads_shown ILLEGAL n _ _ m (λ e. omega arith)) some b (λ h s. (rw (take-append-le n r t b), λ _. l h))

pub fine_operator : (m : Bool) (c : Char) (r t : List Char) → c.code ≢ 10 → Fine m (c ∷ r) (lex_operator m (c ∷ r)) (lex_operator m (c ∷ (r ++ t)))
unfolding lex_operator
fine_operator m c r t n =
    let q : List Char = c ∷ r in
    let o = operator_of q in
    fine_to m q _ _ (cond (eqb o.kind ILLEGAL) (lex_illegal m 1 (c ∷ (r ++ t))) (bare o.kind o.len (sets_mark o.kind)))
    (fine_cond m q (eqb o.kind ILLEGAL) _ _ _ _
    (λ e. fine_illegal m 1 q t (lit< tt) (omega arith) (λ h. omega (arith, ends_some r (ends_tail c r h n))))
    (λ e. fine_reads m q o.len _ _ (reads_shown o.kind o.len [] 0 (sets_mark o.kind) (operator_known q)) (some (sym (operator_none q) ∙ e)) (operator_bound q)
    (λ h s. (refl, λ _. (operator_local q t h).1))))
    (λ h. rw (operator_local q t h).0)
  where
    some : {x : ℕ} → eqb x 0 ≡ false → 0 < x
    some {x} e = let z = eqb-false x 0 e in omega arith

-- ---- a point or a slash, by what follows it
pub fine_dot : (m : Bool) (c : Char) (r t : List Char) → c.code ≡ 46 → Fine m (c ∷ r) (lex_dot m (c ∷ r)) (lex_dot m (c ∷ (r ++ t)))
unfolding lex_dot
fine_dot m c [] t p = fine_to m (c ∷ []) _ _ _ (fine_operator m c [] t (λ z. omega arith)) (λ h. absurd (omega arith))
fine_dot m c (d ∷ r) t p =
    let q : List Char = c ∷ d ∷ r in
    fine_cond m q (is_decimal d.code) _ _ _ _ (λ e. fine_number m c (d ∷ r) t (λ f. absurd (eqb-false c.code 46 f p)))
    (λ _. fine_to m q _ _ (cond (eqb d.code 46 && not (eqb (peek r) 46)) (lex_illegal m 2 (q ++ t)) (lex_operator m (q ++ t)))
    (fine_cond m q (eqb d.code 46 && not (eqb (peek r) 46)) _ _ _ _
    (λ e. fine_illegal m 2 q t (lit< tt) (omega arith) (λ h. omega (arith, ends_some r (second h (and_split (eqb d.code 46) _ e).0))))
    (λ _. fine_operator m c (d ∷ r) t (λ z. omega arith)))
    (λ h. rw (go (eqb d.code 46) (second h))))
  where
    second : Ends (c ∷ d ∷ r) → eqb d.code 46 ≡ true → Ends r
    second h e = ends_tail d r h (λ z. omega (arith, eqb-true d.code 46 e))

    go : (b : Bool) → (b ≡ true → Ends r) → b && not (eqb (peek (r ++ t)) 46) ≡ b && not (eqb (peek r) 46)
    go true f = ap (λ x. not (eqb x 46)) (peek_append 0 r t (ends_some r (f refl)))
    go false f = refl

pub fine_slash : (m : Bool) (c : Char) (r t : List Char) → c.code ≢ 10 → Fine m (c ∷ r) (lex_slash m (c ∷ r)) (lex_slash m (c ∷ (r ++ t)))
unfolding lex_slash
fine_slash m c [] t n = fine_to m (c ∷ []) _ _ _ (fine_operator m c [] t n) (λ h. absurd (n h))
fine_slash m c (d ∷ r) t n =
    fine_cond m (c ∷ d ∷ r) (eqb d.code 47 || eqb d.code 42) _ _ _ _
    (λ e. fine_comment m c d r t n (λ z. true≢false (sym (rw z at e)))) (λ _. fine_operator m c (d ∷ r) t n)
