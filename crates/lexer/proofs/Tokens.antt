-- What is said of words, operators and characters that start no token is right.
use Prim.Native.Nat.{ℕ, zero, suc, ◌+◌, ◌-◌, ◌≤◌, ◌<◌}
use mathlib.Core.Path.{◌≡◌, refl, sym, ap, ◌∙◌}
use mathlib.Core.Bool.{Bool, true, false, cond, not, ◌&&◌, false≢true, and-false}
use mathlib.Core.List.{List, [], ◌∷◌, ◌++◌, append-nil}
use mathlib.Core.Logic.{◌≢◌, ⊎_elim}
use native.Mathlib.Omega.{arith}
use native.Mathlib.Nat.{add-zero}
use lib.Dec.{T, ltb, eqb, lit<}
use lib.ListN.{length, get_or, take, drop, length-drop}
use lib.Seq.{length-take-le, take_all}
use borrow.Author.Tests.{ne_eqb, eq-eqb, eqb-true, ltb-true}
use Rattle.basics.specs.Same.{same}
use Rattle.basics.proofs.Choice.{either, and_left, and_right, and_split, true_of}
use Rattle.basics.proofs.Every.{each}
use Rattle.basics.proofs.Lists.{same_length}
use Rattle.utf8.specs.declared.Char.{Char}
use Rattle.utf8.specs.Chars.{ended, first_char, char_at, chars, widths, is_stray, encode, encoded}
use Rattle.utf8.proofs.First.{chars_at, char_at_in, chars_le, first_fits, first_least}
use Rattle.utf8.proofs.Places.{ascii_only, test_there, test_next, code_there}
use Rattle.utf8.proofs.Runs.{run_bound, run_passes, run_no_feed}
use Rattle.utf8.proofs.Encoding.{first_coded}
use Rattle.std.specs.Prelude.{Option, None}
use Rattle.kinds.specs.Kinds.{ILLEGAL, COMMENT, IDENT, STRING}
use Rattle.kinds.specs.declared.kind.Kind.{Kind}
use Rattle.kinds.specs.Number.{kind_number}
use Rattle.errors.specs.declared.fault.Fault.{Fault}
use Rattle.errors.specs.Faults.{error_number}
use Rattle.kinds.specs.Table.{operators, ident_token, sets_mark}
use Rattle.digits.specs.Digit.{is_decimal}
use Rattle.words.specs.Word.{is_letter, is_word, word_len}
use Rattle.words.proofs.Words.{letter_high, word_high, word_run, feed_no_word}
use Rattle.quotes.proofs.Places.{stray_there}
use Rattle.operators.specs.declared.Operator.{Operator}
use Rattle.operators.specs.Longest.{begins, operator_said, operator_of}
use Rattle.operators.proofs.Bounds.{operator_bound, longest_ind}
use Rattle.lexer.specs.declared.lexed.Text.TheVariants.{AsRead}
use Rattle.lexer.specs.Lexeme.{shown, bare}
use Rattle.lexer.specs.Words.{word_lexeme, lex_word}
use Rattle.lexer.specs.Lex.{lex_illegal, lex_operator}
use Rattle.lexer.specs.Made.{shown_as, answer_with, bare_as, read_as, illegal_at}
use Rattle.lexer.specs.Making.{is_number, is_raw, text_way}
use Rattle.lexer.specs.Placed.{text_differs_in, placed, said}
use Rattle.lexer.proofs.Known.{word_no_string, operator_no_string}
use Rattle.lexer.proofs.Said.{alike, exact_length, text_same, text_some}
use Rattle.lexer.proofs.Ascii.{Ascii, ascii_none, ascii_facts}
use Rattle.lexer.proofs.Ways.{way_read, decimal_high, word_starts}

-- ---- tokens of n ASCII characters
module _ (s : List ℕ) (at end n : ℕ) (kind : Kind) (mark : Bool) (a : Ascii n (chars (drop at s))) (e : end ≡ at + n) (k : kind_number kind ≢ STRING) where
  pub bare_said : said s at (bare_as kind end n mark) ≡ placed s at (bare (kind_number kind) n mark)
  unfolding said placed same
  bare_said =
      let f = ascii_facts n s at a in
      alike
      (record {
        lexeme = refl;
        end = rw f.width e;
        lfs = sym f.lfs;
        strays = sym f.strays;
        text_making = refl;
        value_making = rw (ne_eqb (kind_number kind) STRING k);
        text_length = refl;
        value_length = refl;
        text_differs = refl;
        value_differs = rw (ne_eqb (kind_number kind) STRING k);
      })

  pub shown_said : (error : Option Fault) → 0 < n → eqb (kind_number kind) COMMENT ≡ false → is_number (take n (chars (drop at s))) ≡ false → is_raw (take n (chars (drop at s))) ≡ false
      → said s at (answer_with error kind end n false mark (shown_as AsRead n false)) ≡ placed s at (shown (kind_number kind) n (encoded (take n (chars (drop at s)))) (error_number error) mark)
  unfolding said placed same
  shown_said error some no-comment no_number no-raw =
      let f = ascii_facts n s at a in
      let cs = take n (chars (drop at s)) in
      let text = encoded cs in
      alike
      (record {
        lexeme = refl;
        end = rw f.width e;
        lfs = sym f.lfs;
        strays = sym f.strays;
        text_making = way_read cs (shown (kind_number kind) n text (error_number error) mark) (rw f.size some) no_number no-raw no-comment;
        value_making = rw (ne_eqb (kind_number kind) STRING k);
        text_length = rw f.size (add-zero n);
        value_length = refl;
        text_differs = sym (text_same text (take (widths (take n (chars (drop at s)))) (drop at s)) (rw f.width f.shown));
        value_differs = rw (ne_eqb (kind_number kind) STRING k);
      })

-- ---- words
word_plain : (r : List Char) → Ascii (word_len r) r
word_plain r =
    (run_bound word_run r, λ i h. (ascii_only is_word word_high _ (run_passes word_run r i h), run_no_feed word_run feed_no_word r i h))

identifier_is : (n : ℕ) (word : List ℕ) → ident_token word ≡ IDENT → shown (ident_token word) n word 0 true ≡ word_lexeme n word
unfolding word_lexeme
identifier_is n word i = rw i

keyword_is : (n : ℕ) (word : List ℕ) → ident_token word ≢ IDENT → bare (ident_token word) n (sets_mark (ident_token word)) ≡ word_lexeme n word
unfolding word_lexeme
keyword_is n word i =
    let k = ident_token word in sym (ap (λ t. cond t (shown IDENT n word 0 true) (bare k n (sets_mark k))) (ne_eqb k IDENT i))

module _ (s : List ℕ) (at end : ℕ) (kind : Kind) (e : end ≡ at + word_len (chars (drop at s))) (is : kind_number kind ≡ ident_token (take (end - at) (take (length s - at) (drop at s)))) where
  n : ℕ
  n = word_len (chars (drop at s))

  word : List ℕ
  word = encoded (take (word_len (chars (drop at s))) (chars (drop at s)))

  read : end - at ≡ n
  unfolding n
  read = omega (arith, e)

  word_kind : kind_number kind ≡ ident_token word
  unfolding n word
  word_kind =
      let r = chars (drop at s) in
      is ∙ rw (read, take_all (length s - at) (drop at s) (omega (arith, length-drop at s))) (ap ident_token (sym (ascii_facts (word_len r) s at (word_plain r)).shown))

  no_string : kind_number kind ≢ STRING
  no_string z = word_no_string word (sym word_kind ∙ z)

  pub identifier_said : is_letter (get_or s at 0) ≡ true → kind_number kind ≡ IDENT → said s at (read_as kind end (end - at) true) ≡ placed s at (lex_word (chars (drop at s)))
  unfolding n word
  identifier_said l i =
      let w = word_starts (chars (drop at s)) (test_next s at is_letter letter_high ∙ l) in
      rw read (shown_said s at end n kind true (word_plain (chars (drop at s))) e no_string None w.0 (rw i) w.1 w.2)
      ∙ ap (placed s at) (ap (λ k. shown k n word 0 true) word_kind ∙ identifier_is n word (sym word_kind ∙ i))

  pub keyword_said : kind_number kind ≢ IDENT → said s at (bare_as kind end (end - at) (sets_mark (kind_number kind))) ≡ placed s at (lex_word (chars (drop at s)))
  unfolding n word
  keyword_said i =
      rw read (bare_said s at end n kind (sets_mark (kind_number kind)) (word_plain (chars (drop at s))) e no_string)
      ∙ ap (placed s at) (ap (λ k. bare k n (sets_mark k)) word_kind ∙ keyword_is n word (λ z. i (word_kind ∙ z)))

-- ---- operators: their spellings are ASCII without a line feed
abbrev plain : List ℕ → Bool
plain = each (λ x. ltb x 0x80 && not (eqb x 10))

begins_plain : (xs : List ℕ) (r : List Char) → T (plain xs) → begins xs r ≡ true → Ascii (length xs) r
unfolding begins
begins_plain [] r t b = ascii_none r
begins_plain (x ∷ xs) [] t b = absurd (false≢true b)
begins_plain (x ∷ xs) (c ∷ r) t b =
    let q = and_split (eqb c.code x) (begins xs r) b in
    let here = eqb-true c.code x q.0 in
    let first = and_left (ltb x 0x80 && not (eqb x 10)) (plain xs) t in
    let low = ltb-true x 0x80 (true_of _ (and_left (ltb x 0x80) _ first)) in
    let rest = begins_plain xs r (and_right (ltb x 0x80 && not (eqb x 10)) (plain xs) t) q.1 in
    (omega (arith, rest.0), go here low (and_right (ltb x 0x80) _ first) rest.1)
  where
    go : c.code ≡ x → x < 0x80 → T (not (eqb x 10)) → ((i : ℕ) → i < length xs → ((get_or r i ended).code < 0x80) × ((get_or r i ended).code ≢ 10))
        → (i : ℕ) → i < suc (length xs) → ((get_or (c ∷ r) i ended).code < 0x80) × ((get_or (c ∷ r) i ended).code ≢ 10)
    go e l n ih zero h = (omega (arith, e, l), λ z. let w = rw (eq-eqb x 10 (sym e ∙ z)) at n in w)
    go e l n ih (suc i) h = ih i (omega arith)

operator_plain : (r : List Char) → Ascii (operator_of r).len r
unfolding operators
operator_plain r = longest_ind (λ x. Ascii x.len r) (λ row. plain row.name) r (ascii_none r) (λ row t. begins_plain row.name r t) operators tt

module _ (s : List ℕ) (at : ℕ) (mark : Bool) (o : Operator) (is : operator_said o ≡ operator_of (chars (drop at s))) where
  pub no_operator : kind_number o.kind ≡ ILLEGAL → lex_illegal mark 1 (chars (drop at s)) ≡ lex_operator mark (chars (drop at s))
  unfolding lex_operator
  no_operator i = rw (← is, eq-eqb (kind_number o.kind) ILLEGAL i)

  pub operator_fits : at ≤ length s → at + o.len ≤ length s
  operator_fits h =
      let r = chars (drop at s) in
      omega (arith, ap (λ x. x.len) is, operator_bound r, chars_le (drop at s), length-drop at s, h)

  pub operator_token : kind_number o.kind ≢ ILLEGAL → said s at (bare_as o.kind (at + o.len) o.len (sets_mark (kind_number o.kind))) ≡ placed s at (lex_operator mark (chars (drop at s)))
  unfolding lex_operator
  operator_token i =
      let r = chars (drop at s) in
      rw (← is, ne_eqb (kind_number o.kind) ILLEGAL i)
      (bare_said s at (at + o.len) o.len o.kind (sets_mark (kind_number o.kind)) (rw (ap (λ x. x.len) is) (operator_plain r)) refl (rw (ap (λ x. x.kind) is) (operator_no_string r)))

-- ---- one character that starts no token
module _ (s : List ℕ) (at : ℕ) (h : at < length s) where
  some : 0 < length (drop at s)
  some = omega (arith, length-drop at s)

  -- the text of one character differs from its bytes where it is a stray byte
  differs : text_differs_in (encode (first_char (drop at s)).code ++ []) (take (first_char (drop at s)).width (drop at s)) ≡ is_stray (first_char (drop at s))
  differs =
      let f = first_char (drop at s) in
      let text = encode f.code ++ [] in
      let bytes = take f.width (drop at s) in
      let size = length-take-le f.width (drop at s) (first_fits (drop at s) some) in
      ⊎_elim
      (λ (t : is_stray f ≡ true).
      let long : length text ≡ f.width + 2 = rw append-nil (stray_there s at h ∙ rw t) in
      text_some text bytes (omega (arith, long)) ∙ ap not (same_length text bytes (λ e. omega (arith, e, long, size))) ∙ sym t)
      (λ (t : is_stray f ≡ false). text_same text bytes (append-nil (encode f.code) ∙ first_coded (drop at s) some t) ∙ sym t)
      (either (is_stray f))

  module _ (mark : Bool) (no_lf : eqb (get_or s at 0) 10 ≡ false) (no_digit : is_decimal (get_or s at 0) ≡ false) (no_quote : eqb (get_or s at 0) 96 ≡ false) where
    first_way : AsRead ≡ text_way (take 1 (chars (drop at s))) (lex_illegal mark 1 (chars (drop at s)))
    first_way =
        let r = chars (drop at s) in
        let e = chars_at s at h in
        way_read (take 1 r) (lex_illegal mark 1 r) (rw (e, append-nil, stray_there s at h) (omega (arith, first_least (drop at s))))
        (rw (e, test_there s at is_decimal decimal_high h, no_digit, and-false)) (rw (e, code_there s at 96 h (lit< tt)) no_quote) refl

    first_said : said s at (illegal_at at (first_char (drop at s)).width mark (is_stray (first_char (drop at s)))) ≡ placed s at (lex_illegal mark 1 (chars (drop at s)))
    unfolding said placed same
    first_said =
        let f = first_char (drop at s) in
        let e = chars_at s at h in
        alike
        (record {
          lexeme = refl;
          end = rw e (omega arith);
          lfs = rw (e, code_there s at 10 h (lit< tt), no_lf);
          strays = rw e (sym (add-zero _));
          text_making = first_way;
          value_making = refl;
          text_length = exact_length (is_stray f) f.width (cond (is_stray f) 1 0) _ (rw (e, append-nil, stray_there s at h) (omega arith)) (λ t. rw t);
          value_length = refl;
          text_differs = rw (e, add-zero) (sym differs);
          value_differs = refl;
        })

    pub illegal_said : (c : Char) → c ≡ char_at s at → said s at (illegal_at at c.width mark (is_stray c)) ≡ placed s at (lex_illegal mark 1 (chars (drop at s)))
    illegal_said c is = rw (is ∙ char_at_in s at h) first_said
