-- What is said of a string or a character literal: its characters are the opening quote and those of its body.
use Prim.Native.Nat.{ℕ, zero, suc, ◌+◌, ◌*◌, ◌-◌, ◌^◌, ◌≤◌, ◌<◌, suc-le-suc}
use mathlib.Core.Path.{◌≡◌, refl, sym, ap, ◌∙◌}
use mathlib.Core.Bool.{Bool, true, false, cond, not, ◌||◌}
use mathlib.Core.List.{List, [], ◌∷◌}
use mathlib.Core.Logic.{◌⊎◌, inl, inr, ⊎_elim}
use native.Mathlib.Omega.{arith}
use native.Mathlib.Numerals.{add-one}
use native.Mathlib.Nat.{zero-add}
use lib.Dec.{eqb}
use lib.ListN.{length, get_or, take, drop, length-drop}
use borrow.Author.Tests.{ne_eqb}
use Rattle.basics.specs.Same.{same}
use Rattle.basics.proofs.Lists.{reach}
use Rattle.utf8.specs.declared.Char.{Char}
use Rattle.utf8.specs.Chars.{ended, chars, widths, is_stray, encoded}
use Rattle.utf8.proofs.First.{ascii, chars_le}
use Rattle.utf8.proofs.Places.{place_fits}
use Rattle.std.specs.Prelude.{Option, Some, None}
use Rattle.kinds.specs.Kinds.{COMMENT, STRING}
use Rattle.kinds.specs.declared.kind.Kind.{Kind}
use Rattle.kinds.specs.declared.kind.Kind.TheVariants.{Illegal, Char as CharKind, String}
use Rattle.kinds.specs.Number.{kind_number}
use Rattle.errors.specs.Numbers.{OPEN_RAW_STRING}
use Rattle.errors.specs.declared.fault.Fault.{Fault}
use Rattle.errors.specs.declared.fault.Fault.TheVariants.{NotOneCharacter}
use Rattle.errors.specs.Faults.{error_number}
use Rattle.quotes.specs.Body.{Body, body, ReadBody, quoted_at, body_at}
use Rattle.quotes.proofs.Bodies.{strays_fit, closed_sound}
use Rattle.quotes.proofs.Local.{body_bound, body_no_lf}
use Rattle.quotes.proofs.Shown.{strays_in, body_strays, encoded_length, encoded_differs}
use Rattle.quotes.proofs.Counts.{value_differs_lem}
use Rattle.utf8.specs.Count.{is_lf, count}
use Rattle.lexer.specs.declared.lexed.Text.TheVariants.{AsRead}
use Rattle.lexer.specs.declared.lexed.Value.{Value}
use Rattle.lexer.specs.declared.lexed.Value.TheVariants.{Empty as NoValue, Interpreted}
use Rattle.lexer.specs.declared.lexed.Shown.{Shown}
use Rattle.lexer.specs.declared.lexed.Lexed.{Lexed}
use Rattle.lexer.specs.Quotes.{string_of, lex_string, char_literal_of, lex_char}
use Rattle.lexer.specs.Made.{shown_as, no_value}
use Rattle.lexer.specs.Making.{is_number, is_raw}
use Rattle.lexer.specs.Placed.{value_of, length_of, said, placed}
use Rattle.lexer.proofs.Said.{alike, exact_with_strays, text_some}
use Rattle.lexer.proofs.Opened.{lexeme_as, open_chars, inside_token}
use Rattle.lexer.proofs.Ways.{way_read}

-- ---- counts of characters
strays_count : (cs : List Char) → strays_in cs ≡ count is_stray cs
strays_count [] = refl
strays_count (c ∷ cs) = ap (λ n. cond (is_stray c) 1 0 + n) (strays_count cs)

no_lfs : (n : ℕ) (r : List Char) → ((i : ℕ) → i < n → (get_or r i ended).code ≡ 10 → ⊥) → count is_lf (take n r) ≡ 0
no_lfs zero r f = refl
no_lfs (suc n) [] f = refl
no_lfs (suc n) (c ∷ r) f = rw (ne_eqb c.code 10 (f 0 (omega arith))) (zero-add _ ∙ no_lfs n r (λ i h. f (suc i) (suc-le-suc h)))

-- a literal by its body as it is read, with what the code sets itself
abbrev pub literal_as : ReadBody → ℕ → Kind → Option Fault → ℕ → Shown Value → Lexed
literal_as q at kind error code value =
    record {
      end = q.end;
      chars = q.chars + 1;
      lfs = 0;
      strays = q.strays;
      kind = kind;
      inserted = false;
      mark = true;
      error = error;
      code = code;
      text = shown_as AsRead (q.end - at) (not (eqb q.strays 0));
      value = value;
    }

-- the quote of a string or of a character literal
abbrev pub Quote : ℕ → Type 0
Quote quote = (quote ≡ 34) ⊎ (quote ≡ 39)

module _ (quote : ℕ) (is-quote : Quote quote) (s : List ℕ) (at : ℕ) (there : get_or s at 0 ≡ quote) where
  some : 0 < quote
  some = ⊎_elim (λ e. omega arith) (λ e. omega arith) is-quote

  low : quote < 0x80
  low = ⊎_elim (λ e. omega arith) (λ e. omega arith) is-quote

  no_lf : quote ≡ 10 → ⊥
  no_lf z = ⊎_elim (λ e. omega arith) (λ e. omega arith) is-quote

  abbrev rest : List Char
  rest = chars (drop (at + 1) s)

  abbrev inner : Body
  inner = body quote rest

  abbrev size : ℕ
  size = widths (take inner.len rest)

  abbrev read : List Char
  read = take (suc inner.len) (chars (drop at s))

  first : chars (drop at s) ≡ ascii quote ∷ rest
  first = open_chars s at quote some low there

  inside : at < length s
  inside = reach s at (omega (arith, some))

  read_bytes : widths read ≡ suc size
  read_bytes = rw first (omega arith)

  read_lfs : count is_lf read ≡ 0
  read_lfs = rw (first, ne_eqb quote 10 no_lf) (zero-add _ ∙ no_lfs inner.len rest (body_no_lf quote no_lf rest))

  read_strays : count is_stray read ≡ inner.strays
  read_strays =
      rw (first, ne_eqb quote 0xFFFD (λ e. omega (arith, low))) (zero-add _ ∙ sym (strays_count (take inner.len rest)) ∙ body_strays quote low rest)

  read_fits : at + widths read ≤ length s
  read_fits = place_fits (suc inner.len) s at (omega (arith, inside))

  read_text : length (encoded read) ≡ suc size + 2 * inner.strays
  read_text =
      encoded_length (suc inner.len) s at ∙ ap (λ n. widths read + 2 * n) (strays_count read ∙ read_strays) ∙ ap (λ n. n + 2 * inner.strays) read_bytes

  -- what the code needs: the place after it, and room for one character more
  pub literal_room : (q : ReadBody) → q ≡ quoted_at quote s (at + 1) → length s < 2 ^ 63 → (at ≤ q.end) × (suc q.chars < 2 ^ 64)
  unfolding body_at
  literal_room q e h =
      rw e (omega arith, omega (arith, body_bound quote rest, chars_le (drop (at + 1) s), length-drop (at + 1) s, inside))

  -- the quote starts no number and no raw string
  no_number : is_number read ≡ false
  no_number = rw first (⊎_elim (λ e. rw e) (λ e. rw e) is-quote)

  no_raw : is_raw read ≡ false
  no_raw = rw first (⊎_elim (λ e. rw e) (λ e. rw e) is-quote)

  literal_said : (q : ReadBody) → q ≡ quoted_at quote s (at + 1) → (kind : Kind) (error : Option Fault) (code : ℕ) (how : Value) (value : List ℕ) (bytes : ℕ) (differs : Bool)
      → eqb (kind_number kind) COMMENT ≡ false → how ≡ cond (eqb (kind_number kind) STRING) Interpreted NoValue
      → value_of how rest ≡ value → length_of bytes inner.strays differs ≡ length value
      → differs ≡ not (same value (cond (eqb (kind_number kind) STRING) (take (size - cond (eqb (error_number error) OPEN_RAW_STRING) 0 1) (drop (at + 1) s)) []))
      → said s at (literal_as q at kind error code (shown_as how bytes differs)) ≡ placed s at (lexeme_as (suc inner.len) (kind_number kind) (error_number error) code true (encoded read) value)
  unfolding said placed body_at
  literal_said q e kind error code how value bytes differs k w v n d =
      let r = chars (drop at s) in
      let one = add-one inner.len in
      rw e
      (alike
      (record {
        lexeme =
            λ i. record {
              skipped = 0;
              len = one i;
              kind = kind_number kind;
              inserted = false;
              text = encoded (take (one i) r);
              value = v i;
              code = code;
              error = error_number error;
              mark = true;
            };
        end = omega (arith, read_bytes);
        lfs = sym read_lfs;
        strays = sym read_strays;
        text_making =
            way_read read (lexeme_as (suc inner.len) (kind_number kind) (error_number error) code true (encoded read) value) (omega (arith, read_text)) no_number no_raw k;
        value_making = rw no_raw w;
        text_length = exact_with_strays false _ inner.strays _ (omega (arith, read_text));
        value_length = n;
        text_differs =
            sym (text_some (encoded read) (take (widths read) (drop at s)) (omega (arith, read_text))
            ∙ encoded_differs (suc inner.len) s at (omega (arith, inside)) ∙ ap (λ k. not (eqb k 0)) (strays_count read ∙ read_strays));
        value_differs =
            d ∙ ap (λ l. not (same value (cond (eqb (kind_number kind) STRING) l []))) (sym (inside_token (eqb (error_number error) OPEN_RAW_STRING) s at (widths read) size read_bytes read_fits));
      }))

  -- one that has no value
  literal_bare : (q : ReadBody) → q ≡ quoted_at quote s (at + 1) → (kind : Kind) (error : Option Fault) (code : ℕ) → eqb (kind_number kind) COMMENT ≡ false → eqb (kind_number kind) STRING ≡ false
      → said s at (literal_as q at kind error code no_value) ≡ placed s at (lexeme_as (suc inner.len) (kind_number kind) (error_number error) code true (encoded read) [])
  unfolding same
  literal_bare q e kind error code c k = literal_said q e kind error code NoValue [] 0 false c (rw k) refl refl (rw k)

-- ---- strings
module _ (s : List ℕ) (at : ℕ) (there : get_or s at 0 ≡ 34) (q : ReadBody) (is : q ≡ quoted_at 34 s (at + 1)) where
  string_body : lex_string (chars (drop at s)) ≡ string_of (chars (drop at s)) (body 34 (chars (drop (at + 1) s)))
  unfolding lex_string
  string_body = ap (λ r. string_of (chars (drop at s)) (body 34 (drop 1 r))) (open_chars s at 34 (omega arith) (omega arith) there)

  pub string_open : q.closed ≡ false → (error : Option Fault) → error_number error ≡ q.error
      → said s at (literal_as q at Illegal error 0 no_value) ≡ placed s at (lex_string (chars (drop at s)))
  unfolding body_at
  string_open h error f =
      let k : (body 34 (chars (drop (at + 1) s))).closed ≡ false = sym (ap (λ (x : ReadBody). x.closed) is) ∙ h in
      literal_bare 34 (inl refl) s at there q is Illegal error 0 refl refl
      ∙ ap (placed s at) (sym (string_body ∙ rw (k, f, is)))

  pub string_closed : q.closed ≡ true
      → said s at (literal_as q at String None 0 (shown_as Interpreted q.bytes (q.escaped || not (eqb q.strays 0)))) ≡ placed s at (lex_string (chars (drop at s)))
  unfolding body_at
  string_closed h =
      let b = body 34 (chars (drop (at + 1) s)) in
      let k : b.closed ≡ true = sym (ap (λ (x : ReadBody). x.closed) is) ∙ h in
      literal_said 34 (inl refl) s at there q is String None 0 Interpreted b.value q.bytes _ refl refl refl
      (rw is (exact_with_strays b.escaped _ b.strays (length b.value) (omega (arith, strays_fit 34 (chars (drop (at + 1) s)) 0))))
      (ap (λ (x : ReadBody). x.escaped || not (eqb x.strays 0)) is ∙ sym (value_differs_lem 34 (omega arith) s (at + 1) k))
      ∙ ap (placed s at) (sym (string_body ∙ rw (k, closed_sound 34 (chars (drop (at + 1) s)) k)))

-- ---- character literals
module _ (s : List ℕ) (at : ℕ) (there : get_or s at 0 ≡ 39) (q : ReadBody) (is : q ≡ quoted_at 39 s (at + 1)) where
  char_body : lex_char (chars (drop at s)) ≡ char_literal_of (chars (drop at s)) (body 39 (chars (drop (at + 1) s)))
  unfolding lex_char
  char_body = ap (λ r. char_literal_of (chars (drop at s)) (body 39 (drop 1 r))) (open_chars s at 39 (omega arith) (omega arith) there)

  pub char_open : q.closed ≡ false → (error : Option Fault) → error_number error ≡ q.error
      → said s at (literal_as q at Illegal error 0 no_value) ≡ placed s at (lex_char (chars (drop at s)))
  unfolding body_at
  char_open h error f =
      let k : (body 39 (chars (drop (at + 1) s))).closed ≡ false = sym (ap (λ (x : ReadBody). x.closed) is) ∙ h in
      literal_bare 39 (inr refl) s at there q is Illegal error 0 refl refl
      ∙ ap (placed s at) (sym (char_body ∙ rw (k, f, is)))

  module _ (h : q.closed ≡ true) where
    closed : (body 39 (chars (drop (at + 1) s))).closed ≡ true
    unfolding body_at
    closed = sym (ap (λ (x : ReadBody). x.closed) is) ∙ h

    pub char_none : (q.count ≡ 1 → ⊥) → said s at (literal_as q at Illegal (Some NotOneCharacter) 0 no_value) ≡ placed s at (lex_char (chars (drop at s)))
    unfolding body_at
    char_none n =
        let m : eqb (body 39 (chars (drop (at + 1) s))).count 1 ≡ false = ne_eqb _ 1 (λ z. n (ap (λ (x : ReadBody). x.count) is ∙ z)) in
        literal_bare 39 (inr refl) s at there q is Illegal (Some NotOneCharacter) 0 refl refl
        ∙ ap (placed s at) (sym (char_body ∙ rw (closed, m)))

    pub char_one : q.count ≡ 1 → said s at (literal_as q at CharKind None q.code no_value) ≡ placed s at (lex_char (chars (drop at s)))
    unfolding body_at
    char_one n =
        let b = body 39 (chars (drop (at + 1) s)) in
        let m : b.count ≡ 1 = sym (ap (λ (x : ReadBody). x.count) is) ∙ n in
        literal_bare 39 (inr refl) s at there q is CharKind None q.code refl refl
        ∙ ap (placed s at) (sym (char_body ∙ rw (closed, m, is)))
