-- What is said of a raw string or a comment: its characters are those that open it and those of its span.
use Prim.Native.Nat.{ℕ, suc, ◌+◌, ◌*◌, ◌-◌, ◌^◌, ◌≤◌, ◌<◌}
use mathlib.Core.Path.{◌≡◌, refl, sym, ap, ◌∙◌}
use mathlib.Core.Bool.{Bool, true, false, cond, not, ◌&&◌, ◌||◌}
use mathlib.Core.List.{List, [], ◌∷◌, ◌++◌, append-nil}
use native.Mathlib.Omega.{arith}
use lib.Dec.{eqb}
use lib.ListN.{length, get_or, take, drop, length-append, length-drop}
use Rattle.basics.specs.Same.{same}
use Rattle.utf8.specs.declared.Char.{Char}
use Rattle.utf8.specs.Chars.{chars, peek, widths, is_stray}
use Rattle.utf8.proofs.First.{chars_le}
use Rattle.utf8.proofs.Places.{place_fits}
use Rattle.utf8.proofs.Ends.{peek_take}
use Rattle.std.specs.Prelude.{Option, Some, None}
use Rattle.kinds.specs.Kinds.{STRING, COMMENT}
use Rattle.kinds.specs.declared.kind.Kind.{Kind}
use Rattle.kinds.specs.declared.kind.Kind.TheVariants.{Comment, String}
use Rattle.kinds.specs.Number.{kind_number}
use Rattle.errors.specs.Numbers.{OPEN_RAW_STRING, OPEN_COMMENT}
use Rattle.errors.specs.declared.fault.Fault.{Fault}
use Rattle.errors.specs.declared.fault.Fault.TheVariants.{OpenRawString}
use Rattle.errors.specs.Faults.{error_number}
use Rattle.spans.specs.declared.body.Body.{Body}
use Rattle.spans.specs.Span.{Span, to_stop, to_star_slash}
use Rattle.utf8.specs.Count.{is_cr, count}
use Rattle.spans.specs.Body.{raw_inside, body_of, clean}
use Rattle.spans.proofs.Spans.{stop_spanned, slash_spanned}
use Rattle.utf8.proofs.Count.{count_fits}
use Rattle.spans.proofs.Counts.{stop_inside}
use Rattle.spans.specs.Line.{ends_line}
use Rattle.spans.proofs.Texts.{clean_length, clean_differs, clean_fed}
use Rattle.lexer.specs.declared.lexed.Text.{Text}
use Rattle.lexer.specs.declared.lexed.Text.TheVariants.{WithoutCr, WithLf}
use Rattle.lexer.specs.declared.lexed.Value.{Value}
use Rattle.lexer.specs.declared.lexed.Value.TheVariants.{Empty as NoValue, Raw}
use Rattle.lexer.specs.declared.lexed.Shown.{Shown}
use Rattle.lexer.specs.declared.lexed.Lexed.{Lexed}
use Rattle.lexer.specs.Lexeme.{inserted_semicolon}
use Rattle.lexer.specs.Quotes.{raw_of, lex_raw}
use Rattle.lexer.specs.Comments.{line_comment, general_comment, comment, lex_comment}
use Rattle.lexer.specs.Made.{shown_as, no_value, clean_as, inserted_at}
use Rattle.lexer.specs.Making.{text_way, value_way}
use Rattle.lexer.specs.Placed.{text_of, value_of, text_differs_in, length_of, said, placed}
use Rattle.lexer.proofs.Said.{alike, exact_with_strays, text_some, semicolon_said}
use Rattle.lexer.proofs.Opened.{lexeme_as, Opened, opened_raw, opened_comment, open_chars, comment_chars, inside_token}
use Rattle.lexer.proofs.Ways.{way_without_cr, way_with_lf}

-- a token by its body, with what the code sets itself
abbrev pub body_as : Body → ℕ → Kind → Option Fault → Bool → Shown Text → Shown Value → Lexed
body_as b opening kind error mark text value =
    record {
      end = b.end;
      chars = b.chars + opening;
      lfs = b.lfs;
      strays = b.strays;
      kind = kind;
      inserted = false;
      mark = mark;
      error = error;
      code = 0;
      text = text;
      value = value;
    }

-- how many bytes its text has, and whether they differ from those read
abbrev pub bytes_of : Body → ℕ → ℕ
bytes_of b at = b.end - at - b.crs

abbrev pub differs_of : Body → Bool
differs_of b = not (eqb b.crs 0) || not (eqb b.strays 0)

module _ (s : List ℕ) (at n : ℕ) (o : Opened s at n) (sp : Span) where
  abbrev rest : List Char
  rest = chars (drop (at + n) s)

  abbrev size : ℕ
  size = widths (take sp.len rest)

  abbrev read : List Char
  read = take (n + sp.len) (chars (drop at s))

  read_fits : at + widths read ≤ length s
  read_fits = place_fits (n + sp.len) s at (omega (arith, o.within))

  crs_fit : count is_cr (take sp.len rest) ≤ size
  crs_fit = count_fits is_cr sp.len s (at + n)

  -- what the code needs: the CRs are among the bytes, and there is room for the opening
  pub span_room : sp.len ≤ length rest → (b : Body) → b ≡ body_of (at + n) sp rest → length s < 2 ^ 63 → (at + b.crs ≤ b.end) × (b.chars + n < 2 ^ 64)
  unfolding body_of
  span_room l b e h =
      rw e (omega (arith, crs_fit), omega (arith, l, chars_le (drop (at + n) s), length-drop (at + n) s, o.within))

  -- the text is no longer than the source
  pub span_bytes : (b : Body) → b ≡ body_of (at + n) sp rest → bytes_of b at ≤ length s
  unfolding body_of
  span_bytes b e = rw e (omega (arith, read_fits, o.bytes sp.len))

  text_length_lem : length (clean read) + count is_cr (take sp.len rest) ≡ n + size + 2 * count is_stray read
  text_length_lem =
      sym (ap (λ k. length (clean read) + k) (o.crs sp.len)) ∙ clean_length s (n + sp.len) at ∙ ap (λ k. k + 2 * count is_stray read) (o.bytes sp.len)

  pub text_there : 0 < n → 0 < length (clean read)
  text_there some = omega (arith, text_length_lem, crs_fit)

  text_counted : (b : Body) → b ≡ body_of (at + n) sp rest → bytes_of b at + 2 * b.strays ≡ length (clean read)
  unfolding body_of
  text_counted b e = rw e (omega (arith, text_length_lem, crs_fit, o.strays sp.len))

  text_exact : (b : Body) → b ≡ body_of (at + n) sp rest → length_of (bytes_of b at) b.strays (differs_of b) ≡ length (clean read)
  text_exact b e = exact_with_strays (not (eqb b.crs 0)) (bytes_of b at) b.strays (length (clean read)) (text_counted b e)

  text_differs_lem : 0 < n → (b : Body) → b ≡ body_of (at + n) sp rest → differs_of b ≡ text_differs_in (clean read) (take (widths read) (drop at s))
  unfolding body_of
  text_differs_lem some b e =
      rw (e, ← o.crs sp.len, ← o.strays sp.len)
      (sym (text_some (clean read) (take (widths read) (drop at s)) (text_there some) ∙ clean_differs s (n + sp.len) at (omega (arith, o.within))))

  span_said : (b : Body) → b ≡ body_of (at + n) sp rest → (kind : Kind) (error : Option Fault) (mark : Bool) (how : Text) (way : Value) (text value : List ℕ) (bytes inside : ℕ) (differs other : Bool)
      → how ≡ text_way read (lexeme_as (n + sp.len) (kind_number kind) (error_number error) 0 mark text value) → way ≡ value_way read (lexeme_as (n + sp.len) (kind_number kind) (error_number error) 0 mark text value)
      → ((all : List ℕ) → text_of how read all ≡ text) → value_of way (chars (drop (at + 1) s)) ≡ value
      → length_of bytes b.strays differs ≡ length text → length_of inside b.strays other ≡ length value
      → differs ≡ text_differs_in text (take (widths read) (drop at s))
      → other ≡ not (same value (cond (eqb (kind_number kind) STRING) (take (length (take (widths read) (drop at s)) - cond (eqb (error_number error) OPEN_RAW_STRING) 1 2) (drop 1 (take (widths read) (drop at s)))) []))
      → said s at (body_as b n kind error mark (shown_as how bytes differs) (shown_as way inside other)) ≡ placed s at (lexeme_as (n + sp.len) (kind_number kind) (error_number error) 0 mark text value)
  unfolding said placed body_of
  span_said b e kind error mark how way text value bytes inside differs other tw vw t v f g h k =
      let r = chars (drop at s) in
      let m : sp.len + n ≡ n + sp.len = omega arith in
      let u : (all : List ℕ) → text_of how (take (sp.len + n) r) all ≡ text = λ all. ap (λ l. text_of how (take l r) all) m ∙ t all in
      rw e
      (alike
      (record {
        lexeme =
            λ i. record {
              skipped = 0;
              len = m i;
              kind = kind_number kind;
              inserted = false;
              text = u (take ((body_of (at + n) sp rest).end - at) (drop at s)) i;
              value = v i;
              code = 0;
              error = error_number error;
              mark = mark;
            };
        end = omega (arith, o.bytes sp.len);
        lfs = sym (o.lfs sp.len);
        strays = sym (o.strays sp.len);
        text_making = tw;
        value_making = vw;
        text_length = rw e at f;
        value_length = rw e at g;
        text_differs = h;
        value_differs = k;
      }))

-- ---- raw strings
module _ (s : List ℕ) (at : ℕ) (there : get_or s at 0 ≡ 96) (b : Body) (is : b ≡ body_of (at + 1) (to_stop 96 (chars (drop (at + 1) s))) (chars (drop (at + 1) s))) where
  abbrev raw_span : Span
  raw_span = to_stop 96 (chars (drop (at + 1) s))

  abbrev raw_read : List Char
  raw_read = take (1 + raw_span.len) (chars (drop at s))

  abbrev raw_value : List ℕ
  raw_value = clean (take (raw_inside raw_span) (chars (drop (at + 1) s)))

  raw_opened : Opened s at 1
  raw_opened = opened_raw s at there

  raw_rest : drop 1 (chars (drop at s)) ≡ chars (drop (at + 1) s)
  raw_rest = ap (drop 1) (open_chars s at 96 (omega arith) (omega arith) there)

  pub raw_room : length s < 2 ^ 63 → (at + b.crs ≤ b.end) × (b.chars + 1 < 2 ^ 64)
  raw_room h = span_room s at 1 raw_opened raw_span (stop_spanned 96 (chars (drop (at + 1) s))).bound b is h

  raw_lexeme : lex_raw (chars (drop at s)) ≡ lexeme_as (1 + raw_span.len) STRING (cond raw_span.closed 0 OPEN_RAW_STRING) 0 true (clean raw_read) raw_value
  unfolding lex_raw
  raw_lexeme =
      let r = chars (drop at s) in
      let n : suc raw_span.len ≡ 1 + raw_span.len = omega arith in
      ap (λ l. raw_of r (to_stop 96 l)) raw_rest
      ∙ ap (λ l. lexeme_as (suc raw_span.len) STRING (cond raw_span.closed 0 OPEN_RAW_STRING) 0 true (clean (take (suc raw_span.len) r)) (clean (take (raw_inside raw_span) l))) raw_rest
      ∙ ap (λ k. lexeme_as k STRING (cond raw_span.closed 0 OPEN_RAW_STRING) 0 true (clean (take k r)) raw_value) n

  -- the bytes of the value are the first k characters after the backquote, of w bytes, with the CRs and stray bytes of the whole
  raw_value_lem : (k : ℕ) → raw_inside raw_span ≡ k → count is_cr (take raw_span.len (chars (drop (at + 1) s))) ≡ count is_cr (take k (chars (drop (at + 1) s)))
      → count is_stray (take raw_span.len (chars (drop (at + 1) s))) ≡ count is_stray (take k (chars (drop (at + 1) s)))
      → (length raw_value + b.crs ≡ widths (take k (chars (drop (at + 1) s))) + 2 * b.strays)
      × (differs_of b ≡ not (same raw_value (take (widths (take k (chars (drop (at + 1) s)))) (drop (at + 1) s))))
  unfolding body_of
  raw_value_lem k e c t =
      let r = chars (drop (at + 1) s) in
      rw (is, e) (
        ap (λ m. length (clean (take k r)) + m) c ∙ clean_length s k (at + 1) ∙ ap (λ m. widths (take k r) + 2 * m) (sym t),
        rw (c, t) (sym (clean_differs s k (at + 1) raw_opened.within)),
      )

  raw_first : peek raw_read ≡ 96
  raw_first = peek_take (1 + raw_span.len) (chars (drop at s)) (omega arith) ∙ ap peek (open_chars s at 96 (omega arith) (omega arith) there)

  raw_said : (error : Option Fault) → cond raw_span.closed 0 OPEN_RAW_STRING ≡ error_number error → (inside : ℕ) → inside + 2 * b.strays ≡ length raw_value
      → differs_of b ≡ not (same raw_value (take (widths (take raw_span.len (chars (drop (at + 1) s))) - cond (eqb (error_number error) OPEN_RAW_STRING) 0 1) (drop (at + 1) s)))
      → said s at (body_as b 1 String error true (clean_as b at) (shown_as Raw inside (differs_of b))) ≡ placed s at (lex_raw (chars (drop at s)))
  raw_said error e inside n d =
      let w : widths raw_read ≡ suc (widths (take raw_span.len (chars (drop (at + 1) s)))) = omega (arith, raw_opened.bytes raw_span.len) in
      let x = lexeme_as (1 + raw_span.len) STRING (error_number error) 0 true (clean raw_read) raw_value in
      span_said s at 1 raw_opened raw_span b is String error true WithoutCr Raw (clean raw_read) raw_value (bytes_of b at) inside (differs_of b) (differs_of b)
      (way_without_cr raw_read x (text_there s at 1 raw_opened raw_span (omega arith)) (rw raw_first) (rw raw_first) refl) (rw raw_first)
      (λ _. refl) refl (text_exact s at 1 raw_opened raw_span b is)
      (exact_with_strays (not (eqb b.crs 0)) inside b.strays (length raw_value) n) (text_differs_lem s at 1 raw_opened raw_span (omega arith) b is)
      (d ∙ ap (λ l. not (same raw_value l)) (sym (inside_token (eqb (error_number error) OPEN_RAW_STRING) s at (widths raw_read) _ w (read_fits s at 1 raw_opened raw_span))))
      ∙ ap (placed s at) (sym (raw_lexeme ∙ ap (λ k. lexeme_as (1 + raw_span.len) STRING k 0 true (clean raw_read) raw_value) e))

  module _ (h : b.closed ≡ true) where
    closed : raw_span.closed ≡ true
    unfolding body_of
    closed = sym (ap (λ (x : Body). x.closed) is) ∙ h

    -- both backquotes are in the text
    pub raw_two : 2 ≤ bytes_of b at
    unfolding body_of
    raw_two =
        let i = stop_inside 96 (omega arith) (λ z. omega arith) s (at + 1) closed in
        rw is (omega (arith, i.bytes, i.crs, count_fits is_cr (raw_span.len - 1) s (at + 1)))

    pub raw_closed : said s at (body_as b 1 String None true (clean_as b at) (shown_as Raw (bytes_of b at - 2) (differs_of b))) ≡ placed s at (lex_raw (chars (drop at s)))
    unfolding body_of
    raw_closed =
        let r = chars (drop (at + 1) s) in
        let i = stop_inside 96 (omega arith) (λ z. omega arith) s (at + 1) closed in
        let v = raw_value_lem (raw_span.len - 1) (rw closed) i.crs i.strays in
        let w : widths (take raw_span.len r) - 1 ≡ widths (take (raw_span.len - 1) r) = omega (arith, i.bytes) in
        let end : b.end ≡ at + 1 + widths (take raw_span.len r) = ap (λ (x : Body). x.end) is in
        raw_said None (rw closed) (bytes_of b at - 2) (omega (arith, v.0, i.bytes, end, raw_two)) (v.1 ∙ ap (λ m. not (same raw_value (take m (drop (at + 1) s)))) (sym w))

  pub raw_one : 1 ≤ bytes_of b at
  unfolding body_of
  raw_one = rw is (omega (arith, count_fits is_cr raw_span.len s (at + 1)))

  pub raw_open : b.closed ≡ false → said s at (body_as b 1 String (Some OpenRawString) true (clean_as b at) (shown_as Raw (bytes_of b at - 1) (differs_of b))) ≡ placed s at (lex_raw (chars (drop at s)))
  unfolding body_of
  raw_open h =
      let r = chars (drop (at + 1) s) in
      let c : raw_span.closed ≡ false = sym (ap (λ (x : Body). x.closed) is) ∙ h in
      let v = raw_value_lem raw_span.len (rw c) refl refl in
      let w : widths (take raw_span.len r) - 0 ≡ widths (take raw_span.len r) = omega arith in
      let end : b.end ≡ at + 1 + widths (take raw_span.len r) = ap (λ (x : Body). x.end) is in
      raw_said (Some OpenRawString) (rw c) (bytes_of b at - 1) (omega (arith, v.0, end, raw_one)) (v.1 ∙ ap (λ m. not (same raw_value (take m (drop (at + 1) s)))) (sym w))

-- ---- comments
module _ (s : List ℕ) (at : ℕ) (first : get_or s at 0 ≡ 47) (mark : Bool) (b : Body) where
  -- closed or not, where only the text may differ
  comment_first : (x k : ℕ) → 0 < x → x < 0x80 → get_or s (at + 1) 0 ≡ x → peek (take (2 + k) (chars (drop at s))) ≡ 47
  comment_first x k z l e = peek_take (2 + k) (chars (drop at s)) (omega arith) ∙ ap peek (comment_chars s at x z l first e)

  comment_said : (x : ℕ) → 13 < x → x < 0x80 → get_or s (at + 1) 0 ≡ x → (sp : Span) → b ≡ body_of (at + 2) sp (chars (drop (at + 2) s)) → (error : Option Fault)
      → said s at (body_as b 2 Comment error mark (clean_as b at) no_value)
      ≡ placed s at (lexeme_as (2 + sp.len) COMMENT (error_number error) 0 mark (clean (take (2 + sp.len) (chars (drop at s)))) [])
  unfolding same
  comment_said x l h second sp is error =
      let o = opened_comment s at x l h first second in
      let cs = take (2 + sp.len) (chars (drop at s)) in
      let f = comment_first x sp.len (omega arith) h second in
      span_said s at 2 o sp b is Comment error mark WithoutCr NoValue _ [] (bytes_of b at) 0 (differs_of b) false
      (way_without_cr cs (lexeme_as (2 + sp.len) COMMENT (error_number error) 0 mark (clean cs) []) (text_there s at 2 o sp (omega arith)) (rw f) (rw f) refl) refl
      (λ _. refl) refl
      (text_exact s at 2 o sp b is) refl (text_differs_lem s at 2 o sp (omega arith) b is) refl

  module _ (second : get_or s (at + 1) 0 ≡ 47) (is : b ≡ body_of (at + 2) (to_stop 10 (chars (drop (at + 2) s))) (chars (drop (at + 2) s))) where
    abbrev line_span : Span
    line_span = to_stop 10 (chars (drop (at + 2) s))

    abbrev line_read : List Char
    line_read = take (2 + line_span.len) (chars (drop at s))

    line_opened : Opened s at 2
    line_opened = opened_comment s at 47 (omega arith) (omega arith) first second

    pub line_room : length s < 2 ^ 63 → (at + b.crs ≤ b.end) × (b.chars + 2 < 2 ^ 64)
    line_room h = span_room s at 2 line_opened line_span (stop_spanned 10 (chars (drop (at + 2) s))).bound b is h

    pub line_bytes : bytes_of b at ≤ length s
    line_bytes = span_bytes s at 2 line_opened line_span b is

    line_lexeme : comment mark (chars (drop at s)) ≡ line_comment mark (chars (drop at s)) line_span
    unfolding comment
    line_lexeme =
        let r = chars (drop at s) in
        ap (λ l. cond (eqb (peek (drop 1 l)) 47) (line_comment mark r (to_stop 10 (drop 2 l))) (general_comment mark r (to_star_slash false (drop 2 l))))
        (comment_chars s at 47 (omega arith) (omega arith) first second)

    pub line_closed : b.closed ≡ true → said s at (body_as b 2 Comment None mark (clean_as b at) no_value) ≡ placed s at (comment mark (chars (drop at s)))
    unfolding body_of
    line_closed h =
        let c : line_span.closed ≡ true = sym (ap (λ (x : Body). x.closed) is) ∙ h in
        comment_said 47 (omega arith) (omega arith) second line_span is None
        ∙ ap (placed s at) (sym (line_lexeme ∙ rw (c, append-nil (clean line_read))))

    pub line_open : b.closed ≡ false → said s at (body_as b 2 Comment None mark (shown_as WithLf (bytes_of b at + 1) true) no_value) ≡ placed s at (comment mark (chars (drop at s)))
    unfolding body_of same
    line_open h =
        let c : line_span.closed ≡ false = sym (ap (λ (x : Body). x.closed) is) ∙ h in
        let o = line_opened in
        let bytes = take (widths line_read) (drop at s) in
        let fed : List ℕ = clean line_read ++ (10 ∷ []) in
        let n = length-append (clean line_read) (10 ∷ []) in
        let f = comment_first 47 line_span.len (omega arith) (omega arith) second in
        span_said s at 2 o line_span b is Comment None mark WithLf NoValue fed [] (bytes_of b at + 1) 0 true false
        (way_with_lf line_read (lexeme_as (2 + line_span.len) COMMENT 0 0 mark fed []) (omega (arith, n)) (rw f) (rw f) refl) refl
        (λ _. refl) refl
        (omega (arith, n, text_counted s at 2 o line_span b is)) refl
        (sym (text_some fed bytes (omega (arith, n)) ∙ ap not (clean_fed s (2 + line_span.len) at (omega (arith, o.within))))) refl
        ∙ ap (placed s at) (sym (line_lexeme ∙ rw c))

  module _ (second : get_or s (at + 1) 0 ≡ 42) (is : b ≡ body_of (at + 2) (to_star_slash false (chars (drop (at + 2) s))) (chars (drop (at + 2) s))) where
    abbrev general_span : Span
    general_span = to_star_slash false (chars (drop (at + 2) s))

    pub general_room : length s < 2 ^ 63 → (at + b.crs ≤ b.end) × (b.chars + 2 < 2 ^ 64)
    general_room h =
        span_room s at 2 (opened_comment s at 42 (omega arith) (omega arith) first second) general_span (slash_spanned false (chars (drop (at + 2) s))).bound b is h

    general_lexeme : comment mark (chars (drop at s)) ≡ general_comment mark (chars (drop at s)) general_span
    unfolding comment
    general_lexeme =
        let r = chars (drop at s) in
        ap (λ l. cond (eqb (peek (drop 1 l)) 47) (line_comment mark r (to_stop 10 (drop 2 l))) (general_comment mark r (to_star_slash false (drop 2 l))))
        (comment_chars s at 42 (omega arith) (omega arith) first second)

    pub general_said : (error : Option Fault) → cond b.closed 0 OPEN_COMMENT ≡ error_number error
        → said s at (body_as b 2 Comment error mark (clean_as b at) no_value) ≡ placed s at (comment mark (chars (drop at s)))
    unfolding body_of
    general_said error e =
        let c : cond general_span.closed 0 OPEN_COMMENT ≡ error_number error = sym (ap (λ (x : Body). cond x.closed 0 OPEN_COMMENT) is) ∙ e in
        comment_said 42 (omega arith) (omega arith) second general_span is error
        ∙ ap (placed s at) (sym (general_lexeme ∙ rw c))

-- ---- a comment that ends its line
module _ (s : List ℕ) (at x : ℕ) (some : 0 < x) (low : x < 0x80) (first : get_or s at 0 ≡ 47) (second : get_or s (at + 1) 0 ≡ x) (mark : Bool) where
  comment_ends : lex_comment mark (chars (drop at s))
      ≡ cond (mark && (eqb x 47 || ends_line false (chars (drop (at + 2) s)))) inserted_semicolon (comment mark (chars (drop at s)))
  unfolding lex_comment
  comment_ends =
      ap (λ r. cond (mark && (eqb (peek (drop 1 r)) 47 || ends_line false (drop 2 r))) inserted_semicolon (comment mark (chars (drop at s))))
      (comment_chars s at x some low first second)

  pub comment_inserted : mark && (eqb x 47 || ends_line false (chars (drop (at + 2) s))) ≡ true → said s at (inserted_at at) ≡ placed s at (lex_comment mark (chars (drop at s)))
  comment_inserted e = semicolon_said s at ∙ ap (placed s at) (sym (comment_ends ∙ rw e))

  pub comment_kept : mark && (eqb x 47 || ends_line false (chars (drop (at + 2) s))) ≡ false
      → placed s at (comment mark (chars (drop at s))) ≡ placed s at (lex_comment mark (chars (drop at s)))
  comment_kept e = ap (placed s at) (sym (comment_ends ∙ rw e))
