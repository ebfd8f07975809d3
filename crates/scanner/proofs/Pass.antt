-- What the pass of a scan reads: the blanks, the token after them, and how the lexer's answer says it.
use Prim.Native.Nat.{ℕ, ◌+◌, ◌-◌, ◌≤◌, ◌<◌, ◌^◌}
use mathlib.Core.Path.{◌≡◌, refl, sym, ap, ◌∙◌}
use mathlib.Core.Bool.{Bool, true, false, cond, not}
use mathlib.Core.List.{List, [], ◌∷◌, ◌++◌}
use native.Mathlib.Omega.{arith}
use native.Mathlib.Nat.{add-zero, zero-add}
use lib.Dec.{eqb}
use lib.ListN.{length, take, drop, length-append, length-take, length-drop}
use lib.Seq.{take-add, length-take-le, sets}
use borrow.Author.Tests.{not-false}
use Rattle.basics.specs.Same.{same}
use Rattle.basics.proofs.Lists.{same_true}
use Rattle.utf8.specs.declared.Char.{Char}
use Rattle.utf8.specs.Chars.{chars, widths}
use Rattle.utf8.proofs.First.{chars_le}
use Rattle.utf8.proofs.Places.{place_fits}
use Rattle.kinds.specs.Kinds.{STRING}
use Rattle.utf8.specs.Count.{is_lf, count}
use Rattle.utf8.proofs.Count.{count_append, widths_append, count_fits}
use Rattle.lines.specs.Starts.{starts_read}
use Rattle.lines.proofs.Counts.{starts_count}
use Rattle.blanks.specs.Blank.{is_blank, nothing, before, skip}
use Rattle.blanks.proofs.Lengths.{skip_place, skip_widths}
use Rattle.lexer.specs.declared.lexed.Lexed.{Lexed}
use Rattle.lexer.specs.Lexeme.{Lexeme, taken, raise}
use Rattle.lexer.specs.Lex.{lex_token, lex}
use Rattle.lexer.specs.Placed.{Placed, value_read, text_differs_in, placed, said}
use Rattle.lexer.proofs.Laws.{lex_laws}
use Rattle.state.specs.declared.state.State.{State}
use Rattle.scanner.specs.Scan.{to_area}
use Rattle.scanner.specs.Steps.{text_len, value_len, to_write}

-- the line feeds among blanks
pub skip_feeds : (mark : Bool) (r : List Char) → (skip mark r).lfs ≡ count is_lf (take (skip mark r).len r)
unfolding skip
skip_feeds mark [] = refl
skip_feeds mark (c ∷ r) = go (is_blank mark c.code) (eqb c.code 10) refl (skip_feeds mark r)
  where
    go : (b f : Bool) → eqb c.code 10 ≡ f → (skip mark r).lfs ≡ count is_lf (take (skip mark r).len r)
        → (cond b (before c.code (skip mark r)) nothing).lfs ≡ count is_lf (take (cond b (before c.code (skip mark r)) nothing).len (c ∷ r))
    go false f e ih = refl
    go true true e ih = rw e (omega (arith, ih))
    go true false e ih = rw e (omega (arith, ih))

-- before the size each of them starts a line
pub starts_feeds : (size o read lfs : ℕ) (r : List Char) → read ≤ length r → lfs ≡ count is_lf (take read r) → o + read < size → lfs ≡ length (starts_read size o (take read r))
starts_feeds size o read lfs r h e l = e ∙ sym (starts_count size o (take read r) (rw (length-take-le read r h) l))

-- none to write
pub sets_none : {A : Type 0} (l : List A) (i : ℕ) (vs : List A) → length vs ≡ 0 → l ≡ sets l i vs
sets_none l i [] e = refl
sets_none l i (v ∷ vs) e = absurd (omega arith)

-- what is placed, with n more blanks before it
abbrev pub raised : ℕ → Placed → Placed
raised n p =
    record {
      lexeme = raise n p.lexeme;
      end = p.end;
      lfs = p.lfs;
      strays = p.strays;
      text_making = p.text_making;
      value_making = p.value_making;
      text_length = p.text_length;
      value_length = p.value_length;
      text_differs = p.text_differs;
      value_differs = p.value_differs;
    }

pub placed_raise : (src : List ℕ) (at n : ℕ) (y : Lexeme) → placed src at (raise n y) ≡ raised n (placed src at y)
unfolding placed
placed_raise src at n y = refl

-- ---- what is shown from the source is no longer than its bytes there
text_within : (text bytes : List ℕ) → text_differs_in text bytes ≡ false → length text ≤ length bytes
text_within [] bytes e = omega arith
text_within (b ∷ text) bytes e = omega (arith, ap length (same_true (b ∷ text) bytes (not-false (same (b ∷ text) bytes) e)))

value_within : (y : Lexeme) (bytes : List ℕ) → not (same y.value (value_read y bytes)) ≡ false → length y.value ≤ length bytes - 1
value_within y bytes e =
    rw (same_true y.value (value_read y bytes) (not-false (same y.value (value_read y bytes)) e)) (go (eqb y.kind STRING) (length bytes - cond (eqb y.error 6) 1 2))
  where
    go : (t : Bool) (k : ℕ) → length (cond t (take k (drop 1 bytes)) []) ≤ length bytes - 1
    go true k = omega (arith, length-take k (drop 1 bytes), length-drop 1 bytes)
    go false k = omega arith

-- so places and lengths together stay within the numbers
sum_fits : (t v : Bool) (start end text value src area : ℕ) → (t ≡ false → start + text ≤ end) → (v ≡ false → value ≤ end - start - 1)
    → cond t text 0 + cond v value 0 ≤ area → start ≤ end → end ≤ src → src < 2 ^ 63 → area < 2 ^ 63 → start + 1 + text + value < 2 ^ 64
sum_fits true true start end text value src area f g a b d k l = omega arith
sum_fits true false start end text value src area f g a b d k l = omega (arith, g refl)
sum_fits false true start end text value src area f g a b d k l = omega (arith, f refl)
sum_fits false false start end text value src area f g a b d k l = omega (arith, f refl, g refl)

-- ---- a token that was lexed at a place after the blanks
module _ (src : List ℕ) (s : State) (start : ℕ) where
  -- the characters left
  abbrev pub left : List Char
  left = chars (drop s.place src)

  -- how many are skipped
  abbrev pub skipped : ℕ
  skipped = start - s.place

  abbrev pub token : Lexeme
  token = lex_token s.mark (chars (drop start src))

  module _ (at : start ≡ s.place + (skip s.mark left).len) where
    pub skipped_is : skipped ≡ (skip s.mark left).len
    skipped_is = omega (arith, at)

    pub start_behind : s.place ≤ start
    start_behind = omega (arith, at)

    pub lex_raised : lex s.mark left ≡ raise skipped token
    unfolding lex
    lex_raised = rw (skip_place s.mark src s.place, ← at, skipped_is)

    pub skipped_widths : widths (take skipped left) ≡ skipped
    skipped_widths = rw skipped_is (skip_widths s.mark src s.place)

    pub left_behind : drop skipped left ≡ chars (drop start src)
    left_behind = rw (skipped_is, at) (skip_place s.mark src s.place)

    module _ (x : Lexed) (e : said src start x ≡ placed src start token) where
      abbrev pub read : ℕ
      read = skipped + x.chars

      pub token_skipped : token.skipped ≡ 0
      unfolding said placed
      token_skipped = sym (ap (λ (p : Placed). p.lexeme.skipped) e)

      pub token_len : token.len ≡ x.chars
      unfolding said placed
      token_len = sym (ap (λ (p : Placed). p.lexeme.len) e)

      pub taken_read : taken (raise skipped token) ≡ read
      taken_read = rw (token_skipped, token_len, add-zero)

      pub read_bound : read ≤ length left
      read_bound = omega (arith, lex_laws.bound s.mark left, ap taken lex_raised, taken_read)

      pub read_bytes : s.place ≤ length src → s.place + read ≤ length src
      read_bytes h = omega (arith, read_bound, chars_le (drop s.place src), length-drop s.place src)

      pub token_feeds : x.lfs ≡ count is_lf (take x.chars (chars (drop start src)))
      unfolding said placed
      token_feeds = rw (← token_len) (ap (λ (p : Placed). p.lfs) e)

      pub feeds_read : {lfs : ℕ} → lfs ≡ (skip s.mark left).lfs → lfs + x.lfs ≡ count is_lf (take read left)
      feeds_read f =
          rw (
            f,
            take-add skipped x.chars left,
            count_append is_lf (take skipped left) (take x.chars (drop skipped left)),
            left_behind,
            token_feeds,
            skipped_is,
            skip_feeds s.mark left,
          )

      pub token_end : x.end ≡ start + widths (take x.chars (chars (drop start src)))
      unfolding said placed
      token_end = rw (← token_len) (ap (λ (p : Placed). p.end) e)

      pub end_read : s.place + widths (take read left) ≡ x.end
      end_read =
          rw (
            token_end,
            take-add skipped x.chars left,
            widths_append (take skipped left) (take x.chars (drop skipped left)),
            left_behind,
            skipped_widths,
          )
          (omega (arith, at))

      pub end_behind : start ≤ x.end
      end_behind = omega (arith, token_end)

      pub end_fits : s.place ≤ length src → x.end ≤ length src
      end_fits h = omega (arith, end_read, place_fits read src s.place h)

      -- text and value have as many bytes as the answer says
      pub text_length_lem : length (said src start x).lexeme.text ≡ text_len x
      unfolding said placed
      text_length_lem = ap (λ (p : Placed). length p.lexeme.text) e ∙ sym (ap (λ (p : Placed). p.text_length) e)

      pub value_length_lem : length (said src start x).lexeme.value ≡ value_len x
      unfolding said placed
      value_length_lem = ap (λ (p : Placed). length p.lexeme.value) e ∙ sym (ap (λ (p : Placed). p.value_length) e)

      pub area_length_lem : length (to_area (said src start x)) ≡ to_write x
      unfolding said
      area_length_lem =
          go (said src start x).text_differs (said src start x).value_differs _ _ text_length_lem value_length_lem
        where
          go : (t v : Bool) (text value : List ℕ) {n m : ℕ} → length text ≡ n → length value ≡ m
              → length (cond t text [] ++ cond v value []) ≡ cond t n 0 + cond v m 0
          go true true text value e f = rw (length-append text value, e, f)
          go true false text value e f = rw (length-append text [], e)
          go false true text value e f = rw f (sym (zero-add _))
          go false false text value e f = refl

      -- the token's bytes
      abbrev bytes : List ℕ
      bytes = take (widths (take token.len (chars (drop start src)))) (drop start src)

      bytes_end : start + length bytes ≤ x.end
      unfolding said placed
      bytes_end =
          let end : x.end ≡ start + widths (take token.len (chars (drop start src))) = ap (λ (p : Placed). p.end) e in
          omega (arith, end, length-take (widths (take token.len (chars (drop start src)))) (drop start src))

      text_kept : x.text.differs ≡ false → start + text_len x ≤ x.end
      unfolding said placed
      text_kept f =
          let l : text_len x ≡ length token.text = ap (λ (p : Placed). p.text_length) e in
          let d : x.text.differs ≡ text_differs_in token.text bytes = ap (λ (p : Placed). p.text_differs) e in
          rw l (omega (arith, text_within token.text bytes (sym d ∙ f), bytes_end))

      value_kept : x.value.differs ≡ false → value_len x ≤ x.end - start - 1
      unfolding said placed
      value_kept f =
          let l : value_len x ≡ length token.value = ap (λ (p : Placed). p.value_length) e in
          let d : x.value.differs ≡ not (same token.value (value_read token bytes)) = ap (λ (p : Placed). p.value_differs) e in
          rw l (omega (arith, value_within token bytes (sym d ∙ f), bytes_end))

      -- ---- what the code counts fits its numbers
      module _ (h : s.place ≤ length src) (short : length src < 2 ^ 63) where
        pub read_fits : read < 2 ^ 64
        read_fits = omega (arith, read_bytes h)

        pub offset_fits : s.offset ≤ s.place → s.offset + read < 2 ^ 64
        offset_fits l = omega (arith, read_bytes h)

        pub feeds_fit : {lfs : ℕ} → lfs ≡ (skip s.mark left).lfs → lfs + x.lfs < 2 ^ 64
        feeds_fit f = rw (feeds_read f) (omega (arith, count_fits is_lf read src s.place, place_fits read src s.place h))

        pub lengths_fit : (area : ℕ) → area < 2 ^ 63 → to_write x ≤ area → start + 1 + text_len x + value_len x < 2 ^ 64
        lengths_fit area small w =
            sum_fits x.text.differs x.value.differs start x.end (text_len x) (value_len x) (length src) area text_kept value_kept w end_behind (end_fits h) short small
