-- Laws of a body at a place of a text: what was read of it and what is left make the whole.
use Prim.Native.Nat.{ℕ, suc, ◌+◌, ◌*◌, ◌-◌, ◌≤◌, ◌<◌}
use mathlib.Core.Path.{◌≡◌, refl, sym, ◌∙◌}
use mathlib.Core.Bool.{Bool, true, false, cond, ◌||◌, or-true, or-false}
use mathlib.Core.List.{List, [], ◌∷◌}
use mathlib.Core.Logic.{⊎_elim}
use native.Mathlib.Omega.{arith}
use native.Mathlib.Numerals.{add-one}
use native.Mathlib.Nat.{add-zero, zero-add, suc-add}
use lib.Dec.{eqb}
use lib.ListN.{length, get_or, take, drop, length-append, length-drop, length-take}
use borrow.Author.Tests.{ne_eqb}
use Rattle.basics.proofs.Choice.{either}
use Rattle.utf8.specs.declared.Char.{Char}
use Rattle.utf8.specs.Chars.{octets, encode, first_char, char_at, chars, is_stray, widths}
use Rattle.utf8.proofs.First.{ascii, char_at_in, char_at_ascii, chars_end, chars_ascii, chars_le, first_fits, there_chars}
use Rattle.utf8.proofs.Append.{first_stray}
use Rattle.utf8.proofs.Encoding.{first_coded}
use Rattle.errors.specs.Numbers.{OPEN_QUOTE}
use Rattle.quotes.specs.declared.content.Content.{Content}
use Rattle.escapes.specs.Answers.{character, no_character, Escape, bytes_of}
use Rattle.escapes.specs.Escape.{escape_of}
use Rattle.quotes.specs.Body.{Body, ReadBody, ends, plain, escape, body_from, body, body_at, quoted_at}
use Rattle.quotes.specs.Steps.{nothing_read, added, escape_piece, char_piece, plain_piece, body_end}
use Rattle.quotes.proofs.Reading.{at_quote, at_lf, at_slash, at_plain}
use Rattle.quotes.proofs.Bounds.{Fresh}
use Rattle.escapes.proofs.Heads.{escape_bound, escape_widths, escape_rest}
use Rattle.quotes.proofs.Bodies.{widths_split, strays_fit}

-- what was read, and the rest
unfoldable pub joined : Content → ReadBody → ReadBody
joined q x =
    record {
      end = x.end;
      chars = q.chars + x.chars;
      closed = x.closed;
      error = x.error;
      count = q.count + x.count;
      code = cond (eqb q.count 0) x.code q.code;
      escaped = q.escaped || x.escaped;
      strays = q.strays + x.strays;
      bytes = q.bytes + x.bytes;
    }

-- at the start nothing was read
pub joined_start : (x : ReadBody) → x ≡ joined nothing_read x
unfolding joined
joined_start x = rw (zero-add x.chars, zero-add x.count, zero-add x.strays, zero-add x.bytes)

-- ---- the end
pub joined_ends : (q : Content) (p n end : ℕ) (closed : Bool) (error : ℕ) (r : List Char) → Fresh q → p + widths (take n r) ≡ end
    → body_end q end n closed error ≡ joined q (body_at p r (ends n closed error))
unfolding body_end joined body_at
joined_ends q p n end closed error r f e = rw (e, f, or-false q.escaped, add-zero q.count, add-zero q.strays, add-zero q.bytes)

-- ---- one character more
module _ (q : Content) (p : ℕ) (c : Char) (r : List Char) (b : Body) (fit : 2 * b.strays ≤ length b.value) where
  pub joined_plain : length (encode c.code) ≡ c.width + 2 * cond (is_stray c) 1 0
      → joined q (body_at p (c ∷ r) (plain c b)) ≡ joined (added q (char_piece c)) (body_at (p + c.width) r b)
  unfolding added joined body_at
  joined_plain e =
      let st : ℕ = cond (is_stray c) 1 0 in
      let e1 : p + (c.width + widths (take b.len r)) ≡ p + c.width + widths (take b.len r) = omega arith in
      let e2 : q.chars + suc b.len ≡ q.chars + 1 + b.len = omega arith in
      let e3 : q.count + suc b.count ≡ q.count + 1 + b.count = omega arith in
      let e4 : cond (eqb q.count 0) c.code q.code ≡ cond (eqb (q.count + 1) 0) b.code (cond (eqb q.count 0) c.code q.code) =
      rw (ne_eqb (q.count + 1) 0 (λ z. omega arith)) in
      let e5 : q.strays + (st + b.strays) ≡ q.strays + st + b.strays = omega arith in
      let e6 : q.bytes + (length (plain c b).value - 2 * (st + b.strays)) ≡ q.bytes + c.width + (length b.value - 2 * b.strays) =
      omega (arith, length-append (encode c.code) b.value) in
      λ i. record { end = e1 i; chars = e2 i; closed = b.closed; error = b.error; count = e3 i; code = e4 i; escaped = q.escaped || b.escaped; strays = e5 i; bytes = e6 i }

module _ (q : Content) (p : ℕ) (c : Char) (r : List Char) (n : ℕ) (b : Body) (fit : 2 * b.strays ≤ length b.value) where
  pub joined_escape : c.width ≡ 1 → widths (take n r) ≡ n → (code : ℕ) (byte : Bool)
      → joined q (body_at p (c ∷ r) (escape (suc n) (character code byte) b)) ≡ joined (added q (escape_piece (n + 1) code byte)) (body_at (p + (n + 1)) (drop n r) b)
  unfolding added joined body_at
  joined_escape w e code byte =
      let v = bytes_of (character code byte) in
      let e1 : p + widths (take (suc n + b.len) (c ∷ r)) ≡ p + (n + 1) + widths (take b.len (drop n r)) =
      rw (suc-add n b.len) (omega (arith, widths_split n b.len r)) in
      let e2 : q.chars + (suc n + b.len) ≡ q.chars + (n + 1) + b.len = omega arith in
      let e3 : q.count + suc b.count ≡ q.count + 1 + b.count = omega arith in
      let e4 : cond (eqb q.count 0) code q.code ≡ cond (eqb (q.count + 1) 0) b.code (cond (eqb q.count 0) code q.code) =
      rw (ne_eqb (q.count + 1) 0 (λ z. omega arith)) in
      let e5 : q.strays + b.strays ≡ q.strays + 0 + b.strays = omega arith in
      let e6 : q.bytes + (length (escape (suc n) (character code byte) b).value - 2 * b.strays) ≡ q.bytes + length v + (length b.value - 2 * b.strays) =
      omega (arith, length-append v b.value) in
      let e7 : q.escaped || true ≡ true = or-true q.escaped in
      λ i. record { end = e1 i; chars = e2 i; closed = b.closed; error = b.error; count = e3 i; code = e4 i; escaped = e7 i; strays = e5 i; bytes = e6 i }

-- ---- a character at a place: a stray byte gives two bytes more than it has
pub stray_there : (s : List ℕ) (p : ℕ) → p < length s → length (encode (first_char (drop p s)).code) ≡ (first_char (drop p s)).width + 2 * cond (is_stray (first_char (drop p s))) 1 0
unfolding encode octets
stray_there s p h =
    let z : 0 < length (drop p s) = omega (arith, length-drop p s) in
    let f = first_char (drop p s) in
    ⊎_elim
    (λ (t : is_stray f ≡ true). rw (first_stray (drop p s) z t))
    (λ (t : is_stray f ≡ false). rw (t, first_coded (drop p s) z t) (simp length-take (omega (arith, first_fits (drop p s) z))))
    (either (is_stray f))

-- an escape ends within the text
pub escape_fits : (quote : ℕ) (s : List ℕ) (p : ℕ) (x : Escape) → p < length s → x ≡ escape_of quote (chars (drop (p + 1) s)) → p + (x.len + 1) ≤ length s
escape_fits quote s p x h e =
    let r = drop (p + 1) s in
    rw e (omega (arith, escape_bound quote (chars r), chars_le r, length-drop (p + 1) s))

-- ---- one step at the place p
module _ (quote : ℕ) (low : quote < 0x80) (s : List ℕ) (p : ℕ) (q : Content) where
  pub step_end : Fresh q → length s ≤ p → body_end q p 0 false OPEN_QUOTE ≡ joined q (quoted_at quote s p)
  unfolding body_from
  step_end f h = rw (chars_end s p h) (joined_ends q p 0 p false OPEN_QUOTE [] f (add-zero p))

  module _ (h : p < length s) where
    pub step_quote : Fresh q → get_or s p 0 ≡ quote → body_end q (p + 1) 1 true 0 ≡ joined q (quoted_at quote s p)
    step_quote f e = rw (at_quote quote low s p h e, chars_ascii s p h (omega arith)) (joined_ends q p 1 (p + 1) true 0 _ f refl)

    module _ (no_quote : get_or s p 0 ≡ quote → ⊥) where
      pub step_lf : Fresh q → get_or s p 0 ≡ 10 → body_end q p 0 false OPEN_QUOTE ≡ joined q (quoted_at quote s p)
      step_lf f e = rw (at_lf quote low s p h no_quote e) (joined_ends q p 0 p false OPEN_QUOTE _ f (add-zero p))

      -- after a backslash
      module _ (slash : get_or s p 0 ≡ 92) (x : Escape) (is : x ≡ escape_of quote (chars (drop (p + 1) s))) where
        first_is : chars (drop p s) ≡ ascii (get_or s p 0) ∷ chars (drop (p + 1) s)
        first_is = chars_ascii s p h (omega arith)

        widths_are : widths (take x.len (chars (drop (p + 1) s))) ≡ x.len
        widths_are = rw is (escape_widths quote s (p + 1) low)

        pub step_bad : (error : ℕ) → Fresh q → x.meaning ≡ no_character error → body_end q (p + (x.len + 1)) (x.len + 1) false error ≡ joined q (quoted_at quote s p)
        step_bad error f g =
            rw (at_slash quote low s p h no_quote slash x is, g, first_is, add-one x.len)
            (joined_ends q p (suc x.len) (p + suc x.len) false error (ascii (get_or s p 0) ∷ chars (drop (p + 1) s)) f (omega (arith, widths_are)))

        pub step_escape : (code : ℕ) (byte : Bool) → x.meaning ≡ character code byte
            → joined q (quoted_at quote s p) ≡ joined (added q (escape_piece (x.len + 1) code byte)) (quoted_at quote s (p + (x.len + 1)))
        step_escape code byte g =
            rw (at_slash quote low s p h no_quote slash x is, g, first_is, ← escape_rest quote low s p x is)
            (joined_escape q p (ascii (get_or s p 0)) (chars (drop (p + 1) s)) x.len _ (strays_fit quote _ 0) refl widths_are code byte)

      module _ (no_lf : get_or s p 0 ≡ 10 → ⊥) (no_slash : get_or s p 0 ≡ 92 → ⊥) where
        pub step_plain : (c : Char) → c ≡ char_at s p
            → joined q (quoted_at quote s p) ≡ joined (added q (char_piece c)) (quoted_at quote s (p + c.width))
        step_plain c e =
            let r = chars (drop (p + c.width) s) in
            rw (at_plain quote low s p h no_quote no_lf no_slash c e, there_chars s p c h e)
            (joined_plain q p c r (body quote r) (strays_fit quote r 0) (rw (e ∙ char_at_in s p h) (stray_there s p h)))

        -- an ASCII byte is a character
        pub step_ascii : get_or s p 0 < 0x80 → joined q (quoted_at quote s p) ≡ joined (added q (plain_piece 1 (get_or s p 0))) (quoted_at quote s (p + 1))
        step_ascii l =
            rw (ne_eqb (get_or s p 0) 0xFFFD (λ e. omega arith)) at (step_plain (ascii (get_or s p 0)) (sym (char_at_ascii s p h l)))
