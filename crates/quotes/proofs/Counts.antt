-- The value of a closed body is the text's own bytes only where there is no escape and no stray byte: by counting the bytes above 127, and all bytes.
use Prim.Native.Nat.{ℕ, zero, suc, ◌+◌, ◌*◌, ◌-◌, ◌≤◌, ◌<◌, min}
use mathlib.Core.Path.{◌≡◌, refl, sym, ap, ◌∙◌, subst}
use mathlib.Core.Bool.{Bool, true, false, cond, not, ◌||◌, false≢true}
use mathlib.Core.List.{List, [], ◌∷◌, ◌++◌}
use mathlib.Core.Logic.{⊎_elim}
use native.Mathlib.Omega.{arith}
use native.Mathlib.Decide.{dec_lt}
use native.Mathlib.Numerals.{add-one}
use native.Mathlib.Nat.{suc-add}
use lib.Dec.{eqb, ltb, lit≤}
use lib.ListN.{length, get_or, take, drop, length-append, length-drop, length-take}
use lib.Seq.{take-add, drop-drop}
use borrow.Author.Tests.{lt-ltb, eq-eqb, eqb-true}
use Rattle.basics.specs.Same.{same}
use Rattle.basics.proofs.Choice.{cond_ind, either}
use Rattle.basics.proofs.Lists.{drop_next, same_refl, same_true}
use Rattle.utf8.specs.declared.Char.{Char}
use Rattle.utf8.specs.Chars.{octets, encode, first_char, chars, is_stray, widths}
use Rattle.utf8.proofs.First.{ascii_there, chars_at, chars_end, chars_ascii, first_least, low_byte}
use Rattle.utf8.proofs.Places.{place_chars, place_fits, ascii_widths}
use Rattle.utf8.proofs.Append.{first_stray}
use Rattle.utf8.proofs.Encoding.{first_coded}
use Rattle.escapes.specs.Answers.{Meaning, character, no_character, bytes_of}
use Rattle.escapes.specs.Escape.{escape_of}
use Rattle.quotes.specs.Body.{Body, ends, plain, escape, body_from, body}
use Rattle.escapes.proofs.Heads.{Heads, heads_bound, heads_at, escape_heads, escape_widths, escape_rest}
use Rattle.quotes.proofs.Bodies.{body_skip, widths_split}
use Rattle.quotes.proofs.Places.{stray_there}
use Rattle.quotes.proofs.Shown.{body_plain, value_shown}
use Rattle.escapes.proofs.Shorter.{escape_shorter}

-- how many bytes are above 127
abbrev highs : List ℕ → ℕ
highs [] = 0
highs (b ∷ l) = cond (ltb b 0x80) 0 1 + highs l

highs_append : (a b : List ℕ) → highs (a ++ b) ≡ highs a + highs b
highs_append [] b = omega arith
highs_append (x ∷ a) b = omega (arith, highs_append a b)

highs_le : (l : List ℕ) → highs l ≤ length l
highs_le [] = lit≤ tt
highs_le (x ∷ l) = cond_ind (λ (n : ℕ). n + highs l ≤ suc (length l)) (ltb x 0x80) 0 1 (λ _. omega (arith, highs_le l)) (λ _. omega (arith, highs_le l))

-- of a longer part there are no fewer
highs_more : (m n : ℕ) (l : List ℕ) → highs (take m l) ≤ highs (take (m + n) l)
highs_more m n l = rw (take-add m n l, highs_append (take m l) (take n (drop m l))) (omega arith)

highs_less : (w : ℕ) (l : List ℕ) → highs (take (w - 1) l) ≤ highs (take w l)
highs_less w l =
    elim (dec_lt 0 w) [
      | yes h ↦ let e : w - 1 + 1 ≡ w = omega arith in rw e at (highs_more (w - 1) 1 l)
      | no h ↦ let e : w ≡ 0 = omega arith in rw e (omega arith)
    ]

unescaped : (b : Bool) → cond {A = ℕ} b 1 0 ≡ 0 → b ≡ false
unescaped true h = absurd (omega arith)
unescaped false h = refl

-- ---- ASCII characters have none
low_highs : (n : ℕ) (s : List ℕ) (p : ℕ) → Heads (λ c. c < 0x80) n (chars (drop p s)) → highs (take n (drop p s)) ≡ 0
low_highs zero s p g = refl
low_highs (suc n) s p g =
    elim (dec_lt p (length s)) [
      | yes h ↦
          let b = low_byte s p h (rw (chars_at s p h) at g).0 in
          let k = (rw (chars_ascii s p h b) at g).1 in
          rw (drop_next s p 0 h, lt-ltb (get_or s p 0) 0x80 b) (omega (arith, low_highs n s (p + 1) k))
      | no h ↦ absurd (rw (chars_end s p (omega arith)) at g)
    ]

one_most : (l : List ℕ) → length (take 1 l) ≤ 1
one_most [] = lit≤ tt
one_most (x ∷ l) = lit≤ tt

-- a stray byte gives two more than it is
char_highs : (s : List ℕ) (p : ℕ) → p < length s
    → highs (take (first_char (drop p s)).width (drop p s)) + 2 * cond (is_stray (first_char (drop p s))) 1 0 ≤ highs (encode (first_char (drop p s)).code)
unfolding encode octets
char_highs s p h =
    let z : 0 < length (drop p s) = omega (arith, length-drop p s) in
    let f = first_char (drop p s) in
    ⊎_elim
    (λ (t : is_stray f ≡ true). rw (first_stray (drop p s) z t) (omega (arith, highs_le (take 1 (drop p s)), one_most (drop p s))))
    (λ (t : is_stray f ≡ false). rw (t, first_coded (drop p s) z t) (omega arith))
    (either (is_stray f))

-- ---- the counts of a closed body, its closing quote included
record Counted (s : List ℕ) (p : ℕ) (r : List Char) (b : Body) : Type 0 where
  bytes : length b.value + cond b.escaped 1 0 + 1 ≤ widths (take b.len r) + 2 * b.strays
  high : highs (take (widths (take b.len r)) (drop p s)) + 2 * b.strays ≤ highs b.value

count_plain : (s : List ℕ) (p : ℕ) (r : List Char) (b : Body) → p < length s → Counted s (p + (first_char (drop p s)).width) r b
    → Counted s p (first_char (drop p s) ∷ r) (plain (first_char (drop p s)) b)
count_plain s p r b h i =
    let c = first_char (drop p s) in
    let w = widths (take b.len r) in
    let e = rw (drop-drop c.width p s) at (take-add c.width w (drop p s)) in
    record {
      bytes = omega (arith, i.bytes, length-append (encode c.code) b.value, stray_there s p h);
      high = rw (e, highs_append (take c.width (drop p s)) (take w (drop (p + c.width) s)), highs_append (encode c.code) b.value)
          (omega (arith, i.high, char_highs s p h));
    }

count_escape : (s : List ℕ) (p : ℕ) (c : Char) (r : List Char) (n : ℕ) (code : ℕ) (byte : Bool) (b : Body) → c.width ≡ 1 → widths (take n r) ≡ n
    → highs (take (suc n) (drop p s)) ≡ 0 → length (bytes_of (character code byte)) ≤ n → Counted s (p + suc n) (drop n r) b → Counted s p (c ∷ r) (escape (suc n) (character code byte) b)
count_escape s p c r n code byte b one ws low short i =
    let v = bytes_of (character code byte) in
    let w = widths (take b.len (drop n r)) in
    let e = rw (drop-drop (suc n) p s) at (take-add (suc n) w (drop p s)) in
    let d : widths (take (suc n + b.len) (c ∷ r)) ≡ suc n + w = rw (suc-add n b.len) (omega (arith, widths_split n b.len r)) in
    record {
      bytes = rw d (omega (arith, i.bytes, length-append v b.value));
      high = rw (d, e, highs_append (take (suc n) (drop p s)) (take w (drop (p + suc n) s)), highs_append v b.value) (omega (arith, i.high));
    }

-- a character below 128 is one byte
one_byte : (s : List ℕ) (p : ℕ) → p < length s → (first_char (drop p s)).code < 0x80 → (first_char (drop p s)).width ≡ 1
one_byte s p h l = ap (λ (c : Char). c.width) (ascii_there s p h (low_byte s p h l))

module _ (quote : ℕ) (low : quote < 0x80) (s : List ℕ) where
  count_close : (p : ℕ) (r : List Char) → p < length s → (first_char (drop p s)).code < 0x80 → Counted s p (first_char (drop p s) ∷ r) (ends 1 true 0)
  count_close p r h l =
      let o = one_byte s p h l in
      let g : Heads (λ c. c < 0x80) 1 (chars (drop p s)) = rw (chars_at s p h) (l, tt) in
      record { bytes = omega arith; high = rw (o) (omega (arith, low_highs 1 s p g)) }

  -- an escape that gives something, and what follows it
  count_slash : (p : ℕ) (g : Meaning) (b : Body) → p < length s → (first_char (drop p s)).code ≡ 92
      → (escape_of quote (chars (drop (p + 1) s))).meaning ≡ g
      → (b.closed ≡ true → Counted s (p + suc (escape_of quote (chars (drop (p + 1) s))).len) (drop (escape_of quote (chars (drop (p + 1) s))).len (chars (drop (p + 1) s))) b)
      → (escape (suc (escape_of quote (chars (drop (p + 1) s))).len) g b).closed ≡ true
      → Counted s p (first_char (drop p s) ∷ chars (drop (p + 1) s)) (escape (suc (escape_of quote (chars (drop (p + 1) s))).len) g b)
  count_slash p (no_character error) b h e is i t = absurd (false≢true t)
  count_slash p (character code byte) b h e is i t =
      let r = chars (drop (p + 1) s) in
      let n = (escape_of quote r).len in
      let l : (first_char (drop p s)).code < 0x80 = omega arith in
      let k = escape_heads (λ c. c < 0x80) (λ c a b. omega arith) quote low r in
      let g : Heads (λ c. c < 0x80) (suc n) (chars (drop p s)) = rw (chars_ascii s p h (low_byte s p h l)) (low_byte s p h l, k) in
      let m : length (bytes_of (character code byte)) ≤ n = subst (λ (y : Meaning). length (bytes_of y) ≤ n) is (escape_shorter quote low r) in
      count_escape s p (first_char (drop p s)) r n code byte b (one_byte s p h l) (escape_widths quote s (p + 1) low) (low_highs (suc n) s p g) m (i t)

  rest_is : (p : ℕ) → drop (escape_of quote (chars (drop (p + 1) s))).len (chars (drop (p + 1) s)) ≡ chars (drop (p + suc (escape_of quote (chars (drop (p + 1) s))).len) s)
  rest_is p =
      let x = escape_of quote (chars (drop (p + 1) s)) in
      escape_rest quote low s p x refl ∙ ap (λ n. chars (drop (p + n) s)) (add-one x.len)

  abbrev At : ℕ → Type 0
  At p = (body quote (chars (drop p s))).closed ≡ true → Counted s p (chars (drop p s)) (body quote (chars (drop p s)))

  count_first : (p : ℕ) → p < length s → ((q : ℕ) → p < q → At q)
      → (body quote (first_char (drop p s) ∷ chars (drop (p + (first_char (drop p s)).width) s))).closed ≡ true
      → Counted s p (first_char (drop p s) ∷ chars (drop (p + (first_char (drop p s)).width) s)) (body quote (first_char (drop p s) ∷ chars (drop (p + (first_char (drop p s)).width) s)))
  unfolding body_from
  count_first p h ih =
      let c = first_char (drop p s) in
      let r = chars (drop (p + c.width) s) in
      cond_ind (λ (b : Body). b.closed ≡ true → Counted s p (c ∷ r) b) (eqb c.code quote) _ _
      (λ e _. count_close p r h (omega (arith, eqb-true c.code quote e)))
      (λ _. cond_ind (λ (b : Body). b.closed ≡ true → Counted s p (c ∷ r) b) (eqb c.code 10) _ _ (λ _ t. absurd (false≢true t))
      (λ _. cond_ind (λ (b : Body). b.closed ≡ true → Counted s p (c ∷ r) b) (eqb c.code 92) _ _
      (λ e.
      let f = eqb-true c.code 92 e in
      let l : c.code < 0x80 = omega arith in
      let u = chars (drop (p + 1) s) in
      let n = (escape_of quote u).len in
      let o : p + c.width ≡ p + 1 = omega (arith, one_byte s p h l) in
      rw o
      (count_slash p (escape_of quote u).meaning (body_from quote n u) h f refl
      (rw (body_skip quote n u, rest_is p) (ih (p + suc n) (omega arith)))))
      (λ _ t. count_plain s p r (body quote r) h (ih (p + c.width) (omega (arith, first_least (drop p s))) t))))

  -- by the number of bytes that are left
  counted : (n p : ℕ) → length s ≤ p + n → At p
  unfolding body_from
  counted zero p m t = absurd (false≢true (rw (chars_end s p (omega arith)) at t))
  counted (suc n) p m t =
      elim (dec_lt p (length s)) [
        | yes h ↦ rw (chars_at s p h) (count_first p h (λ q l. counted n q (omega arith)) (rw (chars_at s p h) at t))
        | no h ↦ absurd (false≢true (rw (chars_end s p (omega arith)) at t))
      ]

bytes_left : (e v w st L : ℕ) → v + e + 1 ≤ w + 2 * st → st ≡ 0 → v ≡ min (w - 1) L → w ≤ L → e ≡ 0
bytes_left e v w st L a z n f = omega arith

-- ---- a closed body's value is the bytes up to the closing quote just where it has no escape and no stray byte
module _ (quote : ℕ) (low : quote < 0x80) (s : List ℕ) (p : ℕ) (closed : (body quote (chars (drop p s))).closed ≡ true) where
  within : p ≤ length s
  unfolding body_from
  within = elim (dec_lt (length s) p) [ yes h ↦ absurd (false≢true (rw (chars_end s p (omega arith)) at closed)) | no h ↦ omega arith ]

  pub shown_only : (body quote (chars (drop p s))).value ≡ take (widths (take (body quote (chars (drop p s))).len (chars (drop p s))) - 1) (drop p s)
      → ((body quote (chars (drop p s))).escaped ≡ false) × ((body quote (chars (drop p s))).strays ≡ 0)
  shown_only e =
      let b = body quote (chars (drop p s)) in
      let w = widths (take b.len (chars (drop p s))) in
      let k = counted quote low s (length s) p (omega arith) closed in
      let fit = place_fits b.len s p within in
      let m = highs_less w (drop p s) in
      let v = ap highs e in
      let z : b.strays ≡ 0 = omega (arith, k.high) in
      let n = ap length e ∙ length-take (w - 1) (drop p s) in
      (unescaped b.escaped (bytes_left (cond b.escaped 1 0) (length b.value) w b.strays (length (drop p s)) k.bytes z n (omega (arith, length-drop p s))), z)

  -- the closing quote is one byte
  closing : (body quote (chars (drop p s))).escaped ≡ false
      → widths (take (body quote (chars (drop p s))).len (chars (drop p s))) ≡ widths (take (body quote (chars (drop p s))).count (chars (drop p s))) + 1
  closing h =
      let r = chars (drop p s) in
      let n = (body quote r).count in
      let q = p + widths (take n r) in
      let g = (body_plain quote r h).closed closed in
      let k : Heads (λ c. c ≡ quote) 1 (chars (drop q s)) = subst (Heads (λ c. c ≡ quote) 1) (sym (place_chars n s p)) g.1 in
      let o = ascii_widths 1 s q (heads_bound (λ c. c ≡ quote) 1 (chars (drop q s)) k) (λ i l. omega (arith, heads_at (λ c. c ≡ quote) 1 (chars (drop q s)) k i l)) in
      rw (g.0, ← add-one n, widths_split n 1 r, ← place_chars n s p, o)

  pub shown_so : (body quote (chars (drop p s))).escaped ≡ false → (body quote (chars (drop p s))).strays ≡ 0
      → (body quote (chars (drop p s))).value ≡ take (widths (take (body quote (chars (drop p s))).len (chars (drop p s))) - 1) (drop p s)
  shown_so h z =
      let r = chars (drop p s) in
      let e : widths (take (body quote r).len r) - 1 ≡ widths (take (body quote r).count r) = omega (arith, closing h) in
      value_shown quote s p h z ∙ ap (λ n. take n (drop p s)) (sym e)

  -- so the flag and the count tell whether they differ
  differs_by : (t x z : Bool)
      → same (body quote (chars (drop p s))).value (take (widths (take (body quote (chars (drop p s))).len (chars (drop p s))) - 1) (drop p s)) ≡ t
      → (body quote (chars (drop p s))).escaped ≡ x → eqb (body quote (chars (drop p s))).strays 0 ≡ z → not t ≡ x || not z
  differs_by true x z e f g =
      let b = body quote (chars (drop p s)) in
      let k = shown_only (same_true b.value (take (widths (take b.len (chars (drop p s))) - 1) (drop p s)) e) in
      rw (sym f ∙ k.0, sym g ∙ eq-eqb b.strays 0 k.1)
  differs_by false true z e f g = refl
  differs_by false false true e f g =
      let b = body quote (chars (drop p s)) in
      absurd (false≢true (sym e ∙ ap (same b.value) (sym (shown_so f (eqb-true b.strays 0 g))) ∙ same_refl b.value))
  differs_by false false false e f g = refl

  pub value_differs_lem : not (same (body quote (chars (drop p s))).value (take (widths (take (body quote (chars (drop p s))).len (chars (drop p s))) - 1) (drop p s)))
      ≡ (body quote (chars (drop p s))).escaped || not (eqb (body quote (chars (drop p s))).strays 0)
  value_differs_lem =
      let b = body quote (chars (drop p s)) in
      differs_by (same b.value (take (widths (take b.len (chars (drop p s))) - 1) (drop p s))) b.escaped (eqb b.strays 0) refl refl refl
