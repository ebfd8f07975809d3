-- The value of a body without an escape: the bytes of its characters, where each stray byte gives three.
use Prim.Native.Nat.{ℕ, zero, suc, ◌+◌, ◌*◌, ◌≤◌, ◌<◌}
use mathlib.Core.Path.{◌≡◌, refl, sym, ap, ap₂, ◌∙◌}
use mathlib.Core.Bool.{true, false, cond, not, true≢false, false≢true, and-false}
use mathlib.Core.List.{List, [], ◌∷◌, ◌++◌}
use mathlib.Core.Logic.{⊎_elim}
use native.Mathlib.Omega.{arith}
use native.Mathlib.Decide.{dec_lt}
use native.Mathlib.Nat.{zero-add, suc-add}
use lib.Dec.{eqb}
use lib.ListN.{length, take, drop, length-append, length-drop}
use lib.Seq.{length-take-le, take-nil, take-add, drop-drop}
use borrow.Author.Tests.{eqb-true, eqb-false, ne_eqb}
use Rattle.basics.specs.Same.{same}
use Rattle.basics.proofs.Choice.{cond_ind, either}
use Rattle.basics.proofs.Lists.{same_refl, same_length}
use Rattle.utf8.specs.declared.Char.{Char}
use Rattle.utf8.specs.Chars.{first_char, chars, is_stray, widths, encode, encoded}
use Rattle.utf8.proofs.First.{chars_at, chars_end}
use Rattle.utf8.proofs.Places.{place_fits}
use Rattle.utf8.proofs.Encoding.{first_coded}
use Rattle.escapes.specs.Answers.{Meaning, character, no_character}
use Rattle.escapes.specs.Escape.{escape_of}
use Rattle.quotes.specs.Body.{Body, escape, body_from, body}
use Rattle.escapes.proofs.Heads.{Heads, escape_heads}
use Rattle.quotes.proofs.Places.{stray_there}

-- how many characters are stray bytes
abbrev pub strays_in : List Char → ℕ
strays_in [] = 0
strays_in (c ∷ r) = cond (is_stray c) 1 0 + strays_in r

-- a body of characters that are written as themselves
pub record Plain (quote : ℕ) (r : List Char) (b : Body) : Type 0 where
  pub value : b.value ≡ encoded (take b.count r)
  pub strays : b.strays ≡ strays_in (take b.count r)
  -- the closing quote stands after them, and is read
  pub closed : b.closed ≡ true → (b.len ≡ suc b.count) × Heads (λ c. c ≡ quote) 1 (drop b.count r)

escape_plain : (quote : ℕ) (r : List Char) (n : ℕ) (g : Meaning) (b : Body) → (escape n g b).escaped ≡ false → Plain quote r (escape n g b)
escape_plain quote r n (no_character error) b h = record { value = refl; strays = refl; closed = λ e. absurd (false≢true e) }
escape_plain quote r n (character code byte) b h = absurd (true≢false h)

pub body_plain : (quote : ℕ) (r : List Char) → (body quote r).escaped ≡ false → Plain quote r (body quote r)
unfolding body_from
body_plain quote [] = λ h. record { value = refl; strays = refl; closed = λ e. absurd (false≢true e) }
body_plain quote (c ∷ r) =
    cond_ind (λ (b : Body). b.escaped ≡ false → Plain quote (c ∷ r) b) (eqb c.code quote) _ _
    (λ q h. record { value = refl; strays = refl; closed = λ e. (refl, (eqb-true c.code quote q, tt)) })
    (λ _. cond_ind (λ (b : Body). b.escaped ≡ false → Plain quote (c ∷ r) b) (eqb c.code 10) _ _
    (λ _ h. record { value = refl; strays = refl; closed = λ e. absurd (false≢true e) })
    (λ _. cond_ind (λ (b : Body). b.escaped ≡ false → Plain quote (c ∷ r) b) (eqb c.code 92) _ _
    (λ _ h. escape_plain quote (c ∷ r) _ (escape_of quote r).meaning _ h)
    (λ _ h.
    let i = body_plain quote r h in
    record {
      value = ap (λ l. encode c.code ++ l) i.value;
      strays = ap (λ n. cond (is_stray c) 1 0 + n) i.strays;
      closed = λ e. (ap suc (i.closed e).0, (i.closed e).1);
    })))

-- ---- the closing quote and the characters of an escape are ASCII: the stray bytes of a body are those among the characters that it reads
low_no_stray : (c : Char) → c.code < 0x80 → is_stray c ≡ false
low_no_stray c h = rw (ne_eqb c.code 0xFFFD (λ e. omega arith)) (and-false (eqb c.width 1))

low_none : (n : ℕ) (r : List Char) → Heads (λ c. c < 0x80) n r → strays_in (take n r) ≡ 0
low_none zero r h = refl
low_none (suc n) [] h = absurd h
low_none (suc n) (c ∷ r) h = rw (low_no_stray c h.0) (omega (arith, low_none n r h.1))

escape_strays : (c : Char) (r : List Char) (n : ℕ) (g : Meaning) (b : Body) → c.code < 0x80 → strays_in (take n r) ≡ 0 → strays_in (take (n + b.len) r) ≡ b.strays
    → strays_in (take (escape (suc n) g b).len (c ∷ r)) ≡ (escape (suc n) g b).strays
escape_strays c r n (no_character error) b l h k = rw (low_no_stray c l) (omega arith)
escape_strays c r n (character code byte) b l h k = rw (suc-add n b.len, low_no_stray c l) (omega arith)

module _ (quote : ℕ) (low : quote < 0x80) where
  from_strays : (r : List Char) (k : ℕ) → Heads (λ c. c < 0x80) k r → strays_in (take (k + (body_from quote k r).len) r) ≡ (body_from quote k r).strays
  unfolding body_from
  from_strays [] k h = rw (take-nil {A = Char} (k + 0))
  from_strays (c ∷ r) (suc k) h = rw (suc-add k (body_from quote k r).len, low_no_stray c h.0) (zero-add _ ∙ from_strays r k h.1)
  from_strays (c ∷ r) zero h =
      let n = (escape_of quote r).len in
      let k = escape_heads (λ c. c < 0x80) (λ c a b. omega arith) quote low r in
      let P : Body → Type 0 = λ b. strays_in (take b.len (c ∷ r)) ≡ b.strays in
      rw (zero-add (body_from quote 0 (c ∷ r)).len)
      (cond_ind P (eqb c.code quote) _ _ (λ e. low_none 1 (c ∷ r) (omega (arith, eqb-true c.code quote e), tt))
      (λ _. cond_ind P (eqb c.code 10) _ _ (λ _. refl)
      (λ _. cond_ind P (eqb c.code 92) _ _
      (λ e. escape_strays c r n (escape_of quote r).meaning (body_from quote n r) (omega (arith, eqb-true c.code 92 e)) (low_none n r k) (from_strays r n k))
      (λ _. ap (λ m. cond (is_stray c) 1 0 + m) (rw (zero-add (body quote r).len) at (from_strays r 0 tt))))))

  pub body_strays : (r : List Char) → strays_in (take (body quote r).len r) ≡ (body quote r).strays
  body_strays r = rw (zero-add (body quote r).len) at (from_strays r 0 tt)

-- ---- the first k characters at a place
-- as they are encoded they have two bytes more for each stray byte
pub encoded_length : (k : ℕ) (s : List ℕ) (p : ℕ)
    → length (encoded (take k (chars (drop p s)))) ≡ widths (take k (chars (drop p s))) + 2 * strays_in (take k (chars (drop p s)))
encoded_length zero s p = refl
encoded_length (suc k) s p =
    elim (dec_lt p (length s)) [
      | yes h ↦
          let f = first_char (drop p s) in
          rw (chars_at s p h)
          (omega (arith, length-append (encode f.code) (encoded (take k (chars (drop (p + f.width) s)))), stray_there s p h, encoded_length k s (p + f.width)))
      | no h ↦ rw (chars_end s p (omega arith))
    ]

no_stray : (c : Char) (n : ℕ) → cond (is_stray c) 1 0 + n ≡ 0 → (is_stray c ≡ false) × (n ≡ 0)
no_stray c n h =
    ⊎_elim (λ (t : is_stray c ≡ true). let g = rw t at h in absurd (omega arith)) (λ (t : is_stray c ≡ false). let g = rw t at h in (t, omega arith)) (either (is_stray c))

-- without one they are the bytes that stand there
pub encoded_shown : (k : ℕ) (s : List ℕ) (p : ℕ) → strays_in (take k (chars (drop p s))) ≡ 0
    → encoded (take k (chars (drop p s))) ≡ take (widths (take k (chars (drop p s)))) (drop p s)
encoded_shown zero s p z = refl
encoded_shown (suc k) s p z =
    elim (dec_lt p (length s)) [
      | yes h ↦
          let f = first_char (drop p s) in
          let r = chars (drop (p + f.width) s) in
          let g = no_stray f (strays_in (take k r)) (rw (chars_at s p h) at z) in
          rw (chars_at s p h)
          (ap₂ ◌++◌ (first_coded (drop p s) (omega (arith, length-drop p s)) g.0)
          (encoded_shown k s (p + f.width) g.1 ∙ ap (take (widths (take k r))) (sym (drop-drop f.width p s)))
          ∙ sym (take-add f.width (widths (take k r)) (drop p s)))
      | no h ↦ rw (chars_end s p (omega arith))
    ]

-- with one they are more
pub encoded_differs : (k : ℕ) (s : List ℕ) (p : ℕ) → p ≤ length s
    → not (same (encoded (take k (chars (drop p s)))) (take (widths (take k (chars (drop p s)))) (drop p s))) ≡ not (eqb (strays_in (take k (chars (drop p s)))) 0)
encoded_differs k s p h =
    let cs = take k (chars (drop p s)) in
    let bytes = take (widths cs) (drop p s) in
    ⊎_elim
    (λ (e : eqb (strays_in cs) 0 ≡ true).
    rw e (ap not (ap (same (encoded cs)) (sym (encoded_shown k s p (eqb-true (strays_in cs) 0 e))) ∙ same_refl (encoded cs))))
    (λ (e : eqb (strays_in cs) 0 ≡ false).
    let size = length-take-le (widths cs) (drop p s) (omega (arith, place_fits k s p h, length-drop p s)) in
    rw e (ap not (same_length (encoded cs) bytes (λ z. eqb-false (strays_in cs) 0 e (omega (arith, encoded_length k s p, size))))))
    (either (eqb (strays_in cs) 0))

-- ---- the value at a place, where there is no escape
module _ (quote : ℕ) (s : List ℕ) (p : ℕ) (no-escape : (body quote (chars (drop p s))).escaped ≡ false) where
  -- without a stray byte it is the bytes of the text
  pub value_shown : (body quote (chars (drop p s))).strays ≡ 0
      → (body quote (chars (drop p s))).value ≡ take (widths (take (body quote (chars (drop p s))).count (chars (drop p s)))) (drop p s)
  value_shown z =
      let r = chars (drop p s) in
      let i = body_plain quote r no-escape in
      i.value ∙ encoded_shown (body quote r).count s p (sym i.strays ∙ z)
