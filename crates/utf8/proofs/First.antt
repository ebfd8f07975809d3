-- Laws of the character at a place: its bytes, its width, ASCII, and one step of the character list.
use Prim.Native.Nat.{ℕ, zero, suc, pred, ◌+◌, ◌*◌, ◌%◌, ◌≤◌, ◌<◌}
use mathlib.Core.Path.{◌≡◌, refl, sym, ap, ◌∙◌}
use mathlib.Core.List.{List, [], ◌∷◌}
use native.Mathlib.Omega.{arith}
use native.Mathlib.Decide.{dec_lt}
use native.Mathlib.Nat.{add-zero, not-suc-le-zero}
use lib.Dec.{lit≤}
use lib.ListN.{length, get_or, drop, length-drop, drop_of_length-le}
use lib.Seq.{get_or-drop, drop-drop}
use borrow.Author.Tests.{lt-ltb}
use Rattle.basics.proofs.Lists.{reach}
use Rattle.utf8.specs.declared.Char.{Char}
use Rattle.utf8.specs.Chars.{char_of, first_char, char_at, chars_from, chars}
use Rattle.utf8.specs.Steps.{decoded}
use Rattle.utf8.proofs.Bytes.{View, none, one, two, three, four, view, sequence_one, low_least, high_most, low_e0, low_f0}
use Rattle.utf8.proofs.Rows.{table_says}

-- ---- the first character by the first four bytes
pub first_is : (s : List ℕ) → 0 < length s → first_char s ≡ decoded (get_or s 0 0) (get_or s 1 0) (get_or s 2 0) (get_or s 3 0)
unfolding first_char decoded
first_is s z = ap (λ n. char_of n (get_or s 0 0) (get_or s 1 0) (get_or s 2 0) (get_or s 3 0)) (table_says s z)

pub char_at_in : (s : List ℕ) (p : ℕ) → p < length s → char_at s p ≡ first_char (drop p s)
unfolding char_at
char_at_in s p h = simp (lt-ltb p (length s) h)

pub char_at_bytes : (s : List ℕ) (p : ℕ) → p < length s → char_at s p ≡ decoded (get_or s p 0) (get_or s (p + 1) 0) (get_or s (p + 2) 0) (get_or s (p + 3) 0)
char_at_bytes s p h = char_at_in s p h ∙ first_is (drop p s) (omega (arith, length-drop p s)) ∙ simp (get_or-drop, add-zero)

-- ---- widths
width_least : {a b c d n : ℕ} → View a b c d n → 1 ≤ (char_of n a b c d).width
width_least none = lit≤ tt
width_least (one h) = lit≤ tt
width_least (two h k l m) = lit≤ tt
width_least (three h k l m n o) = lit≤ tt
width_least (four h k l m n o p q) = lit≤ tt

width_most : {a b c d n : ℕ} → View a b c d n → (char_of n a b c d).width ≤ 4
width_most none = lit≤ tt
width_most (one h) = lit≤ tt
width_most (two h k l m) = lit≤ tt
width_most (three h k l m n o) = lit≤ tt
width_most (four h k l m n o p q) = lit≤ tt

-- within a text of L bytes, since what is not 0 is no byte past the end
width_fits : {a b c d n : ℕ} (L : ℕ) → View a b c d n → 0 < L → (0 < b → 1 < L) → (0 < c → 2 < L) → (0 < d → 3 < L) → (char_of n a b c d).width ≤ L
width_fits L none z f g h = z
width_fits L (one k) z f g h = z
width_fits L (two k l m n) z f g h = f (omega arith)
width_fits {c = c} L (three k l m n o p) z f g h = g (omega arith)
width_fits L (four k l m n o p q r) z f g h = h (omega arith)

pub first_least : (s : List ℕ) → 1 ≤ (first_char s).width
unfolding first_char decoded
first_least [] = lit≤ tt
first_least (b ∷ s) = rw (first_is (b ∷ s) (omega arith)) (width_least (view b (get_or s 0 0) (get_or s 1 0) (get_or s 2 0)))

pub first_most : (s : List ℕ) → (first_char s).width ≤ 4
unfolding first_char decoded
first_most [] = lit≤ tt
first_most (b ∷ s) = rw (first_is (b ∷ s) (omega arith)) (width_most (view b (get_or s 0 0) (get_or s 1 0) (get_or s 2 0)))

pub first_fits : (s : List ℕ) → 0 < length s → (first_char s).width ≤ length s
unfolding decoded
first_fits s h = rw (first_is s h) (width_fits (length s) (view (get_or s 0 0) (get_or s 1 0) (get_or s 2 0) (get_or s 3 0)) h (reach s 1) (reach s 2) (reach s 3))

pub first_fits_at : (s : List ℕ) (p : ℕ) → p < length s → p + (first_char (drop p s)).width ≤ length s
first_fits_at s p h =
    let e = length-drop p s in
    let f = first_fits (drop p s) (omega (arith, e)) in
    omega (arith, e, f)

-- ---- one step of the character list
chars_skip : (k : ℕ) (s : List ℕ) → chars_from k s ≡ chars (drop k s)
unfolding chars_from
chars_skip zero s = refl
chars_skip (suc k) [] = refl
chars_skip (suc k) (b ∷ s) = chars_skip k s

pub drop_pred : (w b : ℕ) (s : List ℕ) → 1 ≤ w → drop w (b ∷ s) ≡ drop (pred w) s
drop_pred zero b s h = absurd (not-suc-le-zero h)
drop_pred (suc w) b s h = refl

chars_step : (s : List ℕ) → 0 < length s → chars s ≡ first_char s ∷ chars (drop (first_char s).width s)
unfolding chars_from
chars_step [] h = absurd (not-suc-le-zero h)
chars_step (b ∷ s) h =
    ap (λ l. first_char (b ∷ s) ∷ l) (chars_skip (pred (first_char (b ∷ s)).width) s
    ∙ ap chars (sym (drop_pred (first_char (b ∷ s)).width b s (first_least (b ∷ s)))))

pub chars_at : (s : List ℕ) (p : ℕ) → p < length s → chars (drop p s) ≡ first_char (drop p s) ∷ chars (drop (p + (first_char (drop p s)).width) s)
chars_at s p h =
    chars_step (drop p s) (omega (arith, length-drop p s))
    ∙ ap (λ l. first_char (drop p s) ∷ chars l) (drop-drop (first_char (drop p s)).width p s)

pub chars_end : (s : List ℕ) (p : ℕ) → length s ≤ p → chars (drop p s) ≡ []
unfolding chars_from
chars_end s p h = ap chars (drop_of_length-le s h)

-- what a reader at the place p goes by, once it has the character c there
module _ (s : List ℕ) (p : ℕ) (c : Char) (h : p < length s) (e : c ≡ char_at s p) where
  there : c ≡ first_char (drop p s)
  there = e ∙ char_at_in s p h

  pub there_least : 1 ≤ c.width
  there_least = rw there (first_least (drop p s))

  pub there_fits : p + c.width ≤ length s
  there_fits = rw there (first_fits_at s p h)

  pub there_chars : chars (drop p s) ≡ c ∷ chars (drop (p + c.width) s)
  there_chars = rw there (chars_at s p h)

-- ---- an ASCII byte is a character of its own
abbrev pub ascii : ℕ → Char
ascii b = record { code = b; width = 1 }

first_ascii : (s : List ℕ) → 0 < length s → get_or s 0 0 < 0x80 → first_char s ≡ ascii (get_or s 0 0)
unfolding decoded
first_ascii s z h = rw (first_is s z, sequence_one (get_or s 0 0) (get_or s 1 0) (get_or s 2 0) (get_or s 3 0) h)

pub ascii_there : (s : List ℕ) (p : ℕ) → p < length s → get_or s p 0 < 0x80 → first_char (drop p s) ≡ ascii (get_or s p 0)
ascii_there s p h l =
    let b : get_or (drop p s) 0 0 ≡ get_or s p 0 = simp (get_or-drop, add-zero) in
    rw b at (first_ascii (drop p s) (omega (arith, length-drop p s)) (rw b l))

pub char_at_ascii : (s : List ℕ) (p : ℕ) → p < length s → get_or s p 0 < 0x80 → char_at s p ≡ ascii (get_or s p 0)
char_at_ascii s p h l = char_at_in s p h ∙ ascii_there s p h l

pub chars_ascii : (s : List ℕ) (p : ℕ) → p < length s → get_or s p 0 < 0x80 → chars (drop p s) ≡ ascii (get_or s p 0) ∷ chars (drop (p + 1) s)
chars_ascii s p h l = rw (ascii_there s p h l) at (chars_at s p h)

-- ---- and any other byte is part of a character above 127
sum_high : (x y z w : ℕ) → 1 ≤ x + y → 0x80 ≤ x * 262144 + y * 4096 + z * 64 + w
sum_high x y z w h = omega arith

code_high : {a b c d n : ℕ} → View a b c d n → 0x80 ≤ a → 0x80 ≤ (char_of n a b c d).code
code_high none h = lit≤ tt
code_high (one l) h = absurd (omega arith)
code_high {a} {b} (two l m n o) h = omega arith
code_high {a} {b} {c} (three l m n o p q) h =
    let u = low_e0 a l in
    let v = low_least a in
    let w = high_most a in
    omega arith
code_high {a} {b} {c} {d} (four l m n o p q r s) h =
    let u = low_f0 a l in
    let v = low_least a in
    let w = high_most a in
    sum_high (a % 8) (b % 64) (c % 64) (d % 64) (omega arith)

pub first_high : (s : List ℕ) → 0 < length s → 0x80 ≤ get_or s 0 0 → 0x80 ≤ (first_char s).code
unfolding decoded
first_high s z h = rw (first_is s z) (code_high (view (get_or s 0 0) (get_or s 1 0) (get_or s 2 0) (get_or s 3 0)) h)

pub there_high : (s : List ℕ) (p : ℕ) → p < length s → 0x80 ≤ get_or s p 0 → 0x80 ≤ (first_char (drop p s)).code
there_high s p h l =
    let b : get_or (drop p s) 0 0 ≡ get_or s p 0 = simp (get_or-drop, add-zero) in
    first_high (drop p s) (omega (arith, length-drop p s)) (rw b l)

pub low_byte : (s : List ℕ) (p : ℕ) → p < length s → (first_char (drop p s)).code < 0x80 → get_or s p 0 < 0x80
low_byte s p h l = elim (dec_lt (get_or s p 0) 0x80) [ yes k ↦ k | no k ↦ absurd (omega (arith, there_high s p h (omega arith))) ]

-- ---- no more characters than bytes
chars_le_from : (k : ℕ) (s : List ℕ) → length (chars_from k s) ≤ length s
unfolding chars_from
chars_le_from zero [] = lit≤ tt
chars_le_from (suc k) [] = lit≤ tt
chars_le_from zero (b ∷ s) = omega (arith, chars_le_from (pred (first_char (b ∷ s)).width) s)
chars_le_from (suc k) (b ∷ s) = omega (arith, chars_le_from k s)

pub chars_le : (s : List ℕ) → length (chars s) ≤ length s
chars_le s = chars_le_from 0 s
