-- Laws of a reader's place: the byte at which a character stands, tests for ASCII characters made on the byte, and the place so many characters on.
use Prim.Native.Nat.{ℕ, zero, suc, ◌+◌, ◌≤◌, ◌<◌}
use mathlib.Core.Path.{◌≡◌, refl, sym, ap, ◌∙◌}
use mathlib.Core.Bool.{Bool, true, false, true≢false}
use mathlib.Core.List.{List}
use native.Mathlib.Omega.{arith}
use native.Mathlib.Decide.{dec_lt}
use native.Mathlib.Nat.{add-zero, add_assoc}
use lib.Dec.{eqb}
use lib.ListN.{length, get_or, take, drop, get_or-eq_default}
use borrow.Author.Tests.{ne_eqb}
use Rattle.utf8.specs.Chars.{ended, first_char, chars, peek, widths}
use Rattle.utf8.proofs.First.{chars_at, chars_end, chars_ascii, there_high, low_byte, ascii_there, first_fits_at}

-- ---- a test that fails above 127: what passes it is ASCII, and it may be made on the byte
pub ascii_only : (f : ℕ → Bool) → ((c : ℕ) → 0x80 ≤ c → f c ≡ false) → (c : ℕ) → f c ≡ true → c < 0x80
ascii_only f high c e = elim (dec_lt c 0x80) [ yes l ↦ l | no l ↦ absurd (true≢false (sym e ∙ high c (omega arith))) ]

module _ {A : Type 0} {high_value : A} (s : List ℕ) (p : ℕ) (f : ℕ → A) (high : (c : ℕ) → 0x80 ≤ c → f c ≡ high_value) where
  pub test_there : p < length s → f (first_char (drop p s)).code ≡ f (get_or s p 0)
  test_there h =
      elim (dec_lt (get_or s p 0) 0x80) [
        | yes k ↦ ap (λ c. f c.code) (ascii_there s p h k)
        | no k ↦ high _ (there_high s p h (omega arith)) ∙ sym (high _ (omega arith))
      ]

  -- at the end both are tests of 0
  pub test_next : f (peek (chars (drop p s))) ≡ f (get_or s p 0)
  test_next =
      elim (dec_lt p (length s)) [
        | yes h ↦ rw (chars_at s p h) (test_there h)
        | no h ↦ let l : length s ≤ p = omega arith in rw (chars_end s p l, get_or-eq_default s 0 l)
      ]

not_high : (x : ℕ) → x < 0x80 → (c : ℕ) → 0x80 ≤ c → eqb c x ≡ false
not_high x l c h = ne_eqb c x (λ e. omega arith)

pub code_there : (s : List ℕ) (p x : ℕ) → p < length s → x < 0x80 → eqb (first_char (drop p s)).code x ≡ eqb (get_or s p 0) x
code_there s p x h l = test_there s p (λ c. eqb c x) (not_high x l) h

pub code_next : (s : List ℕ) (p x : ℕ) → x < 0x80 → eqb (peek (chars (drop p s))) x ≡ eqb (get_or s p 0) x
code_next s p x l = test_next s p (λ c. eqb c x) (not_high x l)

-- ---- k characters on from a place
pub place_chars : (k : ℕ) (s : List ℕ) (p : ℕ) → chars (drop (p + widths (take k (chars (drop p s)))) s) ≡ drop k (chars (drop p s))
place_chars zero s p = rw add-zero
place_chars (suc k) s p =
    elim (dec_lt p (length s)) [
      | yes h ↦ rw (chars_at s p h, ← add_assoc p (first_char (drop p s)).width _) (place_chars k s (p + (first_char (drop p s)).width))
      | no h ↦ rw (chars_end s p (omega arith), add-zero) (chars_end s p (omega arith))
    ]

pub place_fits : (k : ℕ) (s : List ℕ) (p : ℕ) → p ≤ length s → p + widths (take k (chars (drop p s))) ≤ length s
place_fits zero s p h = omega arith
place_fits (suc k) s p h =
    elim (dec_lt p (length s)) [
      | yes l ↦ rw (chars_at s p l, ← add_assoc p (first_char (drop p s)).width _) (place_fits k s (p + (first_char (drop p s)).width) (first_fits_at s p l))
      | no l ↦ rw (chars_end s p (omega arith)) (omega arith)
    ]

ascii_step : (k : ℕ) (s : List ℕ) (p : ℕ) → p < length s → suc k ≤ length (chars (drop p s))
    → ((i : ℕ) → i < suc k → (get_or (chars (drop p s)) i ended).code < 0x80)
    → (k ≤ length (chars (drop (p + 1) s)) → ((i : ℕ) → i < k → (get_or (chars (drop (p + 1) s)) i ended).code < 0x80) → widths (take k (chars (drop (p + 1) s))) ≡ k)
    → widths (take (suc k) (chars (drop p s))) ≡ suc k
ascii_step k s p l h f more =
    let c = (first_char (drop p s)).code in
    let low : c < 0x80 = rw (chars_at s p l) at (f 0 (omega arith)) in
    let b = low_byte s p l low in
    let e = chars_ascii s p l b in
    rw e (omega (arith, more (omega (arith, ap length e)) (λ i g. rw e at (f (suc i) (omega arith)))))

-- k characters that are all ASCII take k bytes
pub ascii_widths : (k : ℕ) (s : List ℕ) (p : ℕ) → k ≤ length (chars (drop p s))
    → ((i : ℕ) → i < k → (get_or (chars (drop p s)) i ended).code < 0x80) → widths (take k (chars (drop p s))) ≡ k
ascii_widths zero s p h f = refl
ascii_widths (suc k) s p h f =
    elim (dec_lt p (length s)) [
      | yes l ↦ ascii_step k s p l h f (ascii_widths k s (p + 1))
      | no l ↦ absurd (omega (arith, ap length (chars_end s p (omega arith))))
    ]

pub ascii_place : (k : ℕ) (s : List ℕ) (p : ℕ) → k ≤ length (chars (drop p s))
    → ((i : ℕ) → i < k → (get_or (chars (drop p s)) i ended).code < 0x80) → drop k (chars (drop p s)) ≡ chars (drop (p + k) s)
ascii_place k s p h f = sym (rw (ascii_widths k s p h f) at (place_chars k s p))
