-- Tokens of ASCII characters, no line feed among them: they take a byte each, and their text is the bytes read.
use Prim.Native.Nat.{ℕ, zero, suc, ◌+◌, ◌≤◌, ◌<◌}
use mathlib.Core.Path.{◌≡◌, refl, ap}
use mathlib.Core.List.{List, [], ◌∷◌}
use mathlib.Core.Logic.{◌≢◌}
use native.Mathlib.Omega.{arith}
use native.Mathlib.Decide.{dec_lt}
use native.Mathlib.Nat.{not-suc-le-zero}
use lib.ListN.{length, get_or, take, drop}
use borrow.Author.Tests.{ne_eqb}
use Rattle.basics.proofs.Lists.{drop_next}
use Rattle.utf8.specs.declared.Char.{Char}
use Rattle.utf8.specs.Chars.{ended, chars, widths, is_stray, encoded}
use Rattle.utf8.proofs.First.{chars_at, chars_end, chars_ascii, low_byte}
use Rattle.utf8.proofs.Encoding.{encode_ascii}
use Rattle.utf8.specs.Count.{is_lf, count}

-- the first n characters are ASCII, and none is a line feed
abbrev pub Ascii : ℕ → List Char → Type 0
Ascii n r = (n ≤ length r) × ((i : ℕ) → i < n → ((get_or r i ended).code < 0x80) × ((get_or r i ended).code ≢ 10))

pub ascii_none : (r : List Char) → Ascii 0 r
ascii_none r = (omega arith, λ i h. absurd (not-suc-le-zero h))

-- what follows for n characters at a place
pub record AsciiFacts (n : ℕ) (s : List ℕ) (p : ℕ) : Type 0 where
  pub width : widths (take n (chars (drop p s))) ≡ n
  pub lfs : count is_lf (take n (chars (drop p s))) ≡ 0
  pub strays : count is_stray (take n (chars (drop p s))) ≡ 0
  pub shown : encoded (take n (chars (drop p s))) ≡ take n (drop p s)
  pub size : length (encoded (take n (chars (drop p s)))) ≡ n

-- one ASCII character, and more after it
module _ (k : ℕ) (s : List ℕ) (p : ℕ) (h : p < length s) (low : get_or s p 0 < 0x80) (no_lf : get_or s p 0 ≢ 10) (more : AsciiFacts k s (p + 1)) where
  step_ascii : AsciiFacts (suc k) s p
  step_ascii =
      let b = get_or s p 0 in
      let e = chars_ascii s p h low in
      let n = drop_next s p 0 h in
      record {
        width = rw e (omega (arith, more.width));
        lfs = rw (e, ne_eqb b 10 no_lf) (omega (arith, more.lfs));
        strays = rw (e, ne_eqb b 0xFFFD (λ z. omega arith)) (omega (arith, more.strays));
        shown = rw (e, n, encode_ascii b low) (ap (λ l. b ∷ l) more.shown);
        size = rw (e, encode_ascii b low) (ap suc more.size);
      }

pub ascii_facts : (n : ℕ) (s : List ℕ) (p : ℕ) → Ascii n (chars (drop p s)) → AsciiFacts n s p
ascii_facts zero s p a = record { width = refl; lfs = refl; strays = refl; shown = refl; size = refl }
ascii_facts (suc k) s p a =
    elim (dec_lt p (length s)) [
      | yes h ↦
          let first = rw (chars_at s p h) at (a.1 0 (omega arith)) in
          let low = low_byte s p h first.0 in
          let e = chars_ascii s p h low in
          let no_lf : get_or s p 0 ≢ 10 = (rw e at (a.1 0 (omega arith))).1 in
          step_ascii k s p h low no_lf (ascii_facts k s (p + 1) (omega (arith, ap length e, a.0), λ i l. rw e at (a.1 (suc i) (omega arith))))
      | no h ↦ absurd (omega (arith, a.0, ap length (chars_end s p (omega arith))))
    ]
