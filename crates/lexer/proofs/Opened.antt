-- A token that opens with ASCII characters: its characters, its bytes, and those inside it.
use Prim.Native.Nat.{ℕ, suc, ◌+◌, ◌-◌, ◌≤◌, ◌<◌}
use mathlib.Core.Path.{◌≡◌, ap, ◌∙◌}
use mathlib.Core.Bool.{Bool, true, false, cond}
use mathlib.Core.List.{List, ◌∷◌}
use native.Mathlib.Omega.{arith}
use lib.ListN.{length, get_or, take, drop, length-drop}
use lib.Seq.{length-take-le, take-take}
use borrow.Author.Tests.{ne_eqb}
use Rattle.basics.proofs.Lists.{drop_next, reach}
use Rattle.utf8.specs.Chars.{chars, widths, is_stray}
use Rattle.utf8.proofs.First.{ascii, chars_ascii}
use Rattle.utf8.specs.Count.{is_lf, is_cr, count}
use Rattle.lexer.specs.Lexeme.{Lexeme}

-- a lexeme that stands in the text, after its blanks
abbrev pub lexeme_as : ℕ → ℕ → ℕ → ℕ → Bool → List ℕ → List ℕ → Lexeme
lexeme_as n kind error code mark text value =
    record {
      skipped = 0;
      len = n;
      kind = kind;
      inserted = false;
      text = text;
      value = value;
      code = code;
      error = error;
      mark = mark;
    }

-- the character at a place that holds an ASCII byte
pub open_chars : (s : List ℕ) (at x : ℕ) → 0 < x → x < 0x80 → get_or s at 0 ≡ x → chars (drop at s) ≡ ascii x ∷ chars (drop (at + 1) s)
open_chars s at x z l e = rw e at (chars_ascii s at (reach s at (omega arith)) (omega arith))

-- ---- the bytes inside a token: without its first, and without its last or with it
inside_bytes : (s : List ℕ) (at w m : ℕ) → at + suc w ≤ length s
    → take (length (take (suc w) (drop at s)) - suc m) (drop 1 (take (suc w) (drop at s))) ≡ take (w - m) (drop (at + 1) s)
inside_bytes s at w m h =
    let d = drop (at + 1) s in
    let n : suc w - suc m ≡ w - m = omega arith in
    rw (drop_next s at 0 (omega arith), length-take-le w d (omega (arith, length-drop (at + 1) s)))
    (ap (λ k. take k (take w d)) n ∙ take-take (w - m) w d (omega arith))

pub inside_token : (t : Bool) (s : List ℕ) (at n w : ℕ) → n ≡ suc w → at + n ≤ length s
    → take (length (take n (drop at s)) - cond t 1 2) (drop 1 (take n (drop at s))) ≡ take (w - cond t 0 1) (drop (at + 1) s)
inside_token true s at n w e h = rw e (inside_bytes s at w 0 (omega arith))
inside_token false s at n w e h = rw e (inside_bytes s at w 1 (omega arith))

-- ---- an opening of n characters, each one byte, no LF, no CR and no stray byte
pub record Opened (s : List ℕ) (at n : ℕ) : Type 0 where
  pub within : at + n ≤ length s
  pub bytes : (k : ℕ) → widths (take (n + k) (chars (drop at s))) ≡ n + widths (take k (chars (drop (at + n) s)))
  pub lfs : (k : ℕ) → count is_lf (take (n + k) (chars (drop at s))) ≡ count is_lf (take k (chars (drop (at + n) s)))
  pub crs : (k : ℕ) → count is_cr (take (n + k) (chars (drop at s))) ≡ count is_cr (take k (chars (drop (at + n) s)))
  pub strays : (k : ℕ) → count is_stray (take (n + k) (chars (drop at s))) ≡ count is_stray (take k (chars (drop (at + n) s)))

pub opened_raw : (s : List ℕ) (at : ℕ) → get_or s at 0 ≡ 96 → Opened s at 1
opened_raw s at e =
    let o = open_chars s at 96 (omega arith) (omega arith) e in
    let n : (k : ℕ) → 1 + k ≡ suc k = λ k. omega arith in
    record {
      within = omega (arith, reach s at (omega arith));
      bytes = λ k. rw (o, n k) (omega arith);
      lfs = λ k. rw (o, n k) (omega arith);
      crs = λ k. rw (o, n k) (omega arith);
      strays = λ k. rw (o, n k) (omega arith);
    }

-- the two characters that open a comment
pub comment_chars : (s : List ℕ) (at x : ℕ) → 0 < x → x < 0x80 → get_or s at 0 ≡ 47 → get_or s (at + 1) 0 ≡ x → chars (drop at s) ≡ ascii 47 ∷ ascii x ∷ chars (drop (at + 2) s)
comment_chars s at x z l e g =
    let n : at + 1 + 1 ≡ at + 2 = omega arith in
    rw n at (open_chars s at 47 (omega arith) (omega arith) e ∙ ap (λ r. ascii 47 ∷ r) (open_chars s (at + 1) x z l g))

pub opened_comment : (s : List ℕ) (at x : ℕ) → 13 < x → x < 0x80 → get_or s at 0 ≡ 47 → get_or s (at + 1) 0 ≡ x → Opened s at 2
opened_comment s at x z l e g =
    let o = comment_chars s at x (omega arith) l e g in
    let n : (k : ℕ) → 2 + k ≡ suc (suc k) = λ k. omega arith in
    record {
      within = omega (arith, reach s (at + 1) (omega arith));
      bytes = λ k. rw (o, n k) (omega arith);
      lfs = λ k. rw (o, n k, ne_eqb x 10 (λ i. omega arith)) (omega arith);
      crs = λ k. rw (o, n k, ne_eqb x 13 (λ i. omega arith)) (omega arith);
      strays = λ k. rw (o, n k, ne_eqb x 0xFFFD (λ i. omega arith)) (omega arith);
    }
