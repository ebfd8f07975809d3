-- Laws of the check of a text, from a place on: the answer that is left when so many characters and bytes have been passed.
use Prim.Native.Nat.{ℕ, zero, suc, ◌+◌, ◌≤◌, ◌<◌}
use mathlib.Core.Path.{◌≡◌, ap, ap₂, ◌∙◌}
use mathlib.Core.Bool.{true, false, cond}
use mathlib.Core.List.{List, ◌∷◌}
use native.Mathlib.Omega.{arith}
use native.Mathlib.Nat.{add-zero}
use lib.Dec.{ltb}
use lib.ListN.{length, get_or, take, drop}
use borrow.Author.Tests.{ltb-true, ne_eqb}
use Rattle.basics.proofs.Choice.{and_split}
use Rattle.basics.proofs.Lists.{drop_next}
use Rattle.utf8.specs.declared.Char.{Char}
use Rattle.utf8.specs.Chars.{char_at, chars, is_stray, no_stray, bytes_before}
use Rattle.validation.specs.Answers.{Checking, valid, not_utf8}
use Rattle.validation.specs.Steps.{all_ascii}
use Rattle.utf8.proofs.First.{there_chars, ascii, chars_ascii, chars_end}

-- the answer of a text whose first `count` characters, in `at` bytes, are well formed, and whose others are cs
abbrev pub checked_from : ℕ → ℕ → List Char → Checking
checked_from count at cs = cond (no_stray cs) (valid (count + length cs)) (not_utf8 (at + bytes_before cs))

next : (count at : ℕ) (c : Char) (cs : List Char) → is_stray c ≡ false → checked_from count at (c ∷ cs) ≡ checked_from (count + 1) (at + c.width) cs
next count at c cs e =
    rw e (ap₂ (λ x y. cond (no_stray cs) (valid x) (not_utf8 y)) (omega arith) (omega arith))

bad : (count at : ℕ) (c : Char) (cs : List Char) → is_stray c ≡ true → checked_from count at (c ∷ cs) ≡ not_utf8 at
bad count at c cs e = rw e (ap not_utf8 (add-zero at))

module _ (s : List ℕ) (p : ℕ) where
  pub checked_end : (count : ℕ) → length s ≤ p → checked_from count p (chars (drop p s)) ≡ valid count
  checked_end count h = ap (checked_from count p) (chars_end s p h) ∙ ap valid (add-zero count)

  module _ (c : Char) (h : p < length s) (e : c ≡ char_at s p) (count : ℕ) where
    pub checked_next : is_stray c ≡ false → checked_from count p (chars (drop p s)) ≡ checked_from (count + 1) (p + c.width) (chars (drop (p + c.width) s))
    checked_next g = ap (checked_from count p) (there_chars s p c h e) ∙ next count p c (chars (drop (p + c.width) s)) g

    pub checked_bad : is_stray c ≡ true → checked_from count p (chars (drop p s)) ≡ not_utf8 p
    checked_bad g = ap (checked_from count p) (there_chars s p c h e) ∙ bad count p c (chars (drop (p + c.width) s)) g

-- n ASCII bytes are n characters
pub checked_ascii : (n : ℕ) (s : List ℕ) (p count : ℕ) → p + n ≤ length s → all_ascii (take n (drop p s)) ≡ true
    → checked_from count p (chars (drop p s)) ≡ checked_from (count + n) (p + n) (chars (drop (p + n) s))
checked_ascii zero s p count h g = rw (add-zero count, add-zero p)
checked_ascii (suc n) s p count h g =
    let l : p < length s = omega arith in
    let b = get_or s p 0 in
    let q = and_split (ltb b 0x80) (all_ascii (take n (drop (p + 1) s))) (rw (drop_next s p 0 l) at g) in
    let m : b < 0x80 = ltb-true b 0x80 q.0 in
    let c : (x : ℕ) → x + 1 + n ≡ x + suc n = λ x. omega arith in
    let no : is_stray (ascii b) ≡ false = simp (ne_eqb b 0xFFFD (omega arith)) in
    ap (checked_from count p) (chars_ascii s p l m)
    ∙ next count p (ascii b) (chars (drop (p + 1) s)) no
    ∙ rw (c count, c p) at (checked_ascii n s (p + 1) (count + 1) (omega arith) q.1)
