-- Laws of what a body holds: a text after does not change it, what its last character adds, and that it is no more than its bytes.
use Prim.Native.Nat.{ℕ, zero, suc, ◌+◌, ◌-◌, ◌≤◌, ◌<◌}
use Prim.Native.Char.{code}
use mathlib.Core.Path.{◌≡◌, refl, sym, ap, ◌∙◌}
use mathlib.Core.Bool.{Bool, true, false, and-false}
use mathlib.Core.List.{List, ◌∷◌, ◌++◌}
use native.Mathlib.Omega.{arith}
use native.Mathlib.Nat.{add-zero}
use mir.Val.{bool_byte}
use lib.Dec.{eqb}
use lib.ListN.{length, get_or, take, drop}
use lib.Seq.{take-append-le, drop-cons}
use borrow.Author.Tests.{ne_eqb}
use Rattle.utf8.specs.declared.Char.{Char}
use Rattle.utf8.specs.Chars.{ended, chars, widths, is_stray}
use Rattle.utf8.specs.Count.{is_cr, count, one}
use Rattle.utf8.proofs.Count.{count_last, widths_last}
use Rattle.utf8.proofs.Places.{place_chars, ascii_widths}
use Rattle.spans.specs.Span.{Span, to_stop}
use Rattle.spans.specs.Body.{body_of}
use Rattle.spans.proofs.Spans.{stop_closing}

-- a test as a number
pub byte_one : (t : Bool) → bool_byte t ≡ one t
byte_one true = refl
byte_one false = refl

pub body_local : (at : ℕ) (s : Span) (r t : List Char) → s.len ≤ length r → body_of at s (r ++ t) ≡ body_of at s r
unfolding body_of
body_local at s r t h = rw (take-append-le s.len r t h)

-- one of ASCII has one byte
low_width : (s : List ℕ) (p n : ℕ) → n < length (chars (drop p s)) → (get_or (chars (drop p s)) n ended).code < 0x80 → (get_or (chars (drop p s)) n ended).width ≡ 1
low_width s p n h l =
    let r = chars (drop p s) in
    let e = place_chars n s p ∙ drop-cons r n ended h in
    let q = p + widths (take n r) in
    let w = ascii_widths 1 s q (rw e (omega arith)) (rw e (λ i g. first i g)) in
    omega (arith, sym (ap (λ (l : List Char). widths (take 1 l)) e) ∙ w)
  where
    first : (i : ℕ) → i < 1 → (get_or (get_or (chars (drop p s)) n ended ∷ drop (suc n) (chars (drop p s))) i ended).code < 0x80
    first zero g = l
    first (suc i) g = absurd (omega arith)

-- what the first n characters have beside the last of them: one byte, no CR and no stray byte
pub record Inside (r : List Char) (n : ℕ) : Type 0 where
  pub bytes : widths (take n r) ≡ widths (take (n - 1) r) + 1
  pub crs : count is_cr (take n r) ≡ count is_cr (take (n - 1) r)
  pub strays : count is_stray (take n r) ≡ count is_stray (take (n - 1) r)

module _ (x : ℕ) (low : x < 0x80) (no-cr : x ≡ code "\r" → ⊥) (s : List ℕ) (p : ℕ) where
  last_inside : (n m : ℕ) → n ≡ suc m → m < length (chars (drop p s)) → (get_or (chars (drop p s)) m ended).code ≡ x → Inside (chars (drop p s)) n
  last_inside n m e h k =
      let r = chars (drop p s) in
      let c = get_or r m ended in
      let d : suc m - 1 ≡ m = omega arith in
      rw e
      (record {
        bytes = rw d (widths_last r m h ∙ ap (λ w. widths (take m r) + w) (low_width s p m h (omega arith)));
        crs = rw d (count_last r m h is_cr ∙ rw (ne_eqb c.code (code "\r") (λ z. no-cr (sym k ∙ z)), add-zero));
        strays = rw d (count_last r m h is_stray ∙ rw (ne_eqb c.code 0xFFFD (λ z. omega arith), and-false (eqb c.width 1), add-zero));
      })

  -- the character that closes a span
  pub stop_inside : (to_stop x (chars (drop p s))).closed ≡ true → Inside (chars (drop p s)) (to_stop x (chars (drop p s))).len
  stop_inside e = let i = stop_closing x (chars (drop p s)) e in last_inside _ _ i.len i.inside i.code
