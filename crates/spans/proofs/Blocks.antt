-- Laws of plain bytes: the test of a block byte by byte, and a body that is read over n of them.
use Prim.Native.Nat.{ℕ, zero, suc, ◌+◌, ◌≤◌, ◌<◌}
use Prim.Native.Char.{code}
use mathlib.Core.Path.{◌≡◌, refl, sym, ap, ◌∙◌}
use mathlib.Core.Bool.{Bool, true, false, not, ◌||◌, or-false, or_assoc}
use mathlib.Core.List.{List, [], ◌∷◌, ◌++◌}
use native.Mathlib.Omega.{arith}
use native.Mathlib.Nat.{add-zero}
use lib.Dec.{ltb, leb, eqb}
use lib.ListN.{length, get_or, take, drop}
use borrow.Author.Tests.{ltb-false, leb-false, leb-true, le-leb, lt-leb, ne_eqb, not-true}
use Rattle.basics.proofs.Choice.{and_split, none_of}
use Rattle.basics.proofs.Lists.{drop_next, take_more}
use Rattle.utf8.specs.declared.Char.{Char}
use Rattle.utf8.specs.Chars.{char_at}
use Rattle.spans.specs.declared.body.Body.{Body}
use Rattle.spans.specs.Span.{Span, longer_span, to_star_slash}
use Rattle.spans.specs.Steps.{grown}
use Rattle.spans.specs.Plain.{special, any_special, plain_block, PlainRun}
use Rattle.spans.proofs.Bodies.{PartRead, part_next, grown_ascii, same_body, slash_more}

-- ---- the test of a block
any_snoc : (x : ℕ) (s : List ℕ) (b : ℕ) → any_special x (s ++ (b ∷ [])) ≡ any_special x s || special x b
any_snoc x [] b = or-false (special x b)
any_snoc x (c ∷ s) b = rw (any_snoc x s b) (sym (or_assoc (special x c) (any_special x s) (special x b)))

module _ (x : ℕ) (s : List ℕ) (at : ℕ) where
  pub any_more : (k : ℕ) (t : Bool) → at + k < length s → t ≡ any_special x (take k (drop at s))
      → t || special x (get_or s (at + k) 0) ≡ any_special x (take (k + 1) (drop at s))
  any_more k t h e = rw (e, take_more s at k 0 h, any_snoc)

  pub block_short : length s < at + 16 → plain_block x s at ≡ false
  unfolding plain_block
  block_short h = rw (lt-leb (at + 16) (length s) h)

  pub block_there : (t : Bool) → at + 16 ≤ length s → t ≡ any_special x (take 16 (drop at s)) → not t ≡ plain_block x s at
  unfolding plain_block
  block_there t h e = rw (le-leb (at + 16) (length s) h, e)

  pub block_true : plain_block x s at ≡ true → PlainRun x s at 16
  unfolding plain_block
  block_true e =
      let q = and_split (leb (at + 16) (length s)) _ e in
      record { fits = leb-true (at + 16) (length s) q.0; plain = not-true _ q.1 }

-- ---- a body that is read over plain bytes
abbrev pub skipped : Body → ℕ → Body
skipped b n =
    record { end = b.end + n; chars = b.chars + n; closed = b.closed; lfs = b.lfs; crs = b.crs; strays = b.strays }

-- one plain byte is a character that is no LF, no CR and no stray byte
one_plain : (x : ℕ) (s : List ℕ) (b : Body) → b.end < length s → b.closed ≡ false → special x (get_or s b.end 0) ≡ false → skipped b 1 ≡ grown b (char_at s b.end) false
one_plain x s b h k e =
    let y = get_or s b.end 0 in
    let q = none_of (leb y (code "\r") || ltb 127 y) (eqb y x) e in
    let r = none_of (leb y (code "\r")) (ltb 127 y) q.0 in
    let low = leb-false y (code "\r") r.0 in
    let high = ltb-false 127 y r.1 in
    same_body refl refl k (sym (add-zero _)) (sym (add-zero _)) refl
    ∙ grown_ascii s b h false (omega arith) 0 0 (rw (ne_eqb y (code "\n") (λ z. omega arith))) (rw (ne_eqb y (code "\r") (λ z. omega arith)))

-- a comment's body goes on at what is no star, unless a star stands before
pub slash_on : (star : Bool) → star ≡ false → (s : List ℕ) (p : ℕ) → p < length s → eqb (get_or s p 0) (code "*") ≡ false → (r : List Char)
    → to_star_slash star (char_at s p ∷ r) ≡ longer_span (to_star_slash star r)
slash_on star k s p h e r = slash_more s p h r star (rw k) ∙ ap (λ t. longer_span (to_star_slash t r)) (e ∙ sym k)

-- f goes on at a plain byte
module _ (w : Body) (f : List Char → Span) (x : ℕ) (s : List ℕ)
    (on : (p : ℕ) → p < length s → eqb (get_or s p 0) x ≡ false → (r : List Char) → f (char_at s p ∷ r) ≡ longer_span (f r)) where
  pub part_plain : (n : ℕ) (b : Body) → PlainRun x s b.end n → PartRead w f s b → PartRead w f s (skipped b n)
  part_plain zero b h i = rw (add-zero b.end, add-zero b.chars) i
  part_plain (suc n) b h i =
      let l : b.end < length s = omega arith in
      let q = none_of (special x (get_or s b.end 0)) (any_special x (take n (drop (b.end + 1) s))) (rw (drop_next s b.end 0 l) at h.plain) in
      let k = none_of (leb (get_or s b.end 0) (code "\r") || ltb 127 (get_or s b.end 0)) (eqb (get_or s b.end 0) x) q.0 in
      let j = part_next w f s b i l (skipped b 1) false (one_plain x s b l i.not_yet q.0) refl f (on b.end l k.1) in
      let a : (m : ℕ) → m + 1 + n ≡ m + suc n = λ m. omega arith in
      rw (a b.end, a b.chars) at (part_plain n (skipped b 1) (record { fits = omega arith; plain = q.1 }) j)
