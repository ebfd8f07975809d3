-- Writing and counting the starts: which characters give one, one step at a place of a text, and a table that is full.
use Prim.Native.Nat.{ℕ, zero, suc, ◌+◌, ◌-◌, ◌≤◌, ◌<◌, min}
use Prim.Native.Char.{code}
use mathlib.Core.Path.{◌≡◌, refl, sym, ap, ◌∙◌}
use mathlib.Core.Bool.{and-false}
use mathlib.Core.List.{List, [], ◌∷◌}
use native.Mathlib.Nat.{add-zero}
use native.Mathlib.Numerals.{add-one}
use native.Mathlib.Omega.{arith}
use native.Mathlib.Decide.{dec_le}
use lib.Dec.{lit<}
use lib.ListN.{length, get_or, take, drop, set}
use lib.Seq.{sets, set_out, take-nil, take-take}
use borrow.Author.Tests.{lt-ltb, le-ltb, eq-eqb, ne_eqb}
use Rattle.utf8.specs.declared.Char.{Char}
use Rattle.utf8.specs.Chars.{char_at, chars}
use Rattle.utf8.proofs.First.{chars_end, there_chars}
use Rattle.utf8.proofs.Count.{code_at}
use Rattle.lines.specs.Starts.{starts_read}

-- ---- past the table's end nothing is written
pub sets_past : {A : Type 0} (l : List A) (i : ℕ) (vs : List A) → length l ≤ i → sets l i vs ≡ l
sets_past l i [] h = refl
sets_past l i (v ∷ vs) h = rw (set_out l i v h) (sets_past l (suc i) vs (omega arith))

pub sets_step : (l : List ℕ) (i : ℕ) {v : ℕ} {vs ws : List ℕ} → vs ≡ v ∷ ws → sets l i vs ≡ sets (set l i v) (i + 1) ws
sets_step l i e = rw (e, add-one)

-- ---- n of the starts were counted, and others are left: none, or one and those after it
pub counted_all : {whole : ℕ} (n : ℕ) {vs : List ℕ} → vs ≡ [] → whole ≡ n + length vs → n ≡ whole
counted_all n e h = sym (h ∙ ap (λ l. n + length l) e ∙ add-zero n)

pub counted_one : {whole : ℕ} (n : ℕ) {v : ℕ} {vs ws : List ℕ} → vs ≡ v ∷ ws → whole ≡ n + length vs → whole ≡ n + 1 + length ws
counted_one n {ws = ws} e h = let s : n + suc (length ws) ≡ n + 1 + length ws = omega arith in h ∙ ap (λ l. n + length l) e ∙ s

-- ---- a start is below the size, so there are none where no character but the last is left
pub starts_past : (size o : ℕ) (cs : List Char) → size ≤ suc o → starts_read size o cs ≡ []
unfolding starts_read
starts_past size o [] h = refl
starts_past size o (c ∷ cs) h = rw (le-ltb (suc o) size h, and-false) (starts_past size (suc o) cs (omega arith))

-- the characters before the last
pub starts_take : (size o k : ℕ) (cs : List Char) → size ≤ suc o + k → starts_read size o (take k cs) ≡ starts_read size o cs
unfolding starts_read
starts_take size o zero cs h = sym (starts_past size o cs (omega arith))
starts_take size o (suc k) [] h = refl
starts_take size o (suc k) (c ∷ cs) h = rw (starts_take size (suc o) k cs (omega arith))

-- and so are those before the last offset at which one is read
pub starts_end : (size o k end : ℕ) (cs : List Char) → end ≡ o + min k (size - 1 - o) → starts_read size o (take k cs) ≡ starts_read size o (take (end - o) cs)
starts_end size o k end cs e = elim (dec_le k (size - 1 - o)) [ yes l ↦ all l | no l ↦ some l ]
  where
    all : k ≤ size - 1 - o → starts_read size o (take k cs) ≡ starts_read size o (take (end - o) cs)
    all l = let f : end - o ≡ k = omega arith in rw f

    some : (k ≤ size - 1 - o → ⊥) → starts_read size o (take k cs) ≡ starts_read size o (take (end - o) cs)
    some l =
        let r = size - 1 - o in
        let f : end - o ≡ r = omega arith in
        rw (f, ← take-take r k cs (omega arith)) (sym (starts_take size o r (take k cs) (omega arith)))

pub starts_stop : (size end o : ℕ) (cs : List Char) → end ≤ o → starts_read size o (take (end - o) cs) ≡ []
unfolding starts_read
starts_stop size end o cs h = let e : end - o ≡ 0 = omega arith in rw e

-- ---- one step, at the place p of the text s: the offset is o, and characters are read before the offset end
module _ (size end : ℕ) (s : List ℕ) (p o : ℕ) where
  pub starts_over : length s ≤ p → starts_read size o (take (end - o) (chars (drop p s))) ≡ []
  unfolding starts_read
  starts_over h = rw (chars_end s p h, take-nil (end - o))

  module _ (q : ℕ) (low : o < end) (below : end < size) (h : p < length s) (next : q ≡ p + (char_at s p).width) where
    left : end - o ≡ suc (end - (o + 1))
    left = omega arith

    pub starts_feed : get_or s p 0 ≡ code "\n" → starts_read size o (take (end - o) (chars (drop p s))) ≡ (o + 1) ∷ starts_read size (o + 1) (take (end - (o + 1)) (chars (drop q s)))
    unfolding starts_read
    starts_feed e =
        rw (next, there_chars s p (char_at s p) h refl, left, code_at s p (char_at s p) (code "\n") h refl (lit< tt), eq-eqb _ _ e, lt-ltb (suc o) size (omega arith), add-one o)

    pub starts_other : (get_or s p 0 ≡ code "\n" → ⊥) → starts_read size o (take (end - o) (chars (drop p s))) ≡ starts_read size (o + 1) (take (end - (o + 1)) (chars (drop q s)))
    unfolding starts_read
    starts_other n = rw (next, there_chars s p (char_at s p) h refl, left, code_at s p (char_at s p) (code "\n") h refl (lit< tt), ne_eqb _ _ n, add-one o)
