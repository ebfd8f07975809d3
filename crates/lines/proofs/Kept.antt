-- What reading keeps of the starts: the first is 0, they rise, and none is above the offset.
use Prim.Native.Nat.{ℕ, zero, suc, ◌+◌, ◌-◌, ◌≤◌, ◌<◌}
use mathlib.Core.Path.{◌≡◌, refl}
use mathlib.Core.Bool.{Bool, true, false, cond, ◌&&◌}
use mathlib.Core.List.{List, [], ◌∷◌, ◌++◌}
use native.Mathlib.Nat.{add-zero, add-suc, suc-add, le_of_suc-le-suc, not-suc-le-zero}
use native.Mathlib.Omega.{arith}
use lib.Dec.{ltb}
use lib.ListN.{length, get_or}
use borrow.Author.Tests.{ltb-true}
use Rattle.basics.proofs.Choice.{cond_ind, and_split}
use Rattle.utf8.specs.declared.Char.{Char}
use Rattle.utf8.specs.Count.{is_lf}
use Rattle.position.specs.Lines.{line_start, StrictlyRising}
use Rattle.position.proofs.Lines.{AtMost, FromZero, at_most_up, at_most_append, from_zero_append, rising_snoc}
use Rattle.lines.specs.Starts.{recorded, read_lines, starts_read}
use Rattle.lines.proofs.Reading.{last_snoc, read_new}

-- what one character keeps, with a start added and with none, all of them keep
module _ (size : ℕ) (P : ℕ → List ℕ → Type 0) (next : (o : ℕ) (s : List ℕ) → P o s → P (suc o) s) (more : (o : ℕ) (s : List ℕ) → P o s → line_start s (length s) < suc o → suc o < size → P (suc o) (s ++ (suc o ∷ []))) where
  one_keeps : (o : ℕ) (c : Char) (s : List ℕ) → P o s → P (suc o) (cond (is_lf c) (recorded size (suc o) s) s)
  one_keeps o c s h =
      cond_ind (P (suc o)) (is_lf c) (recorded size (suc o) s) s
      (λ e. cond_ind (P (suc o)) _ (s ++ (suc o ∷ [])) s
      (λ f. let g = and_split _ _ f in more o s h (ltb-true _ _ g.0) (ltb-true _ _ g.1))
      (λ f. next o s h))
      (λ e. next o s h)

  pub read_keeps : (o : ℕ) (cs : List Char) (s : List ℕ) → P o s → P (o + length cs) (read_lines size o cs s)
  unfolding read_lines
  read_keeps o [] s h = rw (add-zero o) h
  read_keeps o (c ∷ cs) s h =
      rw (add-suc o (length cs), ← suc-add o (length cs)) (read_keeps (suc o) cs (cond (is_lf c) (recorded size (suc o) s) s) (one_keeps o c s h))

module _ (size o : ℕ) (cs : List Char) (s : List ℕ) where
  pub read_from_zero : FromZero s → FromZero (read_lines size o cs s)
  read_from_zero z = read_keeps size (λ o s. FromZero s) (λ o s h. h) (λ o s h l g. from_zero_append s (suc o ∷ []) h) o cs s z

  pub read_rising : StrictlyRising s → StrictlyRising (read_lines size o cs s)
  read_rising r = read_keeps size (λ o s. StrictlyRising s) (λ o s h. h) (λ o s h l g. rising_snoc s (suc o) h l) o cs s r

  pub read_at_most : AtMost o s → AtMost (o + length cs) (read_lines size o cs s)
  read_at_most h =
      read_keeps size AtMost (λ o s h. at_most_up s (omega arith) h)
      (λ o s h l g. at_most_append (suc o) s (suc o ∷ []) (at_most_up s (omega arith) h) (omega arith, tt)) o cs s h

  pub read_last : line_start s (length s) ≤ o → line_start (read_lines size o cs s) (length (read_lines size o cs s)) ≤ o + length cs
  read_last h =
      read_keeps size (λ o s. line_start s (length s) ≤ o) (λ o s h. omega arith) (λ o s h l g. rw (last_snoc s (suc o)) (omega arith)) o cs s h

-- the last start, where all are bounded
pub last_at_most : (m : ℕ) (s : List ℕ) → AtMost m s → line_start s (length s) ≤ m
last_at_most m [] h = omega arith
last_at_most m (x ∷ []) h = h.0
last_at_most m (x ∷ y ∷ s) h =
    let e : suc (suc (length s)) - 1 ≡ suc (suc (length s) - 1) = omega arith in
    rw e (last_at_most m (y ∷ s) h.1)

-- the new starts
module _ (size o : ℕ) (cs : List Char) where
  pub starts_at_most : AtMost (o + length cs) (starts_read size o cs)
  starts_at_most = rw (read_new size o cs [] (omega arith)) at (read_at_most size o cs [] tt)

  pub starts_rising : StrictlyRising (starts_read size o cs)
  starts_rising = rw (read_new size o cs [] (omega arith)) at (read_rising size o cs [] (λ k h. absurd (omega arith)))

-- each is above the offset and below the size
pub starts_between : (size o : ℕ) (cs : List Char) (k : ℕ) → k < length (starts_read size o cs) → (o < get_or (starts_read size o cs) k 0) × (get_or (starts_read size o cs) k 0 < size)
unfolding starts_read
starts_between size o [] k h = absurd (not-suc-le-zero h)
starts_between size o (c ∷ cs) k h = go (is_lf c) (ltb (suc o) size) refl k (starts_between size (suc o) cs) h
  where
    rest : List ℕ
    rest = starts_read size (suc o) cs

    go : (t u : Bool) → ltb (suc o) size ≡ u → (k : ℕ) → ((j : ℕ) → j < length rest → (suc o < get_or rest j 0) × (get_or rest j 0 < size))
        → k < length (cond (t && u) (suc o ∷ rest) rest) → (o < get_or (cond (t && u) (suc o ∷ rest) rest) k 0) × (get_or (cond (t && u) (suc o ∷ rest) rest) k 0 < size)
    go true true e zero more l = (omega arith, ltb-true _ _ e)
    go true true e (suc k) more l = let g = more k (le_of_suc-le-suc l) in (omega (arith, g), g.1)
    go true false e k more l = let g = more k l in (omega (arith, g), g.1)
    go false u e k more l = let g = more k l in (omega (arith, g), g.1)
