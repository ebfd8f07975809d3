-- How many starts are read: as many as there are line feeds, but for one that ends the text.
use Prim.Native.Nat.{ℕ, suc, ◌+◌, ◌≤◌, ◌<◌}
use mathlib.Core.Path.{◌≡◌, refl}
use mathlib.Core.Bool.{Bool, true, false, cond, ◌&&◌}
use mathlib.Core.List.{List, [], ◌∷◌, ◌++◌, append-nil}
use native.Mathlib.Nat.{add-zero}
use native.Mathlib.Omega.{arith}
use lib.Dec.{ltb}
use lib.ListN.{length, length-append}
use borrow.Author.Tests.{lt-ltb}
use Rattle.utf8.specs.declared.Char.{Char}
use Rattle.utf8.specs.Count.{is_lf, one, count}
use Rattle.utf8.proofs.Count.{count_append}
use Rattle.lines.specs.Starts.{starts_read}
use Rattle.lines.proofs.Writing.{starts_past}
use Rattle.lines.proofs.Reading.{starts_append}

pub starts_le : (size o : ℕ) (cs : List Char) → length (starts_read size o cs) ≤ count is_lf cs
unfolding starts_read
starts_le size o [] = omega arith
starts_le size o (c ∷ cs) = go (is_lf c) (ltb (suc o) size) (starts_le size (suc o) cs)
  where
    rest : List ℕ
    rest = starts_read size (suc o) cs

    go : (t u : Bool) → length rest ≤ count is_lf cs → length (cond (t && u) (suc o ∷ rest) rest) ≤ one t + count is_lf cs
    go true true h = omega arith
    go true false h = omega arith
    go false u h = omega arith

-- before the size each line feed gives one
pub starts_count : (size o : ℕ) (cs : List Char) → o + length cs < size → length (starts_read size o cs) ≡ count is_lf cs
unfolding starts_read
starts_count size o [] h = refl
starts_count size o (c ∷ cs) h = rw (lt-ltb (suc o) size (omega arith)) (go (is_lf c) (starts_count size (suc o) cs (omega arith)))
  where
    rest : List ℕ
    rest = starts_read size (suc o) cs

    go : (t : Bool) → length rest ≡ count is_lf cs → length (cond (t && true) (suc o ∷ rest) rest) ≡ one t + count is_lf cs
    go true e = omega arith
    go false e = omega arith

-- the last character gives none
pub starts_last : (size o : ℕ) (cs : List Char) (c : Char) → size ≤ suc (o + length cs) → starts_read size o (cs ++ (c ∷ [])) ≡ starts_read size o cs
starts_last size o cs c h =
    rw (starts_append size o cs (c ∷ []), starts_past size (o + length cs) (c ∷ []) h) (append-nil (starts_read size o cs))

pub starts_count_end : (size o : ℕ) (cs : List Char) (c : Char) → o + length (cs ++ (c ∷ [])) ≡ size
    → length (starts_read size o (cs ++ (c ∷ []))) + one (is_lf c) ≡ count is_lf (cs ++ (c ∷ []))
starts_count_end size o cs c h =
    let l = length-append cs (c ∷ []) in
    rw (starts_last size o cs c (omega (arith, l)), starts_count size o cs (omega (arith, l)), count_append is_lf cs (c ∷ []), add-zero (one (is_lf c)))
