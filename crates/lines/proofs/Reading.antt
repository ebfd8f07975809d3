-- Reading in two parts, and the starts that it adds where the last one is not above the offset.
use Prim.Native.Nat.{ℕ, suc, ◌+◌, ◌-◌, ◌≤◌, ◌<◌}
use Prim.Native.Char.{code}
use mathlib.Core.Path.{◌≡◌, refl, sym, ◌∙◌}
use mathlib.Core.Bool.{Bool, true, false, cond, ◌&&◌}
use mathlib.Core.List.{List, [], ◌∷◌, ◌++◌, append-nil}
use native.Mathlib.Nat.{add-zero, add-suc, suc-add}
use native.Mathlib.Omega.{arith}
use lib.Dec.{ltb}
use lib.ListN.{length, length-append}
use lib.Seq.{append_snoc, get_or_at}
use borrow.Author.Tests.{lt-ltb, eq-eqb}
use Rattle.utf8.specs.declared.Char.{Char}
use Rattle.utf8.specs.Count.{is_lf}
use Rattle.position.specs.Lines.{line_start}
use Rattle.lines.specs.Starts.{recorded, read_lines, starts_read}

-- ---- in two parts
pub read_append : (size o : ℕ) (a b : List Char) (starts : List ℕ) → read_lines size o (a ++ b) starts ≡ read_lines size (o + length a) b (read_lines size o a starts)
unfolding read_lines
read_append size o [] b starts = rw add-zero
read_append size o (c ∷ a) b starts =
    read_append size (suc o) a b (cond (is_lf c) (recorded size (suc o) starts) starts) ∙ rw (add-suc, suc-add)

pub starts_append : (size o : ℕ) (a b : List Char) → starts_read size o (a ++ b) ≡ starts_read size o a ++ starts_read size (o + length a) b
unfolding starts_read
starts_append size o [] b = rw add-zero
starts_append size o (c ∷ a) b =
    rw (starts_append size (suc o) a b, suc-add o (length a), ← add-suc o (length a)) (go (is_lf c && ltb (suc o) size))
  where
    rest : List ℕ
    rest = starts_read size (o + suc (length a)) b

    go : (t : Bool) → cond t (suc o ∷ (starts_read size (suc o) a ++ rest)) (starts_read size (suc o) a ++ rest) ≡ cond t (suc o ∷ starts_read size (suc o) a) (starts_read size (suc o) a) ++ rest
    go true = refl
    go false = refl

-- ---- what is added
pub last_snoc : (starts : List ℕ) (x : ℕ) → line_start (starts ++ (x ∷ [])) (length (starts ++ (x ∷ []))) ≡ x
last_snoc starts x = get_or_at starts x [] 0 (length (starts ++ (x ∷ [])) - 1) (rw length-append (omega arith))

pub read_new : (size o : ℕ) (cs : List Char) (starts : List ℕ) → line_start starts (length starts) ≤ o → read_lines size o cs starts ≡ starts ++ starts_read size o cs
unfolding read_lines starts_read
read_new size o [] starts h = sym (append-nil starts)
read_new size o (c ∷ cs) starts h =
    rw (lt-ltb (line_start starts (length starts)) (suc o) (omega arith)) (go (is_lf c) (ltb (suc o) size) (read_new size (suc o) cs))
  where
    go : (t u : Bool) → ((s : List ℕ) → line_start s (length s) ≤ suc o → read_lines size (suc o) cs s ≡ s ++ starts_read size (suc o) cs)
        → read_lines size (suc o) cs (cond t (cond u (starts ++ (suc o ∷ [])) starts) starts) ≡ starts ++ cond (t && u) (suc o ∷ starts_read size (suc o) cs) (starts_read size (suc o) cs)
    go true true more =
        more (starts ++ (suc o ∷ [])) (rw (last_snoc starts (suc o)) (omega arith)) ∙ append_snoc starts (suc o) (starts_read size (suc o) cs)
    go true false more = more starts (omega arith)
    go false u more = more starts (omega arith)

-- a line feed before the size adds a start
pub read_feed : (size o : ℕ) (c : Char) (starts : List ℕ) → c.code ≡ code "\n" → line_start starts (length starts) ≤ o → suc o < size → read_lines size o (c ∷ []) starts ≡ starts ++ (suc o ∷ [])
unfolding read_lines
read_feed size o c starts e h l =
    rw (eq-eqb c.code (code "\n") e, lt-ltb (line_start starts (length starts)) (suc o) (omega arith), lt-ltb (suc o) size l)

-- ---- the size does not matter to what is read before it
pub read_any_size : (size other o : ℕ) (cs : List Char) (starts : List ℕ) → o + length cs < size → o + length cs < other → read_lines size o cs starts ≡ read_lines other o cs starts
unfolding read_lines
read_any_size size other o [] starts h g = refl
read_any_size size other o (c ∷ cs) starts h g =
    rw (lt-ltb (suc o) size (omega arith), lt-ltb (suc o) other (omega arith)) (read_any_size size other (suc o) cs _ (omega arith) (omega arith))
