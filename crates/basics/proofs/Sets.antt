-- What stands in a list after several numbers were written into it.
use Prim.Native.Nat.{ℕ, zero, suc, ◌+◌, ◌≤◌, ◌<◌}
use mathlib.Core.Path.{◌≡◌, refl, sym, ap, ◌∙◌}
use mathlib.Core.List.{List, [], ◌∷◌, ◌++◌, append_assoc}
use native.Mathlib.Nat.{add-zero, add-suc, suc-add, le_of_suc-le-suc, not-suc-le-zero}
use native.Mathlib.Omega.{arith}
use lib.ListN.{length, take, drop, get_or, set, length-set}
use lib.Seq.{sets, sets-eq, drop-drop, get_or-set_same, get_or-set_other}
use borrow.Rule.Slice.PartMut.{put_mid}

-- before the place of the first, what stood there
pub get_d_sets_before : {A : Type 0} (l : List A) (i : ℕ) (vs : List A) (j : ℕ) (d : A) → j < i → get_or (sets l i vs) j d ≡ get_or l j d
get_d_sets_before l i [] j d h = refl
get_d_sets_before l i (v ∷ vs) j d h =
    get_d_sets_before (set l i v) (suc i) vs j d (omega arith) ∙ get_or-set_other l i j v d (λ e. omega arith)

-- from there on, what was written
pub get_d_sets_in : {A : Type 0} (l : List A) (i : ℕ) (vs : List A) (k : ℕ) (d : A) → i + length vs ≤ length l → k < length vs → get_or (sets l i vs) (i + k) d ≡ get_or vs k d
get_d_sets_in l i [] k d h g = absurd (not-suc-le-zero g)
get_d_sets_in l i (v ∷ vs) zero d h g =
    rw (add-zero, get_d_sets_before (set l i v) (suc i) vs i d (omega arith), get_or-set_same l i v d (omega arith))
get_d_sets_in l i (v ∷ vs) (suc k) d h g =
    rw (add-suc, ← suc-add i k) (get_d_sets_in (set l i v) (suc i) vs k d (simp length-set (omega arith)) (le_of_suc-le-suc g))

-- a part of a list that now holds vs
pub part_set : {A : Type 0} (l : List A) (at k : ℕ) (vs : List A) → k ≡ length vs → at + length vs ≤ length l → put_mid at k l vs ≡ sets l at vs
part_set l at k vs e h =
    ap (λ x. take at l ++ (vs ++ x)) (drop-drop k at l ∙ ap (λ n. drop (at + n) l) e)
    ∙ sym (append_assoc (take at l) vs (drop (at + length vs) l))
    ∙ sym (sets-eq vs l at h)
