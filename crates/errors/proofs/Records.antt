-- Laws of the layout: what is written as a record is read back, and the records before it stay.
use Prim.Native.Nat.{ℕ, ◌+◌, ◌≤◌}
use mathlib.Core.Path.{◌≡◌}
use mathlib.Core.List.{List, [], ◌∷◌}
use native.Mathlib.Nat.{add-zero}
use native.Mathlib.Omega.{arith}
use lib.ListN.{length}
use lib.Seq.{sets}
use Rattle.errors.specs.declared.layout.Error.{Error}
use Rattle.errors.specs.Layout.{width, numbers, record_at}
use Rattle.basics.proofs.Sets.{get_d_sets_before, get_d_sets_in}

pub error_written : (l : List ℕ) (at : ℕ) (e : Error) → at + width ≤ length l → record_at (sets l at (numbers e)) at ≡ e
unfolding numbers record_at
error_written l at e h =
    let vs = e.offset ∷ e.line ∷ e.column ∷ e.number ∷ [] in
    rw (
      rw add-zero at (get_d_sets_in l at vs 0 0 h (omega arith)),
      get_d_sets_in l at vs 1 0 h (omega arith),
      get_d_sets_in l at vs 2 0 h (omega arith),
      get_d_sets_in l at vs 3 0 h (omega arith),
    )

pub error_kept : (l : List ℕ) (at : ℕ) (vs : List ℕ) (i : ℕ) → i + width ≤ at → record_at (sets l at vs) i ≡ record_at l i
unfolding record_at
error_kept l at vs i h =
    rw (
      get_d_sets_before l at vs i 0 (omega arith),
      get_d_sets_before l at vs (i + 1) 0 (omega arith),
      get_d_sets_before l at vs (i + 2) 0 (omega arith),
      get_d_sets_before l at vs (i + 3) 0 (omega arith),
    )
