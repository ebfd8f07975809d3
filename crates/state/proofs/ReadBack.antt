-- What was written is read back: a flag by its bit, a state by its nine numbers.
use Prim.Native.Nat.{ℕ, ◌≤◌}
use mathlib.Core.Path.{◌≡◌, refl}
use mathlib.Core.Bool.{Bool, true, false, not}
use mathlib.Core.List.{List}
use lib.Dec.{eqb}
use lib.ListN.{length}
use lib.Seq.{sets, sets-eq}
use Rattle.state.specs.declared.state.State.{State}
use Rattle.state.specs.Layout.{bit, state_width, state_in, state_numbers}

pub bit_read : (b : Bool) → not (eqb (bit b) 0) ≡ b
bit_read true = refl
bit_read false = refl

pub state_read : (n : List ℕ) (s : State) → state_width ≤ length n → state_in (sets n 0 (state_numbers s)) ≡ s
state_read n s h = rw (sets-eq (state_numbers s) n 0 h, bit_read s.mark)
