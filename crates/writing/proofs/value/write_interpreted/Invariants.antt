-- `writing::value::write_interpreted` meets its contract. The loop's invariant: the value of what is left is to be written from the present place on.
use Prim.Native.Nat.{◌-◌}
use mathlib.Core.Path.{◌≡◌}
use lib.ListN.{length}
use lib.Seq.{sets}
use Rattle.writing.proofs.Values.{value_at}
use Rattle.writing.proofs.value.write_interpreted.Given as goal

abbrev pub invariant-loop-p : goal.invariant-loop-p
invariant-loop-p l = sets l.initial.area l.to (value_at l.src l.at) ≡ sets l.area l.n (value_at l.src l.p)

abbrev pub decreases-loop-p : goal.decreases-loop-p
decreases-loop-p l = length l.src - l.p
