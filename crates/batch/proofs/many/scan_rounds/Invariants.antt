-- `many::scan_rounds` meets its contract. The loop's invariant: the rounds made so far lead to the present one.
use Prim.Native.Nat.{◌-◌}
use mathlib.Core.Path.{◌≡◌}
use lib.ListN.{length}
use Rattle.batch.specs.Many.{token_room}
use Rattle.batch.specs.Run.{Goes}
use Rattle.batch.proofs.many.scan_rounds.Given as goal

abbrev pub invariant-loop-next : goal.invariant-loop-next
invariant-loop-next l =
    (length l.tokens ≡ length l.initial.tokens)
    × Goes (token_room l.initial.tokens) l.src (record { state = l.fn.first; count = 0 }) l.initial.table l.initial.list l.initial.area l.initial.tokens l.round l.table l.list l.area l.tokens

abbrev pub decreases-loop-next : goal.decreases-loop-next
decreases-loop-next l = token_room l.initial.tokens - l.round.count
