-- `run::run_simple` meets its contract. The loop's invariant: the tokens given so far lead to the place that is reached.
use Prim.Native.Nat.{◌-◌, ◌≤◌}
use mathlib.Core.Path.{◌≡◌}
use lib.ListN.{length}
use Rattle.batch.specs.Many.{token_room}
use Rattle.batch.specs.Run.{reached, Leads}
use Rattle.batch.proofs.run.run_simple.Given as goal

abbrev pub invariant-loop-count : goal.invariant-loop-count
invariant-loop-count l =
    (length l.tokens ≡ length l.initial.tokens)
    × (l.first.place ≤ l.at.place)
    × Leads (token_room l.initial.tokens) l.src l.list l.fn.from.state l.initial.table l.initial.tokens l.fn.from.count (reached l.first l.at l.table) l.table l.tokens l.count

abbrev pub decreases-loop-count : goal.decreases-loop-count
decreases-loop-count l = token_room l.initial.tokens - l.count
