-- `spans::line::comment_end` meets its contract. The loop's invariant: what is left of the text gives the answer.
use Prim.Native.Nat.{◌-◌}
use mathlib.Core.Path.{◌≡◌}
use mathlib.Core.Bool.{false}
use lib.ListN.{length, drop}
use Rattle.utf8.specs.Chars.{chars}
use Rattle.spans.specs.Steps.{stop_from}
use Rattle.spans.proofs.line.comment_end.Given as goal

abbrev pub invariant-loop-p : goal.invariant-loop-p
invariant-loop-p l = stop_from l.at false (chars (drop l.at l.src)) ≡ stop_from l.p l.star (chars (drop l.p l.src))

abbrev pub decreases-loop-p : goal.decreases-loop-p
decreases-loop-p l = length l.src - l.p
