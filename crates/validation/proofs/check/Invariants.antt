-- `check` meets its contract. The loop's invariant: what is left of the text gives the answer, with the count and the place so far.
use Prim.Native.Nat.{◌-◌, ◌≤◌}
use mathlib.Core.Path.{◌≡◌}
use lib.ListN.{length, drop}
use Rattle.utf8.specs.Chars.{chars}
use Rattle.validation.specs.Answers.{checked_of}
use Rattle.validation.proofs.Answer.{checked_from}
use Rattle.validation.proofs.check.Given as goal

abbrev pub invariant-loop-at : goal.invariant-loop-at
invariant-loop-at l = (l.at ≤ length l.s) × (l.count ≤ l.at) × (checked_of l.s ≡ checked_from l.count l.at (chars (drop l.at l.s)))

abbrev pub decreases-loop-at : goal.decreases-loop-at
decreases-loop-at l = length l.s - l.at
