-- `spans::plain::is_block` meets its contract. The loop's invariant: `any` says whether one of the bytes so far is special.
use mathlib.Core.Path.{◌≡◌}
use lib.ListN.{take, drop}
use Rattle.spans.specs.Plain.{any_special}
use Rattle.spans.proofs.plain.is_block.Given as goal

abbrev pub invariant-loop-k : goal.invariant-loop-k
invariant-loop-k l = l.any ≡ any_special l.stop (take l.k (drop l.at l.src))
