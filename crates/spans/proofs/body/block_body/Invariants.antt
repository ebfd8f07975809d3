-- `spans::body::block_body` meets its contract. The loop's invariant: what was read and what is left make the whole.
use Prim.Native.Nat.{◌-◌}
use lib.ListN.{length, drop}
use Rattle.utf8.specs.Chars.{chars}
use Rattle.spans.specs.Span.{to_star_slash}
use Rattle.spans.specs.Body.{block_body}
use Rattle.spans.proofs.Bodies.{PartRead}
use Rattle.spans.proofs.body.block_body.Given as goal

abbrev pub invariant-loop-body : goal.invariant-loop-body
invariant-loop-body l = PartRead (block_body l.at (chars (drop l.at l.src))) (to_star_slash l.star) l.src l.body

abbrev pub decreases-loop-body : goal.decreases-loop-body
decreases-loop-body l = length l.src - l.body.end
