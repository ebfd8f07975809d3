use mathlib.Core.Path.{ap, ◌∙◌}
use native.Mathlib.Omega.{arith}
use lib.Seq.{sets}
use Rattle.writing.proofs.Areas.{left_as, finished}
use Rattle.writing.proofs.Spellings.{number_text_lem, spelled_next, spelled_end}
use Rattle.writing.proofs.number.write_number.Goals as goal

pub loop-k-init : goal.loop-k-init
loop-k-init c = ap (sets c.args.area.now c.args.to) (number_text_lem c.args.spelling c.bytes_at-b-items.result.now)

pub loop-k-preserved : goal.loop-k-preserved
loop-k-preserved c =
    let l = c.loop-k in
    left_as l.area l.n l.invariant (spelled_next c.args.spelling l.k c.bytes_at-b-items.result.now (omega arith)) ∙ c.put_spelled-n.ensures _

pub returns : goal.returns
returns c =
    let l = c.loop-k in
    rw c.bytes_at-b-items.ensures at (finished l.area l.n l.invariant (spelled_end c.args.spelling l.k c.bytes_at-b-items.result.now (omega arith)))
