-- `writing::put::put` meets its contract.
use Rattle.writing.proofs.Areas.{no_byte}
use Rattle.writing.proofs.put.put.Goals as goal

pub returns : goal.returns
returns c = no_byte c.args.area.now c.args.to c.args.b c.if-to-area.false
