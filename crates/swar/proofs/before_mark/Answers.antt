use Rattle.swar.proofs.Trailing.{zeros_before}
use Rattle.swar.proofs.before_mark.Goals as goal

pub returns : goal.returns
returns c = zeros_before 8 c.args.marks
