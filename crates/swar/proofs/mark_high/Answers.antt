use borrow.Author.Rules.{rules}
use Rattle.swar.proofs.Marks.{high_each}
use Rattle.swar.proofs.mark_high.Goals as goal

pub returns : goal.returns
returns c = high_each c.args.eight (search rules)
