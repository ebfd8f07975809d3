use borrow.Author.Rules.{rules}
use Rattle.swar.proofs.Marks.{byte_each}
use Rattle.swar.proofs.mark_byte.Goals as goal

pub returns : goal.returns
returns c = rw c.repeated.ensures (byte_each c.args.eight (search rules) c.args.byte (search rules))
