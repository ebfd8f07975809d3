-- The same sum, of a length within 64.
use Rattle.keywords.proofs.Slots.{slot_reduced}
use Rattle.keywords.proofs.slot_of.Goals as goal

pub returns : goal.returns
returns c = slot_reduced c.args.number c.args.n
