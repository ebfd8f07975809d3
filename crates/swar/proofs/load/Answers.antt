-- `swar::load` meets its contract: the bytes in their places.
use mathlib.Core.Path.{sym, ◌∙◌}
use Rattle.swar.proofs.Numbers.{number_eight}
use Rattle.swar.proofs.load.Goals as goal

pub returns : goal.returns
returns c = let a = c.args in c.from_le_bytes.ensures ∙ sym (number_eight a.s.now a.at)
