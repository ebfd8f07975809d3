-- `quantity::base_of` meets its contract: by the first two bytes.
use mathlib.Core.Path.{ap₂, ◌∙◌}
use Rattle.quantity.specs.Text.{base_by, base_of}
use Rattle.quantity.proofs.base_of.Goals as goal

pub returns : goal.returns
unfolding base_of
returns c = c.base_by.ensures ∙ ap₂ base_by c.byte.ensures c.byte-2.ensures
