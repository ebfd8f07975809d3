-- `write::write_value` meets its contract, one way of making the value after the other.
use mathlib.Core.Path.{◌∙◌}
use Rattle.scanner.proofs.Areas.{said_value}
use Rattle.scanner.proofs.write.write_value.Goals as goal

pub returns-in-Empty : goal.returns-in-Empty
returns-in-Empty c = said_value _ _ _ _ _ c.in-Empty.is

pub returns-in-Interpreted : goal.returns-in-Interpreted
returns-in-Interpreted c = c.write_interpreted.ensures ∙ said_value _ _ _ _ _ c.in-Interpreted.is

pub returns-in-Raw : goal.returns-in-Raw
returns-in-Raw c = c.write_raw.ensures ∙ said_value _ _ _ _ _ c.in-Raw.is
