-- `write::write_text` meets its contract, one way of making the text after the other.
use mathlib.Core.Path.{◌∙◌}
use Rattle.scanner.proofs.Areas.{said_text}
use Rattle.scanner.proofs.write.write_text.Goals as goal

pub returns-in-Empty : goal.returns-in-Empty
returns-in-Empty c = said_text _ _ _ _ _ c.in-Empty.is

pub returns-in-AsRead : goal.returns-in-AsRead
returns-in-AsRead c = c.write_encoded.ensures ∙ said_text _ _ _ _ _ c.in-AsRead.is

pub returns-in-Number : goal.returns-in-Number
returns-in-Number c = c.write_number.ensures ∙ said_text _ _ _ _ _ c.in-Number.is

pub returns-in-WithoutCr : goal.returns-in-WithoutCr
returns-in-WithoutCr c = c.write_clean.ensures ∙ said_text _ _ _ _ _ c.in-WithoutCr.is

pub returns-in-WithLf : goal.returns-in-WithLf
returns-in-WithLf c = c.write_line.ensures ∙ said_text _ _ _ _ _ c.in-WithLf.is
