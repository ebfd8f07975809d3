-- `spans::line::blank_to_end` meets its contract: by what is left of the text after the place.
use mathlib.Core.Path.{◌∙◌}
use Rattle.spans.proofs.Lines.{blank_left}
use Rattle.spans.proofs.line.blank_to_end.Goals as goal

pub returns : goal.returns
returns c = c.is_blank_line.ensures ∙ blank_left c.args.src.now c.args.at c.min.result c.min.ensures
