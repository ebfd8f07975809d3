-- `layout::error_numbers` meets its contract: an error that is not there has four zeros.
use mathlib.Core.Path.{ap, ◌∙◌}
use Rattle.errors.specs.Layout.{numbers}
use Rattle.queries_c.proofs.Answering.{optional}
use Rattle.queries_c.proofs.layout.error_numbers.Goals as goal

pub returns : goal.returns
unfolding numbers
returns c = c.numbers.ensures ∙ ap numbers c.unwrap_or-e.ensures ∙ optional c.args.error
