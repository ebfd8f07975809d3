-- `token::scanner_value` meets its contract: the part of the value is answered.
use Rattle.queries_c.specs.Parts.{value_numbers}
use Rattle.queries_c.proofs.token.scanner_value.Goals as goal

pub returns : goal.returns
unfolding value_numbers
returns c = c.answer_part.ensures
