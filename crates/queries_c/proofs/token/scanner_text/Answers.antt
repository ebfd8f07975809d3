-- `token::scanner_text` meets its contract: the part of the text is answered.
use Rattle.queries_c.specs.Parts.{text_numbers}
use Rattle.queries_c.proofs.token.scanner_text.Goals as goal

pub returns : goal.returns
unfolding text_numbers
returns c = c.answer_part.ensures
