-- `token::answer_part` meets its contract: the part in the numbers is given where it lies in its buffer.
use Rattle.queries_c.proofs.Answering.{part_shown}
use Rattle.queries_c.proofs.token.answer_part.Goals as goal

pub returns : goal.returns
returns c =
    let a = c.args in
    let e = part_shown a.src.now a.area.now c.part_in-part.result c.shown.result c.shown.ensures a.answer.now in
    rw (c.answered.ensures, c.and-outcome.ensures, c.part_numbers.ensures, e, c.part_in-part.ensures)
