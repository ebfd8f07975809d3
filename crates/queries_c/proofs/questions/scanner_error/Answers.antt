-- `questions::scanner_error` meets its contract: the state in the numbers is asked.
use Rattle.refusal.proofs.InNumbers.{in_numbers}
use Rattle.queries_c.specs.Steps.{optional_numbers}
use Rattle.queries_c.specs.Questions.{error_numbers}
use Rattle.queries_c.proofs.Answering.{found}
use Rattle.queries_c.proofs.questions.scanner_error.Goals as goal

pub returns : goal.returns
unfolding error_numbers
returns c =
    let answer = c.args.answer.now in
    let e = in_numbers optional_numbers _ _ c.map-outcome.ensures.cases answer in
    rw (c.answered.ensures, e, found c.error.result answer, c.error.ensures, c.state_in.ensures)
