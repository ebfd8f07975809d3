-- `questions::scanner_position` meets its contract: the state in the numbers is asked.
use mathlib.Core.List.{[], ◌∷◌}
use Rattle.position.specs.declared.Position.{Position}
use Rattle.refusal.proofs.InNumbers.{in_numbers}
use Rattle.queries_c.specs.Questions.{position_numbers}
use Rattle.queries_c.proofs.questions.scanner_position.Goals as goal

pub returns : goal.returns
unfolding position_numbers
returns c =
    let e = in_numbers (λ (q : Position). q.offset ∷ q.line ∷ q.column ∷ []) _ _ c.map-outcome.ensures.cases c.args.answer.now in
    rw (c.answered.ensures, e, c.position.ensures, c.state_in.ensures)
