-- `questions::scanner_line_start` meets its contract: the state in the numbers is asked.
use Prim.Native.Nat.{ℕ}
use mathlib.Core.List.{[], ◌∷◌}
use Rattle.refusal.proofs.InNumbers.{in_numbers}
use Rattle.queries_c.specs.Questions.{line_start_numbers}
use Rattle.queries_c.proofs.questions.scanner_line_start.Goals as goal

pub returns : goal.returns
unfolding line_start_numbers
returns c =
    let e = in_numbers (λ (start : ℕ). start ∷ []) _ _ c.map-outcome.ensures.cases c.args.answer.now in
    rw (c.answered.ensures, e, c.line_start.ensures, c.state_in.ensures)
