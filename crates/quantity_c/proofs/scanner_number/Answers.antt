-- `scanner_number` meets its contract: the token in the numbers is asked for its number.
use Rattle.refusal.proofs.InNumbers.{in_numbers}
use Rattle.quantity_c.specs.Number.{quantity_numbers, number_numbers}
use Rattle.quantity_c.proofs.Kind.{kind_asked}
use Rattle.quantity_c.proofs.scanner_number.Goals as goal

pub returns : goal.returns
unfolding number_numbers
returns c =
    let e = in_numbers quantity_numbers _ _ c.map-outcome.ensures.cases c.args.answer.now in
    rw (c.answered.ensures, e, c.number.ensures, c.kind_of-kind.ensures, kind_asked, c.number_at.ensures, c.part_in-text.ensures)
