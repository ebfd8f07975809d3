-- `quotes::plain::plain_at` meets its contract.
use mathlib.Core.Path.{ap, ◌∙◌}
use Rattle.swar.specs.Lanes.{lanes}
use Rattle.swar.specs.Marks.{before_mark}
use Rattle.quotes.specs.Steps.{quote_code, stop_mark}
use Rattle.quotes.proofs.Stops.{run_marked}
use Rattle.quotes.proofs.plain.plain_at.Goals as goal

pub returns : goal.returns
returns c =
    let a = c.args in
    c.before_mark.ensures
    ∙ ap (before_mark 8) (c.stops.ensures ∙ ap (lanes 8 (stop_mark (quote_code a.quote))) c.eight.ensures)
    ∙ run_marked (quote_code a.quote) a.src.now (λ i. (c.type_inv.src i).fits) 8 a.at c.requires
