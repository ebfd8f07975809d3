-- `quotes::plain::stops` meets its contract: each byte is marked by itself.
use mathlib.Core.Path.{ap, ◌∙◌}
use Rattle.swar.specs.Lanes.{lanes}
use Rattle.swar.specs.Marks.{mark}
use lib.Dec.{eqb}
use Rattle.quotes.specs.Steps.{quote_code}
use Rattle.quotes.proofs.Stops.{stops_each}
use Rattle.quotes.proofs.plain.stops.Goals as goal

pub returns : goal.returns
returns c =
    let a = c.args in
    stops_each (quote_code a.quote) a.eight c.mark_byte.result c.mark_byte-2.result c.mark_byte-3.result c.mark_high.result
    (c.mark_byte.ensures ∙ ap (λ x. lanes 8 (mark (λ b. eqb b x)) a.eight) c.byte.ensures) c.mark_byte-2.ensures c.mark_byte-3.ensures c.mark_high.ensures
