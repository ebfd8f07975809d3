-- `spans::body::grow` meets its contract: by whether the byte is ASCII.
use mathlib.Core.Path.{ap, ◌∙◌}
use native.Mathlib.Omega.{arith}
use Rattle.utf8.proofs.First.{there_fits}
use Rattle.utf8.specs.Count.{one}
use Rattle.spans.proofs.Counts.{byte_one}
use Rattle.spans.proofs.Bodies.{grown_ascii, grown_wide}
use Rattle.spans.proofs.body.grow.Goals as goal

pub returns-then-b-lt128 : goal.returns-then-b-lt128
returns-then-b-lt128 c =
    grown_ascii c.args.src.now c.args.body c.requires.0 c.args.last c.if-b-lt128.true _ _ (c.from.ensures ∙ byte_one _) (c.from-then-b-lt128.ensures ∙ byte_one _)

pub overflow_add-end-2 : goal.overflow_add-end-2
overflow_add-end-2 c =
    let r = c.char_at-c in
    omega (arith, there_fits _ _ r.result c.requires.0 r.ensures)

pub returns : goal.returns
returns c =
    let r = c.char_at-c in
    grown_wide c.args.src.now c.args.body c.requires.0 c.args.last c.if-b-lt128.false r.result r.ensures _
    (c.from-2.ensures ∙ byte_one _ ∙ ap one c.is_stray.ensures)
