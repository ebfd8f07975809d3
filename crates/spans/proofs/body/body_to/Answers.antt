use mathlib.Core.Path.{refl, sym, ◌∙◌}
use native.Mathlib.Omega.{arith}
use lib.ListN.{drop}
use borrow.Author.Tests.{eq-eqb, ne_eqb}
use Rattle.utf8.specs.Chars.{chars}
use Rattle.spans.specs.Span.{to_stop}
use Rattle.spans.specs.Body.{stop_body}
use Rattle.spans.specs.Plain.{PlainRun}
use Rattle.spans.proofs.Bodies.{PartRead, part_start, part_end, part_last, grown_end, part_next, stop_last, stop_more}
use Rattle.spans.proofs.Blocks.{block_true, skipped, part_plain}
use Rattle.spans.proofs.body.body_to.Goals as goal
use Rattle.spans.proofs.body.body_to.Goals.{After-run_len-n, Then-is_block}

pub loop-body-init : goal.loop-body-init
loop-body-init c = part_start (to_stop c.args.stop) _ _ _ c.empty-body.ensures

-- the block that was found
found : (c : Then-is_block)
    → let a = c.args in
    PlainRun a.stop a.src.now c.loop-body.body.end 16
found c = block_true _ _ _ (sym c.is_block.ensures ∙ c.if-is_block.true)

pub loop-body-preserved-then-is_block : goal.loop-body-preserved-then-is_block
loop-body-preserved-then-is_block c =
    let a = c.args in
    let s = a.src.now in
    part_plain _ (to_stop a.stop) a.stop s (λ p h e r. stop_more s p h r a.stop c.requires e)
    16 c.loop-body.body (found (goal.at.loop-body-preserved-then-is_block c).Then-is_block) c.loop-body.invariant

-- after the run that was found the whole is the same
after_run : (c : After-run_len-n)
    → let a = c.args in
    PartRead (stop_body a.stop a.at (chars (drop a.at a.src.now))) (to_stop a.stop) a.src.now (skipped c.loop-body.body c.run_len-n.result)
after_run c =
    let a = c.args in
    let s = a.src.now in
    part_plain _ (to_stop a.stop) a.stop s (λ p h e r. stop_more s p h r a.stop c.requires e)
    c.run_len-n.result c.loop-body.body c.run_len-n.ensures.0 c.loop-body.invariant

pub returns-then-closes : goal.returns-then-closes
returns-then-closes c =
    let more = c.run_len-n.ensures.1 c.if-n-lt8.true in
    let e = eq-eqb _ _ c.if-closes.true in
    part_last _ _ _ _ (after_run (goal.at.returns-then-closes c).After-run_len-n) more _ _ c.grow-body.ensures e (λ r. stop_last _ _ more r _ c.requires e)

pub loop-body-smaller-else-closes : goal.loop-body-smaller-else-closes
loop-body-smaller-else-closes c =
    let more = c.run_len-n.ensures.1 c.if-n-lt8.true in
    omega (arith, grown_end _ _ _ _ (after_run (goal.at.loop-body-smaller-else-closes c).After-run_len-n) more _ _ c.grow-body.ensures)

pub loop-body-preserved-else-closes : goal.loop-body-preserved-else-closes
loop-body-preserved-else-closes c =
    let more = c.run_len-n.ensures.1 c.if-n-lt8.true in
    let e = ne_eqb _ _ c.if-closes.false in
    part_next _ _ _ _ (after_run (goal.at.loop-body-preserved-else-closes c).After-run_len-n) more _ _ c.grow-body.ensures e
    (to_stop c.args.stop)
    (λ r. stop_more _ _ more r _ c.requires e)

pub loop-body-preserved : goal.loop-body-preserved
loop-body-preserved c = after_run (goal.at.loop-body-preserved c).After-run_len-n

pub returns : goal.returns
unfolding to_stop
returns c = part_end _ _ _ _ c.loop-body.invariant refl c.loop-body-test.false
