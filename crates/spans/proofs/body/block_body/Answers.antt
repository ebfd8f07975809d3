use Prim.Native.Char.{code}
use mathlib.Core.Path.{refl, sym, ◌∙◌}
use mathlib.Core.Bool.{false}
use native.Mathlib.Omega.{arith}
use borrow.Author.Tests.{not-true}
use lib.Dec.{eqb}
use lib.ListN.{get_or}
use Rattle.basics.proofs.Choice.{and_split}
use Rattle.spans.specs.Span.{to_star_slash}
use Rattle.spans.specs.Plain.{PlainRun}
use Rattle.spans.proofs.Bodies.{part_start, part_end, part_last, grown_end, part_next, slash_last, slash_more}
use Rattle.spans.proofs.Blocks.{block_true, part_plain, slash_on}
use Rattle.spans.proofs.body.block_body.Goals as goal
use Rattle.spans.proofs.body.block_body.Goals.{Then-is_block}

pub loop-body-init : goal.loop-body-init
loop-body-init c = part_start (to_star_slash false) _ _ _ c.empty-body.ensures

-- the block that was found lies within the text
found : (c : Then-is_block)
    → PlainRun (code "*") c.args.src.now c.loop-body.body.end 16
found c = block_true _ _ _ (sym c.is_block.ensures ∙ c.if-is_block.true)

pub loop-body-preserved-then-is_block : goal.loop-body-preserved-then-is_block
loop-body-preserved-then-is_block c =
    let a = c.args in
    let s = a.src.now in
    part_plain _ (to_star_slash c.loop-body.star) (code "*") s (slash_on c.loop-body.star (not-true _ (and_split _ _ c.if-star-tried.true).0) s)
    16 c.loop-body.body (found (goal.at.loop-body-preserved-then-is_block c).Then-is_block) c.loop-body.invariant

pub returns-then-closes : goal.returns-then-closes
returns-then-closes c =
    let more = c.loop-body-test.true in
    part_last _ _ _ _ c.loop-body.invariant more _ _ c.grow-body.ensures c.if-closes.true
    (λ r. slash_last _ _ more r _ c.if-closes.true)

pub loop-body-smaller : goal.loop-body-smaller
loop-body-smaller c =
    let more = c.loop-body-test.true in
    omega (arith, grown_end _ _ _ _ c.loop-body.invariant more _ _ c.grow-body.ensures)

pub loop-body-preserved : goal.loop-body-preserved
loop-body-preserved c =
    let more = c.loop-body-test.true in
    part_next _ _ _ _ c.loop-body.invariant more _ _ c.grow-body.ensures c.if-closes.false
    (to_star_slash (eqb (get_or c.args.src.now c.loop-body.body.end 0) (code "*")))
    (λ r. slash_more _ _ more r _ c.if-closes.false)

pub returns : goal.returns
unfolding to_star_slash
returns c = part_end _ _ _ _ c.loop-body.invariant refl c.loop-body-test.false
