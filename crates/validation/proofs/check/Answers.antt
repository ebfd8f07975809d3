use Prim.Native.Nat.{◌+◌, ◌≤◌}
use mathlib.Core.Path.{◌≡◌, sym, ◌∙◌}
use mathlib.Core.Bool.{true}
use native.Mathlib.Omega.{arith}
use lib.ListN.{length, take, drop}
use Rattle.validation.specs.Steps.{all_ascii}
use Rattle.utf8.proofs.First.{there_least, there_fits}
use Rattle.validation.proofs.AsciiBlock.{block_true}
use Rattle.validation.proofs.Answer.{checked_end, checked_next, checked_bad, checked_ascii}
use Rattle.validation.proofs.check.Goals as goal
use Rattle.validation.proofs.check.Goals.{Else-is_stray, Then-is_block}

-- the block that was found lies within the text
found : (c : Then-is_block)
    → (c.loop-at.at + 32 ≤ length c.args.s.now)
    × (all_ascii (take 32 (drop c.loop-at.at c.args.s.now)) ≡ true)
found c = block_true _ _ (sym c.is_block.ensures ∙ c.if-is_block.true)

pub loop-at-preserved-then-is_block : goal.loop-at-preserved-then-is_block
loop-at-preserved-then-is_block c =
    ((found (goal.at.loop-at-preserved-then-is_block c).Then-is_block).0, omega arith, c.loop-at.invariant.2 ∙ checked_ascii 32 c.args.s.now c.loop-at.at c.loop-at.count (found (goal.at.loop-at-preserved-then-is_block c).Then-is_block).0 (found (goal.at.loop-at-preserved-then-is_block c).Then-is_block).1)

pub returns-then-is_stray : goal.returns-then-is_stray
returns-then-is_stray c =
    let r = c.char_at-c in
    sym (c.loop-at.invariant.2 ∙ checked_bad c.args.s.now c.loop-at.at r.result c.loop-at-test.true r.ensures
    c.loop-at.count (sym c.is_stray.ensures ∙ c.if-is_stray.true))

-- the character that was read: it is within the text, and takes a byte or more
fits : (c : Else-is_stray)
    → c.loop-at.at + c.char_at-c.result.width ≤ length c.args.s.now
fits c =
    let r = c.char_at-c in
    there_fits _ _ r.result c.loop-at-test.true r.ensures

least : (c : Else-is_stray) → 1 ≤ c.char_at-c.result.width
least c =
    let r = c.char_at-c in
    there_least _ _ r.result c.loop-at-test.true r.ensures

pub overflow_add-at-in-loop-at : goal.overflow_add-at-in-loop-at
overflow_add-at-in-loop-at c = omega (arith, fits (goal.at.overflow_add-at-in-loop-at c).Else-is_stray)

pub loop-at-smaller : goal.loop-at-smaller
loop-at-smaller c = omega (arith, fits (goal.at.loop-at-smaller c).Else-is_stray, least (goal.at.loop-at-smaller c).Else-is_stray)

pub loop-at-preserved : goal.loop-at-preserved
loop-at-preserved c =
    let r = c.char_at-c in (
      fits (goal.at.loop-at-preserved c).Else-is_stray,
      omega (arith, least (goal.at.loop-at-preserved c).Else-is_stray),
      c.loop-at.invariant.2 ∙ checked_next c.args.s.now c.loop-at.at r.result c.loop-at-test.true r.ensures
          c.loop-at.count (sym c.is_stray.ensures ∙ c.if-is_stray.false),
    )

pub returns : goal.returns
returns c =
    sym (c.loop-at.invariant.2 ∙ checked_end c.args.s.now c.loop-at.at c.loop-at.count c.loop-at-test.false)
