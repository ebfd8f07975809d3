use mathlib.Core.Path.{◌≡◌, sym}
use native.Mathlib.Omega.{arith}
use Rattle.spans.proofs.Blocks.{any_more, block_short, block_there}
use Rattle.spans.proofs.plain.is_block.Goals as goal

pub returns-then-src-lt16 : goal.returns-then-src-lt16
returns-then-src-lt16 c = sym (block_short c.args.stop c.args.src.now c.args.at (omega arith))

pub returns-then-src-at : goal.returns-then-src-at
returns-then-src-at c = sym (block_short c.args.stop c.args.src.now c.args.at (omega arith))

pub loop-k-preserved : goal.loop-k-preserved
loop-k-preserved c =
    let a = c.args in
    any_more a.stop a.src.now a.at c.loop-k.k c.loop-k.any (omega arith) c.loop-k.invariant

pub returns : goal.returns
returns c =
    let a = c.args in
    let e : c.loop-k.k ≡ 16 = omega arith in
    block_there a.stop a.src.now a.at _ (omega arith) (rw e at c.loop-k.invariant)
