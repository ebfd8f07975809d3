use Prim.Native.Nat.{◌+◌, ◌-◌}
use mathlib.Core.Path.{◌≡◌, sym}
use native.Mathlib.Omega.{arith}
use Rattle.validation.proofs.AsciiBlock.{ascii_is, block_short, block_there}
use Rattle.validation.proofs.ascii.is_block.Goals as goal

pub returns-then-s-lt32 : goal.returns-then-s-lt32
returns-then-s-lt32 c = sym (block_short c.args.s.now c.args.at (omega arith))

pub returns-then-s-at : goal.returns-then-s-at
returns-then-s-at c = sym (block_short c.args.s.now c.args.at (omega arith))

pub returns : goal.returns
returns c =
    let a = c.args in
    let long : a.at + 32 - a.at ≡ 32 = omega arith in
    sym (block_there a.s.now a.at _ (omega arith) (rw long at (ascii_is _ c.is_ascii.result c.is_ascii.ensures.cases)))
