use Prim.Native.Nat.{◌+◌}
use mathlib.Core.Path.{sym, ◌∙◌}
use native.Mathlib.Omega.{arith}
use borrow.Author.Tests.{leb-false}
use lib.ListN.{length}
use Rattle.words.proofs.Marks.{word_skip, run_room}
use Rattle.words.proofs.word_end.Goals as goal

pub loop-n-preserved : goal.loop-n-preserved
loop-n-preserved c =
    let skip = word_skip c.args.src.now 8 c.loop-n.p (omega (arith, c.run_at-n.ensures)) in
    omega (arith, c.loop-n.invariant, skip)

pub overflow_add-result-2 : goal.overflow_add-result-2
overflow_add-result-2 c = omega (arith, run_room c.args.src.now c.loop-n.p, c.run_at.ensures)

pub returns : goal.returns
returns c =
    omega (
      arith,
      c.loop-n.invariant,
      run_room c.args.src.now c.loop-n.p,
      c.run_at.ensures,
      leb-false (c.loop-n.p + 8) (length c.args.src.now) (sym c.has_eight.ensures ∙ c.loop-n-test.false),
    )
