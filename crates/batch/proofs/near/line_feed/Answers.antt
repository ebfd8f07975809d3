-- `batch::near::line_feed` meets its contract: under the mark the line feed is no blank; else the tabs after it are, and what follows is tested.
use Prim.Native.Nat.{◌+◌}
use native.Mathlib.Omega.{arith}
use Rattle.swar.proofs.Runs.{run_few, run_each}
use Rattle.blanks.proofs.Blanks.{stop_test}
use Rattle.batch.proofs.Spaces.{near_stop, near_line}
use Rattle.batch.proofs.near.line_feed.Goals as goal

pub returns-then-mark : goal.returns-then-mark
returns-then-mark c =
    let a = c.args in
    let h = c.requires in
    near_stop a.mark a.src.now a.at a.p h.2 (stop_test a.mark _ (rw (h.1, c.if-mark.true)))

pub overflow_add-end : goal.overflow_add-end
overflow_add-end c = omega (arith, c.run_of.ensures, run_few 9 c.args.src.now 8 (c.args.p + 1))

pub bounds-src-end : goal.bounds-src-end
bounds-src-end c = omega (arith, c.run_of.ensures, run_few 9 c.args.src.now 8 (c.args.p + 1))

pub returns : goal.returns
returns c =
    let a = c.args in
    near_line a.mark a.src.now a.at a.p c.requires.2 c.if-mark.false c.requires.1 _ (λ i l. run_each 9 a.src.now 8 (a.p + 1) i (omega (arith, c.run_of.ensures, l))) c.if-src-end-le32.false
