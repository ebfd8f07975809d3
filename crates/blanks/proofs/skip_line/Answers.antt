-- `blanks::skip_line` meets its contract: a line feed, the tabs after it, and what is no blank.
use Prim.Native.Nat.{◌+◌, ◌<◌}
use Prim.Native.Char.{code}
use mathlib.Core.Path.{◌≡◌, sym, ◌∙◌}
use mathlib.Core.Bool.{true, not}
use native.Mathlib.Omega.{arith}
use borrow.Author.Tests.{not-true, eqb-true}
use lib.Dec.{eqb}
use lib.ListN.{length, get_or}
use Rattle.std.specs.Prelude.{Some, None}
use Rattle.basics.proofs.Choice.{and_split}
use Rattle.basics.proofs.Lists.{reach}
use Rattle.swar.proofs.Runs.{run_few, run_each}
use Rattle.blanks.specs.Blank.{is_blank}
use Rattle.blanks.proofs.Blanks.{from, joined_start, blank_above, feed_blank, step_none, step_feed, step_tabs}
use Rattle.blanks.proofs.skip_line.Goals as goal
use Rattle.blanks.proofs.skip_line.Goals.{Then-byte-mark}

-- the first test
module _ (c : Then-byte-mark) where
  tests : (eqb c.byte.result (code "\n") ≡ true) × (not c.args.mark ≡ true)
  tests = and_split (eqb c.byte.result (code "\n")) (not c.args.mark) c.if-byte-mark.true

  feed : get_or c.args.src.now c.args.at 0 ≡ code "\n"
  feed = sym c.byte.ensures ∙ eqb-true _ _ tests.0

  there : c.args.at < length c.args.src.now
  there = reach c.args.src.now c.args.at (omega (arith, feed))

pub overflow_add-line : goal.overflow_add-line
overflow_add-line c = omega (arith, there (goal.at.overflow_add-line c).Then-byte-mark)

pub overflow_add-end : goal.overflow_add-end
overflow_add-end c = omega (arith, there (goal.at.overflow_add-end c).Then-byte-mark, c.run_of.ensures, run_few (code "\t") c.args.src.now 8 (c.args.at + 1))

pub returns-then-byte-gt32 : goal.returns-then-byte-gt32
returns-then-byte-gt32 c =
    let a = c.args in
    let n = c.run_of.result in
    let blank : is_blank a.mark (get_or a.src.now a.at 0) ≡ true = rw (feed (goal.at.returns-then-byte-gt32 c).Then-byte-mark, not-true a.mark (tests (goal.at.returns-then-byte-gt32 c).Then-byte-mark).1) feed_blank in
    sym (
    joined_start a.at (from a.mark a.src.now a.at)
    ∙ step_feed a.mark a.src.now a.at 0 None blank (feed (goal.at.returns-then-byte-gt32 c).Then-byte-mark)
    ∙ step_tabs a.mark a.src.now n (a.at + 1) 1 (Some (a.at + 1)) (λ i l. run_each (code "\t") a.src.now 8 (a.at + 1) i (omega (arith, c.run_of.ensures, l)))
    ∙ step_none a.mark a.src.now (a.at + 1 + n) 1 (Some (a.at + 1)) (blank_above a.mark _ (rw c.byte-then-byte-mark.ensures at c.if-byte-gt32.true))
    )
