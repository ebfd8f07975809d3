-- `step::next_simple` meets its contract: a token that is given is one step of the run.
use Prim.Native.Nat.{◌+◌, ◌-◌, ◌<◌, ◌^◌}
use native.Mathlib.Omega.{arith}
use Rattle.batch.proofs.Runs.{position_small, safe_inside}
use Rattle.batch.proofs.step.next_simple.Goals as goal
use Rattle.batch.proofs.step.next_simple.Goals.{In_ok-blanks}

-- the position of a token after the blanks
small : (c : In_ok-blanks) → let f = c.args.first in f.base + f.offset + (c.in_ok-blanks.blanks.end - f.place) < 2 ^ 32
small c =
    let a = c.args in
    let p = c.requires in
    let e = c.in_ok-blanks.ensures in
    position_small a.src.now a.first a.safe p.2 a.table.now a.list.now a.at p.1 p.0 c.in_ok-blanks.blanks e.0 e.1.0

pub overflow_add-start : goal.overflow_add-start
overflow_add-start c = omega (arith, small (goal.at.overflow_add-start c).In_ok-blanks)

pub overflow_add-start-2 : goal.overflow_add-start-2
overflow_add-start-2 c = omega (arith, small (goal.at.overflow_add-start-2 c).In_ok-blanks)

pub invariant_of-start-clause-inside : goal.invariant_of-start-clause-inside
invariant_of-start-clause-inside c =
    let a = c.args in
    let p = c.requires in
    let e = c.in_ok-blanks.ensures in
    safe_inside a.src.now a.first a.safe p.2 a.table.now a.list.now a.at p.1 p.0 c.in_ok-blanks.blanks e.0 e.1.0

pub invariant_of-start-clause-bytes : goal.invariant_of-start-clause-bytes
invariant_of-start-clause-bytes c = λ p. (c.type_inv.src p).fits
