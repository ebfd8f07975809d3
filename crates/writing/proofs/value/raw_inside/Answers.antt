-- `writing::value::raw_inside` meets its contract.
use native.Mathlib.Omega.{arith}
use Rattle.writing.proofs.Raw.{raw_some, raw_closed, raw_open}
use Rattle.writing.proofs.value.raw_inside.Goals as goal

pub overflow_sub-result : goal.overflow_sub-result
overflow_sub-result c =
    let b = c.raw_body-body in
    omega (arith, raw_some _ _ b.result b.ensures c.if-body.true)

pub returns-then-body : goal.returns-then-body
returns-then-body c =
    let b = c.raw_body-body in
    raw_closed _ _ b.result b.ensures c.if-body.true

pub returns-else-body : goal.returns-else-body
returns-else-body c =
    let b = c.raw_body-body in
    raw_open _ _ b.result b.ensures c.if-body.false
