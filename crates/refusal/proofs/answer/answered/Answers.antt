-- `answer::answered` meets its contract: past the test of lengths the numbers fit the answer.
use native.Mathlib.Omega.{arith}
use Rattle.refusal.proofs.Lengths.{long_enough}
use Rattle.refusal.proofs.answer.answered.Goals as goal

pub put-requires : goal.put-requires
put-requires g c =
    let long = (long_enough _ _ _ _ c.too_short.ensures c.if-too_short.false).1 in
    (omega (arith, long), long)
