-- `encoding::digit_of` meets its contract: each arm is a case of the definition.
use native.Mathlib.Omega.{arith}
use Rattle.std.proofs.lemmas.Grind.{common_steps}
use Rattle.encoding.specs.Steps.{digit}
use Rattle.encoding.proofs.digit_of.Goals as goal

pub returns-in-0 : goal.returns-in-0
unfolding digit
returns-in-0 c = rw c.in-0.is

pub returns-in-1 : goal.returns-in-1
unfolding digit
returns-in-1 c = rw c.in-1.is

pub returns-in-2 : goal.returns-in-2
unfolding digit
returns-in-2 c = rw c.in-2.is

pub returns-in_default : goal.returns-in_default
unfolding digit
returns-in_default c = grind (arith, common_steps)
