-- `encoding::lead_of` meets its contract: each arm is a case of the definition.
use native.Mathlib.Omega.{arith}
use Rattle.std.proofs.lemmas.Grind.{common_steps}
use Rattle.encoding.specs.Steps.{lead}
use Rattle.encoding.proofs.lead_of.Goals as goal

pub returns-in-1 : goal.returns-in-1
unfolding lead
returns-in-1 c = rw c.in-1.is

pub returns-in-2 : goal.returns-in-2
unfolding lead
returns-in-2 c = rw c.in-2.is

pub returns-in-3 : goal.returns-in-3
unfolding lead
returns-in-3 c = rw c.in-3.is

pub returns-in_default : goal.returns-in_default
unfolding lead
returns-in_default c = grind (arith, common_steps)
