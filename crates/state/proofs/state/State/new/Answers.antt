-- `State::new` meets its contract by computing.
use mathlib.Core.Path.{refl}
use Rattle.state.specs.State.{fresh}
use Rattle.state.proofs.state.State.new.Goals as goal

pub returns : goal.returns
unfolding fresh
returns c = refl
