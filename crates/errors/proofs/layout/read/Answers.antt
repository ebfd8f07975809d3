-- `layout::read` meets its contract: each number is read where the layout has it.
use mathlib.Core.Path.{refl}
use Rattle.errors.specs.Layout.{record_at}
use Rattle.errors.proofs.layout.read.Goals as goal

pub returns : goal.returns
unfolding record_at
returns c = refl
