-- `File::in_range` meets its contract: size ≤ MAX_POSITION - base says that base + size ≤ MAX_POSITION where base does not pass it.
use Prim.Native.Nat.{◌+◌, ◌-◌}
use native.Mathlib.Omega.{arith}
use Rattle.position.specs.Place.{max_position, in_range}
use Rattle.basics.proofs.Tests.{same_le}
use Rattle.position.proofs.File.in_range.Goals as goal

pub returns-then-self-le-MAX_POSITION : goal.returns-then-self-le-MAX_POSITION
unfolding in_range
returns-then-self-le-MAX_POSITION c =
    let f = c.args.self in
    same_le f.size (max_position - f.base) (f.base + f.size) max_position (λ h. omega arith) (λ h. omega arith)

pub returns-else-self-le-MAX_POSITION : goal.returns-else-self-le-MAX_POSITION
unfolding in_range
returns-else-self-le-MAX_POSITION c =
    let f = c.args.self in
    same_le f.base max_position (f.base + f.size) max_position (λ h. omega arith) (λ h. omega arith)
