-- `File::pos` meets its contract: base + offset is at most base + size.
use Prim.Native.Nat.{◌+◌}
use mathlib.Core.Path.{◌≡◌, sym, ◌∙◌}
use mathlib.Core.Bool.{true}
use native.Mathlib.Omega.{arith}
use borrow.Author.Tests.{leb-true}
use Rattle.position.specs.Place.{max_position, in_range}
use Rattle.position.proofs.Queries.{pos_unplaced, pos_outside, pos_gave}
use Rattle.position.proofs.File.pos.Goals as goal
use Rattle.position.proofs.File.pos.Goals.{Else-not-in_range}

pub returns-then-not-in_range : goal.returns-then-not-in_range
returns-then-not-in_range c = sym (pos_unplaced _ _ (sym c.in_range.ensures ∙ c.if-not-in_range.true))

-- past the first test the file is in range
ok : (c : Else-not-in_range) → in_range c.args.self ≡ true
ok c = sym c.in_range.ensures ∙ c.if-not-in_range.false

pub returns-then-offset-self : goal.returns-then-offset-self
returns-then-offset-self c = sym (pos_outside _ _ (ok (goal.at.returns-then-offset-self c).Else-not-in_range) c.if-offset-self.true)

pub overflow_add-result : goal.overflow_add-result
unfolding in_range
overflow_add-result c =
    let f = c.args.self in
    omega (arith, leb-true (f.base + f.size) max_position (ok (goal.at.overflow_add-result c).Else-not-in_range))

pub returns : goal.returns
returns c = sym (pos_gave _ _ (ok (goal.at.returns c).Else-not-in_range) c.if-offset-self.false)
