-- `add` meets its contract: each test of the code is one of the definition's, and below the room a whole record fits.
use Prim.Native.Nat.{◌<◌}
use mathlib.Core.Path.{sym, ◌∙◌}
use native.Mathlib.Omega.{arith}
use Rattle.errors.specs.Errors.{room_of}
use Rattle.errors.proofs.Laws.{add_over, add_full, add_gave}
use Rattle.errors.proofs.add.Goals as goal

pub returns-then-count-most : goal.returns-then-count-most
returns-then-count-most c = sym (add_over _ _ _ (rw c.room-most.ensures at c.if-count-most.true))

pub returns-then-count-most-2 : goal.returns-then-count-most-2
returns-then-count-most-2 c = sym (add_full _ _ _ (c.if-count-most-2.true ∙ c.room-most.ensures))

pub returns : goal.returns
returns c =
    let a = c.args in
    let below : a.count < room_of a.list.now = omega (arith, c.room-most.ensures) in
    rw c.write.ensures (sym (add_gave _ _ _ below))
