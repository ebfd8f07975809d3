-- `get` meets its contract: the error at an index below the count is the record that stands there.
use mathlib.Core.Path.{sym}
use Rattle.errors.proofs.Laws.{get_over, get_nothing, get_found}
use Rattle.errors.proofs.get.Goals as goal

pub returns-then-count-room : goal.returns-then-count-room
returns-then-count-room c = sym (get_over _ _ _ (rw c.room.ensures at c.if-count-room.true))

pub returns-then-index-count : goal.returns-then-index-count
returns-then-index-count c = sym (get_nothing _ _ _ (rw c.room.ensures at c.if-count-room.false) c.if-index-count.true)

pub returns : goal.returns
returns c =
    rw c.read.ensures
    (sym (get_found _ _ _ (rw c.room.ensures at c.if-count-room.false) c.if-index-count.false))
