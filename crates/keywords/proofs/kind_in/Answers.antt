-- The slot is read in both tables.
use native.Mathlib.Omega.{arith}
use Rattle.keywords.proofs.Slots.{slot_small, kind_hit, kind_miss}
use Rattle.keywords.proofs.kind_in.Goals as goal

pub bounds-kinds-slot : goal.bounds-kinds-slot
bounds-kinds-slot c = rw c.slot_of-slot.ensures (slot_small c.args.number c.args.n)

pub offset_bounds-numbers-slot : goal.offset_bounds-numbers-slot
offset_bounds-numbers-slot c = record { fits = rw c.slot_of-slot.ensures (omega (arith, slot_small c.args.number c.args.n)) }

pub bounds-numbers-slot : goal.bounds-numbers-slot
bounds-numbers-slot c = rw c.slot_of-slot.ensures (slot_small c.args.number c.args.n)

pub returns-then-numbers-slot : goal.returns-then-numbers-slot
returns-then-numbers-slot c =
    let a = c.args in
    kind_hit a.numbers.now a.kinds.now a.number a.n _ c.slot_of-slot.ensures c.if-numbers-slot.true

pub returns-else-numbers-slot : goal.returns-else-numbers-slot
returns-else-numbers-slot c =
    let a = c.args in
    kind_miss a.numbers.now a.kinds.now a.number a.n _ c.slot_of-slot.ensures c.if-numbers-slot.false
