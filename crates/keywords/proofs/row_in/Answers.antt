-- Each arm's row by computation; elsewhere no keyword has the slot.
use Rattle.std.proofs.lemmas.Grind.{common_steps}
use mathlib.Core.Bool.{false}
use mathlib.Core.Path.{◌≡◌}
use native.Mathlib.Omega.{arith}
use Rattle.swar.specs.Number.{number_of}
use Rattle.kinds.specs.Precedence.{among}
use Rattle.kinds.specs.Table.{keywords}
use Rattle.keywords.specs.Search.{slot_of, row_in}
use Rattle.keywords.proofs.Search.{taken, no_row}
use Rattle.keywords.proofs.row_in.Goals as goal

pub returns-in-6 : goal.returns-in-6
unfolding row_in keywords number_of slot_of
returns-in-6 c = rw c.in-6.is

pub returns-in-7 : goal.returns-in-7
unfolding row_in keywords number_of slot_of
returns-in-7 c = rw c.in-7.is

pub returns-in-8 : goal.returns-in-8
unfolding row_in keywords number_of slot_of
returns-in-8 c = rw c.in-8.is

pub returns-in-11 : goal.returns-in-11
unfolding row_in keywords number_of slot_of
returns-in-11 c = rw c.in-11.is

pub returns-in-12 : goal.returns-in-12
unfolding row_in keywords number_of slot_of
returns-in-12 c = rw c.in-12.is

pub returns-in-14 : goal.returns-in-14
unfolding row_in keywords number_of slot_of
returns-in-14 c = rw c.in-14.is

pub returns-in-15 : goal.returns-in-15
unfolding row_in keywords number_of slot_of
returns-in-15 c = rw c.in-15.is

pub returns-in-16 : goal.returns-in-16
unfolding row_in keywords number_of slot_of
returns-in-16 c = rw c.in-16.is

pub returns-in-17 : goal.returns-in-17
unfolding row_in keywords number_of slot_of
returns-in-17 c = rw c.in-17.is

pub returns-in-20 : goal.returns-in-20
unfolding row_in keywords number_of slot_of
returns-in-20 c = rw c.in-20.is

pub returns-in-26 : goal.returns-in-26
unfolding row_in keywords number_of slot_of
returns-in-26 c = rw c.in-26.is

pub returns-in-27 : goal.returns-in-27
unfolding row_in keywords number_of slot_of
returns-in-27 c = rw c.in-27.is

pub returns-in-29 : goal.returns-in-29
unfolding row_in keywords number_of slot_of
returns-in-29 c = rw c.in-29.is

pub returns-in-34 : goal.returns-in-34
unfolding row_in keywords number_of slot_of
returns-in-34 c = rw c.in-34.is

pub returns-in-37 : goal.returns-in-37
unfolding row_in keywords number_of slot_of
returns-in-37 c = rw c.in-37.is

pub returns-in-43 : goal.returns-in-43
unfolding row_in keywords number_of slot_of
returns-in-43 c = rw c.in-43.is

pub returns-in-44 : goal.returns-in-44
unfolding row_in keywords number_of slot_of
returns-in-44 c = rw c.in-44.is

pub returns-in-45 : goal.returns-in-45
unfolding row_in keywords number_of slot_of
returns-in-45 c = rw c.in-45.is

pub returns-in-46 : goal.returns-in-46
unfolding row_in keywords number_of slot_of
returns-in-46 c = rw c.in-46.is

pub returns-in-48 : goal.returns-in-48
unfolding row_in keywords number_of slot_of
returns-in-48 c = rw c.in-48.is

pub returns-in-50 : goal.returns-in-50
unfolding row_in keywords number_of slot_of
returns-in-50 c = rw c.in-50.is

pub returns-in-53 : goal.returns-in-53
unfolding row_in keywords number_of slot_of
returns-in-53 c = rw c.in-53.is

pub returns-in-55 : goal.returns-in-55
unfolding row_in keywords number_of slot_of
returns-in-55 c = rw c.in-55.is

pub returns-in_default : goal.returns-in_default
returns-in_default c =
    let e : among c.args.slot taken ≡ false = grind (arith, common_steps) in
    no_row c.args.slot e
