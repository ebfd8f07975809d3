-- `answer::put` meets its contract: the numbers go to the front.
use mathlib.Core.Path.{◌≡◌, sym, ap, ◌∙◌}
use native.Mathlib.Omega.{arith}
use native.Mathlib.Nat.{zero-add}
use lib.ListN.{length}
use lib.Seq.{sets-eq, length-take-le}
use Rattle.refusal.proofs.answer.put.Goals as goal

pub returns : goal.returns
returns g c =
    let k = c.copy_from_slice.ensures in
    let slice = c.args.slice.now in
    let numbers = c.args.numbers in
    let n : length numbers ≡ g.row.N = ap length (sym k.after) ∙ k.len ∙ length-take-le g.row.N slice c.requires in
    rw (k.after, sets-eq numbers slice 0 (omega (arith, n, c.requires)), zero-add (length numbers), n)
