-- `quantity::decimal` meets its contract: the text is parted at its e.
use Prim.Native.Char.{code}
use mathlib.Core.Path.{sym}
use lib.Seq.{length-take-le}
use Rattle.quantity.specs.Text.{decimal_in}
use Rattle.digits.proofs.First.{rest_all}
use Rattle.quantity.proofs.Texts.{place_within}
use Rattle.quantity.proofs.decimal.Goals as goal

pub slice_bounds-decimal_by-end : goal.slice_bounds-decimal_by-end
slice_bounds-decimal_by-end c =
    let text = c.args.text.now in
    sym (length-take-le _ text (rw c.find-e.ensures (place_within (code "e") text)))

pub slice_bounds-decimal_by-count : goal.slice_bounds-decimal_by-count
slice_bounds-decimal_by-count c = rw c.find-e.ensures (place_within (code "e") _)

pub slice_bounds-decimal_by-start : goal.slice_bounds-decimal_by-start
slice_bounds-decimal_by-start c = rw c.find-e.ensures (place_within (code "e") _)

pub returns : goal.returns
unfolding decimal_in
returns c =
    let text = c.args.text.now in
    rw (← c.find-e.ensures) (rw (rest_all c.find-e.result text) at c.decimal_by.ensures)
