-- `layout::write` meets its contract: the part of the list that is written is the record.
use Prim.Native.Nat.{◌+◌, ◌-◌}
use mathlib.Core.Path.{◌≡◌, ap, ◌∙◌}
use native.Mathlib.Omega.{arith}
use borrow.Rule.Slice.PartMut.{put_mid}
use Rattle.errors.specs.Layout.{width, numbers}
use Rattle.basics.proofs.Sets.{part_set}
use Rattle.errors.proofs.layout.write.Goals as goal

pub returns : goal.returns
unfolding numbers
returns c =
    let a = c.args in
    let four : a.at + width - a.at ≡ width = omega arith in
    ap (λ vs. put_mid a.at (a.at + width - a.at) a.list.now vs) (c.copy_from_slice.ensures.after ∙ c.numbers.ensures)
    ∙ part_set a.list.now a.at (a.at + width - a.at) (numbers a.error) four c.requires
