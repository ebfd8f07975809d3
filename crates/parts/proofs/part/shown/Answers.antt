-- `part::shown` meets its contract: the part says which of the two buffers it is of.
use mathlib.Core.Path.{ap, ◌∙◌}
use Rattle.parts.specs.Shown.{shown_as, shown_of}
use Rattle.parts.proofs.Gets.{shown_got}
use Rattle.parts.proofs.part.shown.Goals as goal
use Rattle.parts.proofs.part.shown.Goals.{then-part, else-part}

pub returns : goal.returns
unfolding shown_of
returns c =
    let a = c.args in
    ap shown_as c.ok_or.ensures.value
    ∙ elim c.if-part.branch [
      | then-part w ↦ shown_got a.area.now a.part c.get.result (rw w.buffer-is at c.get.ensures.lookup) ∙ rw w.if-part.true
      | else-part w ↦ shown_got a.src.now a.part c.get.result (rw w.buffer-is at c.get.ensures.lookup) ∙ rw w.if-part.false
    ]
