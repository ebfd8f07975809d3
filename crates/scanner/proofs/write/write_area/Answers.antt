-- `write::write_area` meets its contract: the text at the area's start, if it differs, and the value after it.
use Prim.Native.Nat.{◌≤◌}
use mathlib.Core.Path.{sym, ◌∙◌}
use native.Mathlib.Omega.{arith}
use lib.ListN.{length}
use Rattle.lexer.specs.Placed.{said}
use Rattle.scanner.specs.Scan.{to_area}
use Rattle.scanner.proofs.Areas.{TextWritten, text_written, text_none, value_written, value_none}
use Rattle.scanner.proofs.write.write_area.Goals as goal
use Rattle.scanner.proofs.write.write_area.Goals.{Joined-x, else-x, then-x}

-- what stands in the area before the value
texted : (c : Joined-x)
    → let a = c.args in TextWritten a.area.now (said a.src.now a.start a.x).lexeme.text a.x.text.differs c.if-x.area c.if-x.to
unfolding said
texted c =
    elim c.if-x.branch [ then-x w ↦ text_written _ _ w.if-x.true (w.area-is ∙ w.write_text.ensures) (w.to-is ∙ sym (rw w.if-x.true at c.requires.4)) | else-x w ↦ text_none _ _ w.if-x.false w.area-is w.to-is ]

-- both fit
room : (c : Joined-x) → let a = c.args in length (to_area (said a.src.now a.start a.x)) ≤ length a.area.now
room c = omega (arith, c.requires.2, c.requires.3)

pub returns-then-x-2 : goal.returns-then-x-2
returns-then-x-2 c =
    let a = c.args in
    value_written a.src.now a.start a.x a.area.now (texted (goal.at.returns-then-x-2 c).Joined-x) (room (goal.at.returns-then-x-2 c).Joined-x) c.if-x-2.true c.write_value.ensures

pub returns-else-x-2 : goal.returns-else-x-2
returns-else-x-2 c =
    let a = c.args in
    value_none a.src.now a.start a.x a.area.now (texted (goal.at.returns-else-x-2 c).Joined-x) (room (goal.at.returns-else-x-2 c).Joined-x) c.if-x-2.false
