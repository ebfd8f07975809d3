-- `batch::near::near_blanks` meets its contract: at most a space stands before the byte that is tested.
use mathlib.Core.Path.{◌≡◌, sym, ◌∙◌}
use mathlib.Core.Logic.{inl, inr, ⊎_elim}
use native.Mathlib.Omega.{arith}
use lib.ListN.{get_or}
use Rattle.blanks.proofs.Blanks.{blank_above}
use Rattle.batch.specs.Near.{SpaceTo}
use Rattle.batch.proofs.Spaces.{near_stop}
use Rattle.batch.proofs.near.near_blanks.Goals as goal
use Rattle.batch.proofs.near.near_blanks.Goals.{Joined-b-eq32, else-b-eq32, then-b-eq32}

-- the place of the byte that is tested, and that byte
place : (c : Joined-b-eq32) → let a = c.args in SpaceTo a.src.now a.at c.if-b-eq32.p
place c = elim c.if-b-eq32.branch [ then-b-eq32 w ↦ inr (w.if-b-eq32.true, w.p-is) | else-b-eq32 w ↦ inl w.p-is ]

byte : (c : Joined-b-eq32) → c.if-b-eq32.b ≡ get_or c.args.src.now c.if-b-eq32.p 0
byte c = elim c.if-b-eq32.branch [ then-b-eq32 w ↦ rw w.p-is w.b-is | else-b-eq32 w ↦ rw w.p-is w.b-is ]

pub returns-then-b-gt32 : goal.returns-then-b-gt32
returns-then-b-gt32 c =
    let a = c.args in
    near_stop a.mark a.src.now a.at c.if-b-eq32.p (place (goal.at.returns-then-b-gt32 c).Joined-b-eq32) (blank_above a.mark _ (rw (byte (goal.at.returns-then-b-gt32 c).Joined-b-eq32) at c.if-b-gt32.true))

pub line_feed-requires : goal.line_feed-requires
line_feed-requires c =
    (⊎_elim (λ w. omega arith) (λ w. omega arith) (place (goal.at.line_feed-requires c).Joined-b-eq32), sym (byte (goal.at.line_feed-requires c).Joined-b-eq32) ∙ c.if-b-ne10.false, place (goal.at.line_feed-requires c).Joined-b-eq32)
