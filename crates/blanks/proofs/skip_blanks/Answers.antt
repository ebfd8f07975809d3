-- `blanks::skip_blanks` meets its contract: a space, if there is one, and the blanks after it.
use mathlib.Core.Path.{◌≡◌, sym, ◌∙◌}
use native.Mathlib.Omega.{arith}
use lib.ListN.{get_or}
use Rattle.std.specs.Prelude.{None}
use Rattle.basics.proofs.Lists.{reach}
use Rattle.blanks.specs.Blank.{skipped_at}
use Rattle.blanks.proofs.Blanks.{joined, from, joined_start, space_blank, step_none, step_space, stop_test}
use Rattle.blanks.proofs.skip_blanks.Goals as goal
use Rattle.blanks.proofs.skip_blanks.Goals.{Joined-byte-eq32, else-byte-eq32, then-byte-eq32}

pub overflow_add-p : goal.overflow_add-p
overflow_add-p c =
    let a = c.args in
    omega (arith, reach a.src.now a.at (omega (arith, c.byte.ensures)))

-- at most a space stands before the place p
after : (c : Joined-byte-eq32)
    → let a = c.args in
    skipped_at a.at (from a.mark a.src.now a.at) ≡ joined c.if-byte-eq32.p 0 None (from a.mark a.src.now c.if-byte-eq32.p)
after c =
    let a = c.args in
    let e = c.byte.ensures in
    joined_start a.at (from a.mark a.src.now a.at)
    ∙ elim c.if-byte-eq32.branch [ then-byte-eq32 w ↦ rw w.p-is (step_space a.mark a.src.now a.at 0 None (rw (sym e ∙ w.if-byte-eq32.true) (space_blank a.mark)) (λ f. omega (arith, e, w.if-byte-eq32.true))) | else-byte-eq32 w ↦ rw w.p-is ]

pub returns-then-b-mark : goal.returns-then-b-mark
returns-then-b-mark c =
    let a = c.args in
    let p = c.if-byte-eq32.p in
    sym (after (goal.at.returns-then-b-mark c).Joined-byte-eq32 ∙ step_none a.mark a.src.now p 0 None (stop_test a.mark (get_or a.src.now p 0) (rw c.byte-b.ensures at c.if-b-mark.true)))

pub returns : goal.returns
returns c =
    let p = c.if-byte-eq32.p in
    c.skip_line.ensures ∙ joined_start p (from c.args.mark c.args.src.now p) ∙ sym (after (goal.at.returns c).Joined-byte-eq32)
