use Prim.Native.Nat.{◌-◌}
use mathlib.Core.Path.{refl, sym, ap, ◌∙◌}
use native.Mathlib.Omega.{arith}
use lib.ListN.{take, drop, length-set}
use lib.Seq.{sets}
use Rattle.utf8.specs.Chars.{chars}
use Rattle.lines.specs.Starts.{starts_read}
use Rattle.lines.proofs.Writing.{sets_past, sets_step, starts_end, starts_over, starts_stop, starts_feed, starts_other}
use Rattle.lines.proofs.write_starts.Goals as goal
use Rattle.lines.proofs.write_starts.Goals.{then-b-eq10+else-table-n, else-b-eq10}

pub loop-o-init : goal.loop-o-init
loop-o-init c =
    let e = c.end_offset-end.ensures in
    let a = c.args in
    (refl, λ low. omega (arith, e, low), ap (sets a.table.now a.lines) (starts_end _ _ _ _ _ e))

pub returns-then-src-p : goal.returns-then-src-p
returns-then-src-p c =
    let l = c.loop-o in
    sym (l.invariant.2 ∙ ap (sets l.table l.n) (starts_over _ _ _ _ _ c.if-src-p.true))

pub returns-then-table-n : goal.returns-then-table-n
returns-then-table-n c =
    let l = c.loop-o in
    let a = c.args in
    let left = starts_read a.size l.o (take (c.end_offset-end.result - l.o) (chars (drop l.p a.src.now))) in
    sym (l.invariant.2 ∙ sets_past l.table l.n left (omega (arith, c.if-table-n.true)))

pub loop-o-preserved : goal.loop-o-preserved
loop-o-preserved c =
    let l = c.loop-o in
    let s = c.args.src.now in
    let low = c.loop-o-test.true in
    elim c.if-b-eq10.branch [
      | then-b-eq10+else-table-n w ↦
          let e = starts_feed _ _ s _ _ _ low (l.invariant.1 low) c.if-src-p.false c.next_place-p.ensures w.if-b-eq10.true in
          (rw w.table-is (simp length-set l.invariant.0), λ low. l.invariant.1 (omega (arith, low)), rw (w.table-is, w.n-is) (l.invariant.2 ∙ sets_step l.table l.n e))
      | else-b-eq10 w ↦
          let e = starts_other _ _ s _ _ _ low (l.invariant.1 low) c.if-src-p.false c.next_place-p.ensures w.if-b-eq10.false in
          (rw w.table-is l.invariant.0, λ low. l.invariant.1 (omega (arith, low)), rw (w.table-is, w.n-is) (l.invariant.2 ∙ ap (sets l.table l.n) e))
    ]

pub returns : goal.returns
returns c =
    let l = c.loop-o in
    sym (l.invariant.2 ∙ ap (sets l.table l.n) (starts_stop _ _ _ _ c.loop-o-test.false))
