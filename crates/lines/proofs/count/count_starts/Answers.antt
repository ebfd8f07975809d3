use Prim.Native.Nat.{◌+◌}
use mathlib.Core.Path.{sym, ap, ◌∙◌}
use native.Mathlib.Nat.{zero-add}
use native.Mathlib.Omega.{arith}
use lib.ListN.{length}
use Rattle.lines.proofs.Writing.{counted_all, counted_one, starts_end, starts_over, starts_stop, starts_feed, starts_other}
use Rattle.lines.proofs.count.count_starts.Goals as goal
use Rattle.lines.proofs.count.count_starts.Goals.{then-b-eq10, else-b-eq10}

pub loop-o-init : goal.loop-o-init
loop-o-init c =
    let e = c.end_offset-end.ensures in
    (omega arith, λ low. omega (arith, e, low), ap length (starts_end _ _ _ _ _ e) ∙ sym (zero-add _))

pub returns-then-src-p : goal.returns-then-src-p
returns-then-src-p c =
    let l = c.loop-o in
    counted_all l.n (starts_over _ _ _ _ _ c.if-src-p.true) l.invariant.2

pub loop-o-preserved : goal.loop-o-preserved
loop-o-preserved c =
    let l = c.loop-o in
    let s = c.args.src.now in
    let low = c.loop-o-test.true in
    elim c.if-b-eq10.branch [
      | then-b-eq10 w ↦
          let e = starts_feed _ _ s _ _ _ low (l.invariant.1 low) c.if-src-p.false c.next_place-p.ensures w.if-b-eq10.true in
          (omega (arith, l.invariant.0, w.n-is), λ low. l.invariant.1 (omega (arith, low)), rw w.n-is (counted_one l.n e l.invariant.2))
      | else-b-eq10 w ↦
          let e = starts_other _ _ s _ _ _ low (l.invariant.1 low) c.if-src-p.false c.next_place-p.ensures w.if-b-eq10.false in
          (omega (arith, l.invariant.0, w.n-is), λ low. l.invariant.1 (omega (arith, low)), rw w.n-is (l.invariant.2 ∙ ap (λ v. l.n + length v) e))
    ]

pub returns : goal.returns
returns c =
    let l = c.loop-o in
    counted_all l.n (starts_stop _ _ _ _ c.loop-o-test.false) l.invariant.2
