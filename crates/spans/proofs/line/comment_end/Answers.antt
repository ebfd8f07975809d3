use Prim.Native.Nat.{◌<◌}
use mathlib.Core.Path.{refl, sym, ◌∙◌}
use native.Mathlib.Omega.{arith}
use Rattle.utf8.specs.Chars.{char_at}
use Rattle.utf8.proofs.First.{there_least}
use Rattle.reader.specs.Read.{read_place}
use Rattle.spans.proofs.Lines.{stop_end, stop_lf, stop_closed, stop_next}
use Rattle.spans.proofs.line.comment_end.Goals as goal
use Rattle.spans.proofs.line.comment_end.Goals.{After-place_after-p}

-- a character takes a byte or more
further : (c : After-place_after-p) → c.loop-p.p < c.place_after-p.result
unfolding read_place
further c =
    let s = c.args.src.now in
    let p = c.loop-p.p in
    omega (arith, c.place_after-p.ensures, there_least s p (char_at s p) c.if-p-src.false refl)

pub loop-p-smaller : goal.loop-p-smaller
loop-p-smaller c = omega (arith, further (goal.at.loop-p-smaller c).After-place_after-p)

pub loop-p-preserved : goal.loop-p-preserved
unfolding read_place
loop-p-preserved c =
    let s = c.args.src.now in
    let p = c.loop-p.p in
    c.loop-p.invariant ∙ rw c.place_after-p.ensures (stop_next s p c.loop-p.star c.if-p-src.false c.if-b-eq10.false (char_at s p) refl c.if-star-b.false)

pub returns-then-p-src : goal.returns-then-p-src
returns-then-p-src c = sym (c.loop-p.invariant ∙ stop_end _ _ _ c.if-p-src.true)

pub returns-then-b-eq10 : goal.returns-then-b-eq10
returns-then-b-eq10 c = sym (c.loop-p.invariant ∙ stop_lf _ _ _ c.if-p-src.false c.if-b-eq10.true)

pub returns-then-star-b : goal.returns-then-star-b
unfolding read_place
returns-then-star-b c =
    let s = c.args.src.now in
    let p = c.loop-p.p in
    sym (c.loop-p.invariant ∙ rw c.place_after-p.ensures (stop_closed s p c.loop-p.star c.if-p-src.false c.if-b-eq10.false (char_at s p) refl c.if-star-b.true))
