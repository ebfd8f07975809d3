use mathlib.Core.Path.{◌≡◌}
use borrow.Author.Tests.{ne_eqb}
use Rattle.utf8.specs.Steps.{sequence, decoded}
use Rattle.utf8.proofs.sequence.decode.Goals as goal

pub returns-then-n-eq0 : goal.returns-then-n-eq0
unfolding decoded
returns-then-n-eq0 c =
    let x = c.args in
    let e : sequence x.a x.b x.c x.d ≡ 0 = cc in
    rw e

pub returns : goal.returns
unfolding decoded
returns c = rw (← c.sequence_of-n.ensures) (simp (ne_eqb _ _ c.if-n-eq0.false) cc)
