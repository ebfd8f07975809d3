-- `quantity::settled` meets its contract: by what is known of the two powers.
use mathlib.Core.Path.{sym, ◌∙◌}
use native.Mathlib.Omega.{arith}
use Rattle.quantity.proofs.Capped.{over_is}
use Rattle.quantity.proofs.Shifts.{known, up_is, down_found, down_deep, far_up, far_down}
use Rattle.quantity.proofs.settled.Goals as goal

pub returns-in_err-rise : goal.returns-in_err-rise
returns-in_err-rise c v rise fall u w near d =
    rw c.from_residual.ensures (sym (far_up v c.args.m rise fall d c.requires near (over_is rise (sym c.in_err-rise.was ∙ u))))

pub returns-in_err-fall : goal.returns-in_err-fall
returns-in_err-fall c v rise fall u w near d =
    rw c.from_residual-in_err-fall.ensures (sym (far_down v c.args.m rise fall d c.requires near (over_is fall (sym c.in_err-fall.was ∙ w))))

pub returns-then-fall-rise : goal.returns-then-fall-rise
returns-then-fall-rise c v rise fall u w near d =
    c.as_whole.ensures v _ c.scaled.ensures (up_is v c.args.m c.in_ok-rise.rise c.in_ok-fall.fall (known v c.args.m c.in_ok-rise.rise c.in_ok-fall.fall rise fall (sym c.in_ok-rise.was ∙ u) (sym c.in_ok-fall.was ∙ w) d) c.if-fall-rise.true)

pub returns-then-k-le18 : goal.returns-then-k-le18
returns-then-k-le18 c v rise fall u w near d =
    let less = c.if-fall-rise.false in
    sym (down_found v c.args.m c.in_ok-rise.rise c.in_ok-fall.fall (known v c.args.m c.in_ok-rise.rise c.in_ok-fall.fall rise fall (sym c.in_ok-rise.was ∙ u) (sym c.in_ok-fall.was ∙ w) d) c.requires (omega (arith, less)) c.if-k-le18.true c.ranges.m.fits)

pub returns : goal.returns
returns c v rise fall u w near d =
    let less = c.if-fall-rise.false in
    sym (down_deep v c.args.m c.in_ok-rise.rise c.in_ok-fall.fall (known v c.args.m c.in_ok-rise.rise c.in_ok-fall.fall rise fall (sym c.in_ok-rise.was ∙ u) (sym c.in_ok-fall.was ∙ w) d) c.requires (omega (arith, less)) c.if-k-le18.false)
