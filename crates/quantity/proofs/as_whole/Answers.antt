-- `quantity::as_whole` meets its contract: a number that 64 bits hold is m, and k is 0.
use mathlib.Core.Path.{sym, ap, ◌∙◌}
use Rattle.quantity.specs.Pair.{pair}
use Rattle.quantity.proofs.Capped.{fits_is, fits_low, over_is}
use Rattle.quantity.proofs.Shifts.{whole_found, whole_wide}
use Rattle.quantity.proofs.as_whole.Goals as goal

pub returns-in_err-x : goal.returns-in_err-x
returns-in_err-x c v n e d = rw c.from_residual.ensures (sym (whole_wide v n d (over_is n (sym c.in_err-x.was ∙ e))))

pub returns : goal.returns
returns c v n e d =
    let is = sym c.in_ok-x.was ∙ e in
    ap (λ m. pair m 0) (fits_is _ n is) ∙ sym (whole_found v n d (fits_low _ n is))
