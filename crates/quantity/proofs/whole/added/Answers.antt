-- `quantity::whole::added` meets its contract: by what the library's sum says.
use mathlib.Core.Path.{sym, ◌∙◌}
use native.Mathlib.Omega.{arith}
use Rattle.quantity.proofs.Capped.{capped_is, over, fits_is, over_is}
use Rattle.quantity.proofs.whole.added.Goals as goal

pub returns-in_err-x : goal.returns-in_err-x
returns-in_err-x c n e = c.from_residual.ensures ∙ sym (over _ (omega (arith, over_is n (sym c.in_err-x.was ∙ e))))

pub returns : goal.returns
returns c n e = let b = fits_is _ n (sym c.in_ok-x.was ∙ e) in capped_is _ c.checked_add.result (rw b at c.checked_add.ensures)
