-- `quantity::whole::whole_number` meets its contract: figures that are too long do not fit, whatever zeros follow them.
use mathlib.Core.Path.{sym, ◌∙◌}
use native.Mathlib.Nat.{le_trans}
use Rattle.digits.specs.Base.{base_number}
use Rattle.quantity.proofs.Capped.{over, least, base_two}
use Rattle.quantity.proofs.whole.whole_number.Goals as goal

pub returns-in_err-m : goal.returns-in_err-m
returns-in_err-m c =
    let b = c.args.base in
    let t = c.in_err-m.ensures in
    c.from_residual.ensures ∙ sym (over _ (rw t.is (le_trans t.long (least (base_number b) (base_two b) t.m t.z))))
