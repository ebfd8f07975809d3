-- `quantity::whole::scaled` meets its contract: by what the library's power and product say.
use Prim.Native.Nat.{◌*◌, ◌^◌}
use mathlib.Core.Path.{◌≡◌, sym, ap, ◌∙◌}
use native.Mathlib.Omega.{arith}
use native.Mathlib.Nat.{zero-mul, mul_comm}
use Rattle.digits.specs.Base.{base_number}
use Rattle.quantity.proofs.Capped.{fits, over, capped_is, base_two, far, far_power}
use Rattle.quantity.proofs.whole.scaled.Goals as goal

pub returns-then-m-eq0 : goal.returns-then-m-eq0
returns-then-m-eq0 c = let a = c.args in rw (c.if-m-eq0.true, zero-mul (base_number a.base ^ a.n)) (sym (fits 0 (omega arith)))

pub returns-then-n-ge64 : goal.returns-then-n-ge64
returns-then-n-ge64 c = let a = c.args in sym (over _ (far (base_number a.base) (base_two a.base) a.m a.n (omega (arith, c.if-m-eq0.false)) c.if-n-ge64.true))

pub returns-in_err-checked_pow : goal.returns-in_err-checked_pow
returns-in_err-checked_pow c =
    let a = c.args in
    let none = rw (c.from.ensures, c.number.ensures) at c.in_err-checked_pow.ensures in
    c.from_residual.ensures ∙ sym (over _ (far_power (base_number a.base) (base_two a.base) a.m a.n (omega (arith, c.if-m-eq0.false)) (omega (arith, none))))

pub returns : goal.returns
returns c =
    let a = c.args in
    let power = c.in_ok-checked_pow.ensures.1 ∙ ap (λ b. b ^ a.n) (c.from.ensures ∙ c.number.ensures) in
    let e : c.in_ok-checked_pow.field-0 * a.m ≡ a.m * base_number a.base ^ a.n = mul_comm c.in_ok-checked_pow.field-0 a.m ∙ ap (λ y. a.m * y) power in
    capped_is (a.m * base_number a.base ^ a.n) c.checked_mul.result (rw e at c.checked_mul.ensures)
