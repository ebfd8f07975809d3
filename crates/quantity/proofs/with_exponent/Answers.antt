-- `quantity::with_exponent` meets its contract: by the sign, and by what the two powers come to.
use Prim.Native.Char.{code}
use mathlib.Core.Path.{sym, ◌∙◌}
use mathlib.Core.Logic.{inl, inr}
use native.Mathlib.Omega.{arith}
use borrow.Author.Tests.{eq-eqb, ne_eqb}
use Rattle.quantity.proofs.Capped.{fits}
use Rattle.quantity.proofs.Values.{raised, lowered}
use Rattle.quantity.proofs.with_exponent.Goals as goal

pub returns-then-byte-eq45 : goal.returns-then-byte-eq45
returns-then-byte-eq45 c =
    let a = c.args in
    let low = c.requires.2 in
    rw (eq-eqb _ (code "-") (sym c.byte.ensures ∙ c.if-byte-eq45.true))
    (c.settled.ensures _ _ _ (sym (fits a.zeros (omega (arith, low)))) (c.added.ensures _ c.whole_number-x.ensures) (inl low)
    (lowered a.m a.zeros a.places _))

pub returns : goal.returns
returns c =
    let a = c.args in
    let low = c.requires.1 in
    rw (ne_eqb _ (code "-") (λ e. c.if-byte-eq45.false (c.byte.ensures ∙ e)))
    (c.settled-2.ensures _ _ _ (c.added-2.ensures _ c.whole_number-x.ensures) (sym (fits a.places (omega (arith, low)))) (inr low)
    (raised a.m a.zeros a.places _))
