-- `quantity::decimal_by` meets its contract: by the figures, and by what the exponent makes of them.
use Prim.Native.Nat.{◌-◌}
use Prim.Native.Char.{code}
use mathlib.Core.Path.{sym}
use mathlib.Core.Logic.{⊎_elim}
use native.Mathlib.Omega.{arith}
use lib.ListN.{length, take, drop, length-take, length-drop}
use Rattle.quantity.proofs.Texts.{place_within, count_within}
use Rattle.quantity.proofs.Values.{decimal_long, decimal_zero}
use Rattle.quantity.proofs.decimal_by.Goals as goal

pub returns-in_err-m : goal.returns-in_err-m
returns-in_err-m c = rw c.from_residual.ensures (sym (decimal_long c.args.figures.now c.args.exponent.now c.in_err-m.ensures))

pub returns-then-m-eq0 : goal.returns-then-m-eq0
returns-then-m-eq0 c = sym (decimal_zero _ c.args.exponent.now _ _ c.in_ok-m.ensures.0 c.if-m-eq0.true)

pub slice_bounds-count_digits-count : goal.slice_bounds-count_digits-count
slice_bounds-count_digits-count c = rw c.find-point.ensures (place_within (code ".") _)

pub slice_bounds-count_digits-start : goal.slice_bounds-count_digits-start
slice_bounds-count_digits-start c = rw c.find-point.ensures (place_within (code ".") _)

pub with_exponent-requires : goal.with_exponent-requires
with_exponent-requires c =
    let figures = c.args.figures.now in
    let rest = take (length figures - c.find-point.result) (drop c.find-point.result figures) in (
      ⊎_elim (λ z. absurd (c.if-m-eq0.false z)) (λ n. n) c.in_ok-m.ensures.1,
      omega (
        arith,
        c.count_digits-places.ensures,
        count_within rest,
        length-take (length figures - c.find-point.result) (drop c.find-point.result figures),
        length-drop c.find-point.result figures,
        c.well_formed,
      ),
      omega (arith, c.in_ok-m.ensures.2, c.well_formed),
    )
