use Prim.Native.Nat.{◌+◌, ◌*◌, ◌-◌, ◌^◌, ◌<◌}
use mathlib.Core.Path.{◌≡◌, sym, ap}
use native.Mathlib.Nat.{le_refl}
use native.Mathlib.Omega.{arith}
use lib.ListN.{get_or, drop, drop_of_length-le}
use Rattle.swar.specs.Number.{number_of}
use Rattle.swar.proofs.Numbers.{number_before, last_fits}
use Rattle.swar.proofs.last_bytes.Goals as goal
use Rattle.swar.proofs.last_bytes.Goals.{In-loop-i}

-- the number after a turn
turned : (c : In-loop-i)
    → let s = c.args.s.now in
    let i = c.loop-i.i in
    c.loop-i.number * 256 + get_or s (i - 1) 0 ≡ number_of (drop (i - 1) s)
turned c = rw c.loop-i.invariant.1 (sym (number_before c.args.s.now c.loop-i.i (omega arith)))

fits : (c : In-loop-i)
    → let s = c.args.s.now in
    let i = c.loop-i.i in
    c.loop-i.number * 256 + get_or s (i - 1) 0 < 2 ^ 64
fits c =
    let s = c.args.s.now in
    rw (turned c) (last_fits s (c.loop-i.i - 1) (λ j. (c.type_inv.s j).fits) (omega arith))

pub loop-i-init : goal.loop-i-init
unfolding number_of
loop-i-init c = (omega arith, sym (ap number_of (drop_of_length-le c.args.s.now (le_refl _))))

pub overflow_mul-number : goal.overflow_mul-number
overflow_mul-number c = omega (arith, fits (goal.at.overflow_mul-number c).In-loop-i)

pub overflow_add-number : goal.overflow_add-number
overflow_add-number c = omega (arith, fits (goal.at.overflow_add-number c).In-loop-i)

pub loop-i-preserved : goal.loop-i-preserved
loop-i-preserved c = (omega arith, turned (goal.at.loop-i-preserved c).In-loop-i)
