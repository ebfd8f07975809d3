-- `tables::firsts` meets its contract: the table at the loops' end is computed.
use Prim.Native.Nat.{◌-◌}
use mathlib.Core.Path.{◌≡◌, refl, ap, ◌∙◌}
use native.Mathlib.Omega.{arith}
use Rattle.batch.specs.declared.first.First.TheVariants.{Letter, Digit}
use Rattle.batch.proofs.Firsts.{marks, told, capitals, smalls, digits, is_table, more}
use Rattle.batch.proofs.tables.firsts.Goals as goal

pub loop-capital-init : goal.loop-capital-init
unfolding told marks
loop-capital-init c = (omega arith, omega arith, refl)

pub loop-capital-preserved : goal.loop-capital-preserved
loop-capital-preserved c =
    let l = c.loop-capital in
    (omega (arith, l.invariant.0), omega (arith, c.loop-capital-test.true), rw l.invariant.2 (more 65 Letter marks l.capital l.invariant.0))

pub loop-small-init : goal.loop-small-init
unfolding told
loop-small-init c =
    let l = c.loop-capital in
    let n : l.capital - 65 ≡ 26 = omega (arith, l.invariant.1, c.loop-capital-test.false) in
    (omega arith, omega arith, l.invariant.2 ∙ ap capitals n)

pub loop-small-preserved : goal.loop-small-preserved
loop-small-preserved c =
    let l = c.loop-small in
    (omega (arith, l.invariant.0), omega (arith, c.loop-small-test.true), rw l.invariant.2 (more 97 Letter (capitals 26) l.small l.invariant.0))

pub loop-digit-init : goal.loop-digit-init
unfolding told
loop-digit-init c =
    let l = c.loop-small in
    let n : l.small - 97 ≡ 26 = omega (arith, l.invariant.1, c.loop-small-test.false) in
    (omega arith, omega arith, l.invariant.2 ∙ ap smalls n)

pub loop-digit-preserved : goal.loop-digit-preserved
loop-digit-preserved c =
    let l = c.loop-digit in
    (omega (arith, l.invariant.0), omega (arith, c.loop-digit-test.true), rw l.invariant.2 (more 48 Digit (smalls 26) l.digit l.invariant.0))

pub returns : goal.returns
returns c =
    let l = c.loop-digit in
    let n : l.digit - 48 ≡ 10 = omega (arith, l.invariant.1, c.loop-digit-test.false) in
    rw (l.invariant.2 ∙ ap digits n) is_table
