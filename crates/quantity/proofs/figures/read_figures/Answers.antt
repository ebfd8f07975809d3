use Prim.Native.Nat.{◌+◌, ◌*◌, ◌^◌, ◌≤◌, ◌<◌}
use mathlib.Core.Path.{sym, ◌∙◌}
use mathlib.Core.Logic.{inr}
use native.Mathlib.Omega.{arith}
use lib.ListN.{drop, get_or}
use Rattle.digits.specs.Base.{base_number}
use Rattle.digits.specs.Digit.{digit_val}
use Rattle.quantity.proofs.Capped.{base_two, fits_is, over_is, bare_some}
use Rattle.quantity.proofs.Texts.{digits_end, digits_other, digit_zero, digit_some, too_long}
use Rattle.quantity.proofs.figures.read_figures.Goals as goal
use Rattle.quantity.proofs.figures.read_figures.Goals.{then-d-eq0, else-d-eq0+then-d-below+in_ok-m, else-d-eq0+else-d-below}

pub returns-in_err-m : goal.returns-in_err-m
returns-in_err-m c =
    let a = c.args in
    let base = base_number a.base in
    let two = base_two a.base in
    let l = c.loop-b in
    let d = c.digit-d in
    let low : d.result < base = omega (arith, c.if-d-below.true, c.from-below.ensures, c.number.ensures) in
    let more = d.result + l.m * base ^ (l.zeros + 1) in
    rw (c.from_residual.ensures, l.invariant.same ∙ digit_some base two a.text.now l.b-index l.m l.zeros d.result c.loop-b-test.true d.ensures low)
    (too_long base two (drop (l.b-index + 1) a.text.now) more 0 (bare_some base two l.m l.zeros d.result low c.if-d-eq0.false) (over_is more (sym c.in_err-m.was ∙ c.appended.ensures)))

pub loop-b-preserved : goal.loop-b-preserved
loop-b-preserved c =
    let a = c.args in
    let base = base_number a.base in
    let two = base_two a.base in
    let l = c.loop-b in
    let d = c.digit-d in
    elim c.if-d-eq0.branch [
      | then-d-eq0 w ↦
          record {
            few = omega (arith, w.zeros-is, l.invariant.few);
            bare = rw w.m-is l.invariant.bare;
            same =
                rw (w.m-is, w.zeros-is)
                (l.invariant.same ∙ digit_zero base two a.text.now l.b-index l.m l.zeros d.result c.loop-b-test.true d.ensures (omega (arith, two, w.if-d-eq0.true)) w.if-d-eq0.true);
          }
      | else-d-eq0+then-d-below+in_ok-m w ↦
          let low : d.result < base = omega (arith, w.if-d-below.true, c.from-below.ensures, c.number.ensures) in
          let is = w.m-is ∙ fits_is _ (d.result + l.m * base ^ (l.zeros + 1)) (sym w.in_ok-m.was ∙ w.appended.ensures) in
          record {
            few = omega (arith, w.zeros-is);
            bare = rw is (inr (bare_some base two l.m l.zeros d.result low w.if-d-eq0.false));
            same =
                rw (is, w.zeros-is)
                (l.invariant.same ∙ digit_some base two a.text.now l.b-index l.m l.zeros d.result c.loop-b-test.true d.ensures low);
          }
      | else-d-eq0+else-d-below w ↦
          let high : base ≤ digit_val (get_or a.text.now l.b-index 0) = omega (arith, w.if-d-below.false, c.from-below.ensures, c.number.ensures, d.ensures) in
          record {
            few = omega (arith, w.zeros-is, l.invariant.few);
            bare = rw w.m-is l.invariant.bare;
            same = rw (w.m-is, w.zeros-is) (l.invariant.same ∙ digits_other base a.text.now l.b-index _ c.loop-b-test.true high);
          }
    ]

pub returns : goal.returns
returns c =
    let a = c.args in
    let l = c.loop-b in
    (l.invariant.same ∙ digits_end (base_number a.base) a.text.now l.b-index _ c.loop-b-test.false, l.invariant.bare, omega arith)
