use Prim.Native.Char.{code}
use mathlib.Core.Path.{◌≡◌, refl, sym, ap, ◌∙◌}
use mathlib.Core.Bool.{Bool, true, false, not, false≢true}
use native.Mathlib.Omega.{arith}
use lib.Dec.{eqb}
use lib.ListN.{get_or}
use borrow.Author.Tests.{ltb-true, ltb-false, eqb-true}
use Rattle.basics.proofs.Choice.{and_split}
use Rattle.digits.specs.Digit.{digit_val}
use Rattle.digits.specs.Base.{base_number}
use Rattle.digits.proofs.Digits.{base_most}
use Rattle.numbers.specs.Run.{end_of_run}
use Rattle.numbers.specs.Steps.{digits_at}
use Rattle.numbers.proofs.Runs.{digits_more, run_end, run_digit, run_stop, run_under}
use Rattle.numbers.proofs.run.scan_digits.Goals as goal
use Rattle.numbers.proofs.run.scan_digits.Goals.{then-is_digit, else-is_digit+then-b-under}

not_true : (u : Bool) → not u ≡ true → u ≡ false
not_true true e = absurd (false≢true e)
not_true false e = refl

pub returns-else-b-under : goal.returns-else-b-under
returns-else-b-under c =
    let a = c.args in
    let p = c.loop-p.p in
    let d = ltb-false (digit_val (get_or a.src.now p 0)) (base_number a.base) (sym c.is_digit.ensures ∙ c.if-is_digit.false) in
    c.ended.ensures ∙ sym (c.loop-p.invariant.same ∙ ap (digits_at p) (run_stop (base_number a.base) a.src.now p c.loop-p-test.true c.loop-p.under d c.if-b-under.false))

pub loop-p-preserved : goal.loop-p-preserved
loop-p-preserved c =
    let a = c.args in
    let base = base_number a.base in
    let p = c.loop-p.p in
    let h = c.loop-p-test.true in
    let same = c.loop-p.invariant.same in
    record {
      same =
          elim c.if-is_digit.branch [
            | then-is_digit w ↦
                let d = ltb-true (digit_val (get_or a.src.now p 0)) base (sym c.is_digit.ensures ∙ w.if-is_digit.true) in
                rw w.under-is (same ∙ ap (digits_at p) (run_digit base a.src.now p h c.loop-p.under d (base_most a.base)) ∙ digits_more p _)
            | else-is_digit+then-b-under w ↦
                let d = ltb-false (digit_val (get_or a.src.now p 0)) base (sym c.is_digit.ensures ∙ w.if-is_digit.false) in
                let q = and_split (eqb (get_or a.src.now p 0) (code "_")) _ w.if-b-under.true in
                let z = not_true c.loop-p.under q.1 in
                rw w.under-is (rw z at same ∙ ap (digits_at p) (run_under base a.src.now p h d (eqb-true (get_or a.src.now p 0) (code "_") q.0)) ∙ digits_more p _)
          ];
      inside = omega arith;
    }

pub returns : goal.returns
returns c =
    let a = c.args in
    let p = c.loop-p.p in
    let e : c.max.result ≡ p = omega (arith, c.max.ensures, c.loop-p.invariant.inside, c.loop-p.auto.p, c.loop-p-test.false) in
    c.ended-2.ensures ∙ ap (λ q. digits_at q (end_of_run c.loop-p.under)) e
    ∙ sym (c.loop-p.invariant.same ∙ ap (digits_at p) (run_end (base_number a.base) a.src.now p c.loop-p.under c.loop-p-test.false))
