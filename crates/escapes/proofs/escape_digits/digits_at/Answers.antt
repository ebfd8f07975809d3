use Prim.Native.Nat.{◌+◌, ◌*◌, ◌≤◌, ◌<◌}
use mathlib.Core.Path.{◌≡◌, sym, ap, ◌∙◌}
use native.Mathlib.Omega.{arith}
use lib.ListN.{get_or}
use Rattle.digits.specs.Base.{base_number}
use Rattle.digits.specs.Digit.{digit_val}
use Rattle.digits.proofs.Digits.{base_most}
use Rattle.escapes.specs.Steps.{whole}
use Rattle.escapes.proofs.DigitLaws.{grown, grown_more, grown_stop, all_read, next_cut, next_off, next_digit, grow, room}
use Rattle.escapes.proofs.escape_digits.digits_at.Goals as goal
use Rattle.escapes.proofs.escape_digits.digits_at.Goals.{In-Some, Else-radix-d}

pub returns-in_default : goal.returns-in_default
returns-in_default c =
    let a = c.args in
    let l = c.loop-len in
    ap whole (sym (l.invariant.2 ∙ ap (grown l.len) (next_cut (base_number a.base) a.count a.src.now a.at l.len l.value c.loop-len-test.true c.in_default.ensures.lookup.3) ∙ grown_stop _ _ _))

-- the number of the next digit
digit_is : (c : In-Some) → digit_val c.in-Some.field-0.now ≡ digit_val (get_or c.args.src.now (c.args.at + c.loop-len.len) 0)
digit_is c = ap digit_val (c.in-Some.ensures.lookup.3.1 0)

pub returns-then-radix-d : goal.returns-then-radix-d
returns-then-radix-d c =
    let a = c.args in
    let l = c.loop-len in
    let i = digit_is (goal.at.returns-then-radix-d c).In-Some in
    let d : base_number a.base ≤ digit_val (get_or a.src.now (a.at + l.len) 0) = omega (arith, i, c.digit_val-d.ensures, c.number-radix.ensures) in
    ap whole (sym (l.invariant.2 ∙ ap (grown l.len) (next_off (base_number a.base) a.count a.src.now a.at l.len l.value c.loop-len-test.true c.in-Some.ensures.lookup.3.0 d) ∙ grown_stop _ _ _))

-- with one digit more the value fits
fits : (c : Else-radix-d) → c.loop-len.value * c.number-radix.result + c.digit_val-d.result < 4294967296
fits c =
    room c.loop-len.value c.number-radix.result c.digit_val-d.result c.loop-len.len c.loop-len.invariant.1 (omega arith) (omega (arith, base_most c.args.base, c.number-radix.ensures)) c.if-radix-d.false

pub overflow_mul-value : goal.overflow_mul-value
overflow_mul-value c = record { fits = omega (arith, fits c) }

pub overflow_add-value : goal.overflow_add-value
overflow_add-value c = record { fits = fits (goal.at.overflow_add-value c).Else-radix-d }

pub loop-len-preserved : goal.loop-len-preserved
loop-len-preserved c =
    let a = c.args in
    let l = c.loop-len in
    let b = base_number a.base in
    let most = base_most a.base in
    let r = c.number-radix.ensures in
    let v = c.digit_val-d.ensures in
    let i = digit_is (goal.at.loop-len-preserved c).In-Some in
    let d : digit_val (get_or a.src.now (a.at + l.len) 0) < b = omega (arith, i, v, r) in (
      omega (arith, c.in-Some.ensures.lookup.3.0, c.well_formed.0.1),
      grow l.value c.number-radix.result c.digit_val-d.result l.len l.invariant.1 (omega arith) c.if-radix-d.false,
      rw (r, v, i)
          (l.invariant.2
          ∙ ap (grown l.len) (next_digit b a.count a.src.now a.at l.len l.value c.loop-len-test.true c.in-Some.ensures.lookup.3.0 d most)
          ∙ grown_more l.len _),
    )

pub returns : goal.returns
returns c =
    let a = c.args in
    let l = c.loop-len in
    let all : l.len ≡ a.count = omega arith in
    rw all at (ap whole (sym (l.invariant.2 ∙ ap (grown l.len) (all_read (base_number a.base) a.count a.src.now a.at l.len l.value c.loop-len-test.false) ∙ grown_stop _ _ _)))
