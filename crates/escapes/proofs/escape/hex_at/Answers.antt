-- `escapes::escape::hex_at` meets its contract: by the number of digits, and by whether they give a byte.
use mathlib.Core.Path.{◌≡◌, ap}
use mathlib.Core.Bool.{false}
use native.Mathlib.Omega.{arith}
use native.Mathlib.Numerals.{add-one}
use lib.Dec.{eqb}
use lib.ListN.{drop}
use borrow.Author.Tests.{eq-eqb, ne_eqb}
use Rattle.utf8.specs.Chars.{chars}
use Rattle.escapes.specs.EscapeDigits.{Digits}
use Rattle.escapes.specs.Escape.{following, hex_escape}
use Rattle.escapes.proofs.DigitLaws.{digits_len}
use Rattle.escapes.proofs.EscapeLaws.{following_most}
use Rattle.escapes.proofs.Steps.{entry_none, entry_some, byte_whole, code_whole}
use Rattle.escapes.proofs.escape.hex_at.Goals as goal
use Rattle.escapes.proofs.escape.hex_at.Goals.{In-Some, then-first-eq120, else-first-eq120}

pub returns-in_default : goal.returns-in_default
unfolding hex_escape
returns-in_default c = rw (eq-eqb _ _ (entry_none _ c.in_default.ensures)) c.unread.ensures

-- so many digits follow
count_is : (c : In-Some) → (following c.args.first ≡ c.in-Some.count) × (eqb (following c.args.first) 0 ≡ false)
count_is c = entry_some _ _ c.in-Some.ensures

pub digits_at-n-requires : goal.digits_at-n-requires
digits_at-n-requires c = omega (arith, (count_is (goal.at.digits_at-n-requires c).In-Some).0, following_most c.args.first)

pub overflow_add-result : goal.overflow_add-result
overflow_add-result c =
    let a = c.args in
    let e = ap (λ (x : Digits). x.len) c.digits_at-n.ensures in
    record { fits = omega (arith, e, digits_len 16 c.in-Some.count 0 (chars (drop a.at a.src.now)), (count_is (goal.at.overflow_add-result c).In-Some).0, following_most a.first) }

pub returns : goal.returns
unfolding hex_escape
returns c =
    let i = count_is (goal.at.returns c).In-Some in
    let e = c.digits_at-n.ensures in
    elim c.if-first-eq120.branch [
      | then-first-eq120 w ↦
          rw (w.given-is, w.byte_of-given.ensures, e, byte_whole, ap (λ (x : Digits). x.len) e, i.1, i.0, eq-eqb _ _ w.if-first-eq120.true, add-one)
      | else-first-eq120 w ↦
          rw (w.given-is, w.code_of-given.ensures, e, code_whole, ap (λ (x : Digits). x.len) e, i.1, i.0, ne_eqb _ _ w.if-first-eq120.false, add-one)
    ]
