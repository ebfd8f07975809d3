-- `literal::decimal` meets its contract: what was read is digits alone, and nothing after them belongs to a number.
use Prim.Native.Nat.{◌+◌}
use mathlib.Core.Path.{◌≡◌, sym, ap, ◌∙◌}
use native.Mathlib.Omega.{arith}
use lib.ListN.{get_or}
use Rattle.batch.proofs.DecimalTokens.{ends_number, number_ends, goes_not_on, digits_end, digits_all, some_digit, gives_integer}
use Rattle.batch.proofs.literal.decimal.Goals as goal
use Rattle.batch.proofs.literal.decimal.Goals.{then-start-eq48+else-count-ne1, else-start-eq48}

pub returns : goal.returns
returns c =
    let a = c.args.start in
    let n = c.in_ok-count.count in
    let is = c.in_ok-count.ensures in
    let end = digits_end a.src.now a.at a.safe n a.inside is in
    let stop = ap ends_number (sym c.first.ensures) ∙ number_ends c.first.result c.in_default.not-Letter c.in_default.not-Point in
    let behind = goes_not_on (get_or a.src.now (a.at + n) 0) (a.bytes (a.at + n)) end.1 stop in
    let alone : get_or a.src.now a.at 0 ≡ 48 → a.at + 1 ≡ a.at + n =
    λ e. elim c.if-start-eq48.branch [ then-start-eq48+else-count-ne1 w ↦ ap (λ k. a.at + k) (sym w.if-count-ne1.false) | else-start-eq48 w ↦ absurd (w.if-start-eq48.false e) ] in
    gives_integer a.src.now a.at (a.at + n) (some_digit a.src.now a.at a.safe n a.inside is c.requires) (digits_all a.src.now a.at a.safe n a.inside is) behind alone
    a.safe a.position (omega (arith, end.0)) (rw c.simple_token.ensures)
