-- `encoding::encoded_byte` meets its contract: by the place of the byte among those that the code is written in.
use Prim.Native.Nat.{◌-◌}
use mathlib.Core.Path.{sym, ◌∙◌}
use native.Mathlib.Omega.{arith}
use borrow.Author.Tests.{ne_eqb}
use Rattle.encoding.proofs.Written.{encode_at, code_limit, digit_most, lead_most}
use Rattle.encoding.proofs.encoded_byte.Goals as goal

pub overflow_add-result : goal.overflow_add-result
overflow_add-result c =
    let x = c.args in
    omega (
      arith,
      code_limit x.code (omega (arith, c.encoded_len-n.ensures)),
      digit_most x.code (c.encoded_len-n.result - 1 - x.k),
      lead_most c.encoded_len-n.result,
      c.lead_of.ensures,
      c.digit_of-bits.ensures,
    )

pub returns-then-k-eq0 : goal.returns-then-k-eq0
returns-then-k-eq0 c =
    let x = c.args in
    let n = c.encoded_len-n in
    rw (c.lead_of.ensures, c.digit_of-bits.ensures, n.ensures)
    (sym (encode_at x.code x.k (omega (arith, n.ensures)) ∙ rw c.if-k-eq0.true))

pub returns : goal.returns
returns c =
    let x = c.args in
    let n = c.encoded_len-n in
    rw (c.digit_of-bits.ensures, n.ensures)
    (sym (encode_at x.code x.k (omega (arith, n.ensures)) ∙ rw (ne_eqb x.k 0 c.if-k-eq0.false)))
