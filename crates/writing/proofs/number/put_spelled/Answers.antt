-- `writing::number::put_spelled` meets its contract, spelling by spelling.
use mathlib.Core.Path.{◌∙◌}
use mathlib.Core.List.{◌∷◌}
use Rattle.writing.proofs.Areas.{writes_as}
use Rattle.writing.proofs.Spellings.{byte_as_read, byte_prefix, byte_first, byte_after_o, byte_exponent}
use Rattle.writing.proofs.number.put_spelled.Goals as goal

pub returns-in-AsRead : goal.returns-in-AsRead
returns-in-AsRead c =
    let a = c.args in
    writes_as a.area.now a.to _ _ (byte_as_read a.k a.b c.in-AsRead.is) c.put.ensures

pub returns-in-LowerPrefix : goal.returns-in-LowerPrefix
returns-in-LowerPrefix c =
    let a = c.args in
    let w = rw c.lower_second.ensures at c.put-in-LowerPrefix.ensures in
    writes_as a.area.now a.to _ _ (byte_prefix a.k a.b c.in-LowerPrefix.is) w

pub returns-then-k-eq0 : goal.returns-then-k-eq0
returns-then-k-eq0 c =
    let a = c.args in
    writes_as a.area.now a.to _ _ (byte_first a.k a.b c.in-OctalPrefix.is c.if-k-eq0.true)
    (λ rest. c.put-n.ensures (111 ∷ rest) ∙ c.put-then-k-eq0.ensures rest)

pub returns-else-k-eq0 : goal.returns-else-k-eq0
returns-else-k-eq0 c =
    let a = c.args in
    writes_as a.area.now a.to _ _ (byte_after_o a.k a.b c.in-OctalPrefix.is c.if-k-eq0.false) c.put-n.ensures

pub returns-in-LowerExponent : goal.returns-in-LowerExponent
returns-in-LowerExponent c =
    let a = c.args in
    let w = rw c.lower_exponent.ensures at c.put-in-LowerExponent.ensures in
    writes_as a.area.now a.to _ _ (byte_exponent a.k a.b c.in-LowerExponent.is) w
