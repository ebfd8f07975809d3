-- `simple::operator` meets its contract: there is an operator, as its first byte is one by itself.
use Prim.Native.Nat.{◌+◌}
use mathlib.Core.Bool.{false}
use native.Mathlib.Nat.{add-zero}
use native.Mathlib.Omega.{arith}
use borrow.Author.Tests.{ne_eqb}
use lib.ListN.{get_or}
use Rattle.kinds.specs.Kinds.{EOF, STRING}
use Rattle.kinds.specs.Number.{kind_number}
use Rattle.kinds.proofs.Tags.{kind_tag}
use Rattle.lexer.specs.declared.lexed.Text.TheVariants.{Empty}
use Rattle.kinds.specs.Table.{sets_mark}
use Rattle.batch.proofs.SimpleTokens.{operator_first, operator_kind, operator_within, operator_three, operator_reads}
use Rattle.batch.proofs.Giving.{gives_plain}
use Rattle.batch.proofs.simple.operator.Goals as goal

pub overflow_add-result : goal.overflow_add-result
overflow_add-result c =
    let a = c.args.start in
    let starts = operator_first (get_or a.src.now a.at 0) (a.bytes a.at) c.requires in
    omega (arith, operator_within a.src.now a.at c.scan_operator-o.result c.scan_operator-o.ensures starts)

pub returns : goal.returns
returns c =
    let a = c.args.start in
    let o = c.scan_operator-o.result in
    let is = c.scan_operator-o.ensures in
    let starts = operator_first (get_or a.src.now a.at 0) (a.bytes a.at) c.requires in
    let k = operator_kind a.src.now a.at o is starts in
    gives_plain a.src.now a.at a.safe a.position o.kind (a.at + o.len) o.len false (sets_mark (kind_number o.kind)) Empty 0
    (operator_reads a.src.now a.at o is starts) (omega arith)
    (ne_eqb (kind_number o.kind) EOF k.1) (ne_eqb (kind_number o.kind) STRING k.2)
    (omega (arith, operator_three a.src.now a.at o is starts, a.early))
    (rw (add-zero a.at, c.simple_token.ensures, c.sets_mark.ensures, kind_tag o.kind))
