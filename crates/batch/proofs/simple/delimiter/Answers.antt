-- `simple::delimiter` meets its contract: its byte tells a delimiter.
use mathlib.Core.Bool.{false}
use Prim.Native.Nat.{◌+◌}
use mathlib.Core.Path.{refl}
use native.Mathlib.Nat.{add-zero}
use native.Mathlib.Omega.{arith}
use lib.ListN.{get_or}
use borrow.Author.Tests.{ne_eqb}
use Rattle.kinds.specs.Kinds.{EOF, STRING}
use Rattle.kinds.specs.Number.{kind_number}
use Rattle.kinds.proofs.Tags.{kind_tag}
use Rattle.lexer.specs.declared.lexed.Text.TheVariants.{Empty}
use Rattle.kinds.specs.Table.{sets_mark}
use Rattle.batch.proofs.SimpleTokens.{delimiter_kind, delimiter_read}
use Rattle.batch.proofs.Giving.{gives_plain}
use Rattle.batch.proofs.simple.delimiter.Goals as goal

pub returns : goal.returns
returns c =
    let a = c.args.start in
    let kind = c.args.kind in
    let b = get_or a.src.now a.at 0 in
    let high = delimiter_kind b (a.bytes a.at) kind c.requires in
    gives_plain a.src.now a.at a.safe a.position kind (a.at + 1) 1 false (sets_mark (kind_number kind)) Empty 0
    (λ m. delimiter_read a.src.now a.at m b (a.bytes a.at) kind c.requires refl) (omega arith)
    (ne_eqb (kind_number kind) EOF (λ e. omega (arith, high, e))) (ne_eqb (kind_number kind) STRING (λ e. omega (arith, high, e))) (omega (arith, a.early))
    (rw (add-zero a.at, c.simple_token.ensures, c.sets_mark.ensures, kind_tag kind))
