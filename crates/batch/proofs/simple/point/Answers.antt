-- `simple::point` meets its contract: a point with a letter after it is all of an operator.
use Prim.Native.Nat.{◌+◌}
use mathlib.Core.Bool.{false}
use mathlib.Core.Path.{refl, sym}
use native.Mathlib.Nat.{add-zero}
use native.Mathlib.Omega.{arith}
use Rattle.kinds.specs.declared.kind.Kind.TheVariants.{Period}
use Rattle.lexer.specs.declared.lexed.Text.TheVariants.{Empty}
use Rattle.batch.proofs.SimpleTokens.{letter_first, point_read}
use Rattle.batch.proofs.Giving.{gives_plain}
use Rattle.batch.proofs.simple.point.Goals as goal

pub returns : goal.returns
returns c =
    let a = c.args.start in
    let letter = letter_first _ (a.bytes (a.at + 1)) (sym c.in-Letter.ensures) in
    gives_plain a.src.now a.at a.safe a.position Period (a.at + 1) 1 false false Empty 0
    (λ m. point_read a.src.now a.at m c.requires letter) (omega arith) refl refl (omega (arith, a.early))
    (rw (add-zero a.at, c.simple_token.ensures))
