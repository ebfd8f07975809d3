-- `simple::semicolon` meets its contract: before a line feed a semicolon is inserted, whatever the mark.
use mathlib.Core.Bool.{true, false}
use mathlib.Core.Path.{refl}
use native.Mathlib.Nat.{add-zero}
use native.Mathlib.Omega.{arith}
use Rattle.kinds.specs.declared.kind.Kind.TheVariants.{Semicolon}
use Rattle.lexer.specs.declared.lexed.Text.TheVariants.{Empty}
use Rattle.batch.proofs.SimpleTokens.{feed_read}
use Rattle.batch.proofs.Giving.{gives_plain}
use Rattle.batch.proofs.simple.semicolon.Goals as goal

pub returns : goal.returns
returns c =
    let a = c.args.start in
    gives_plain a.src.now a.at a.safe a.position Semicolon a.at 0 true false Empty 0
    (λ m. feed_read a.src.now a.at m c.requires) (omega arith) refl refl (omega (arith, a.early))
    (rw (add-zero a.at, c.simple_token.ensures))
