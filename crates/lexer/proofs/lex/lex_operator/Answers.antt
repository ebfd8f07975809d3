-- `lexer::lex::lex_operator` meets its contract: an operator, or a character that starts none.
use mathlib.Core.Path.{sym, ap, ◌∙◌}
use native.Mathlib.Omega.{arith}
use borrow.Author.Rules.{rules}
use Rattle.kinds.specs.declared.kind.Kind.TheVariants.{Illegal}
use Rattle.kinds.proofs.Tags.{kind_tag, same_number, other_number}
use Rattle.lexer.specs.Placed.{said, placed}
use Rattle.lexer.proofs.Tokens.{operator_fits, operator_token, no_operator}
use Rattle.lexer.proofs.lex.lex_operator.Goals as goal

pub returns-then-eq : goal.returns-then-eq
returns-then-eq c =
    let a = c.args in
    let o = c.scan_operator-o in
    c.lex_illegal.ensures ∙ ap (placed a.src.now a.at) (no_operator a.src.now a.at a.mark o.result o.ensures (same_number o.result.kind Illegal (sym c.eq.ensures ∙ c.if-eq.true)))

pub overflow_add-at : goal.overflow_add-at
overflow_add-at c =
    let a = c.args in
    omega (arith, operator_fits a.src.now a.at a.mark c.scan_operator-o.result c.scan_operator-o.ensures (search rules))

pub returns : goal.returns
returns c =
    let a = c.args in
    let o = c.scan_operator-o in
    ap (said a.src.now a.at) (c.bare.ensures ∙ rw (c.sets_mark.ensures, kind_tag o.result.kind))
    ∙ operator_token a.src.now a.at a.mark o.result o.ensures (other_number o.result.kind Illegal (sym c.eq.ensures ∙ c.if-eq.false))
