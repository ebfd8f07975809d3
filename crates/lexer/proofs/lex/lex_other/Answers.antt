-- `lexer::lex::lex_other` meets its contract: a comment, two points, or an operator.
use Prim.Native.Nat.{◌+◌}
use mathlib.Core.Path.{refl, sym, ap, ◌∙◌}
use native.Mathlib.Omega.{arith}
use borrow.Author.Rules.{rules}
use Rattle.kinds.specs.declared.kind.Kind.TheVariants.{Illegal}
use Rattle.lexer.specs.Placed.{said, placed}
use Rattle.lexer.proofs.Tokens.{shown_said}
use Rattle.lexer.proofs.Dispatch.{comment_is, points_ascii, points_is, operator_is}
use Rattle.lexer.proofs.lex.lex_other.Goals as goal

pub returns-then-starts_comment : goal.returns-then-starts_comment
returns-then-starts_comment c =
    let a = c.args in
    c.lex_comment.ensures
    ∙ ap (placed a.src.now a.at) (comment_is a.mark a.src.now a.at (search rules) a.second (search rules) (sym c.starts_comment.ensures ∙ c.if-starts_comment.true))

pub returns-then-is_two_points : goal.returns-then-is_two_points
returns-then-is_two_points c =
    let a = c.args in
    let t = sym c.is_two_points.ensures ∙ c.if-is_two_points.true in
    let p = points_ascii a.src.now a.at _ t in
    ap (said a.src.now a.at) c.unknown_token.ensures
    ∙ shown_said a.src.now a.at (a.at + 2) 2 Illegal a.mark p.0 refl (λ e. omega arith) _ (omega arith) refl p.1 p.2
    ∙ ap (placed a.src.now a.at) (points_is a.mark a.src.now a.at (search rules) a.second (search rules) (search rules) t)

pub returns : goal.returns
returns c =
    let a = c.args in
    c.lex_operator.ensures
    ∙ ap (placed a.src.now a.at) (operator_is a.mark a.src.now a.at (search rules) a.second (search rules) (search rules)
    (sym c.starts_comment.ensures ∙ c.if-starts_comment.false) (sym c.is_two_points.ensures ∙ c.if-is_two_points.false))
