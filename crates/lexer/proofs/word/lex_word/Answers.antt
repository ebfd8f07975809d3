-- `lexer::word::lex_word` meets its contract: an identifier or a keyword.
use mathlib.Core.Path.{sym, ap, ◌∙◌}
use Rattle.kinds.specs.declared.kind.Kind.TheVariants.{Ident}
use Rattle.kinds.proofs.Tags.{kind_tag, same_number, other_number}
use Rattle.lexer.specs.Placed.{said}
use Rattle.lexer.proofs.Tokens.{identifier_said, keyword_said}
use Rattle.lexer.proofs.word.lex_word.Goals as goal

pub returns-then-eq : goal.returns-then-eq
returns-then-eq c =
    let a = c.args in
    let k = c.ident_token-kind.result in
    ap (said a.src.now a.at) c.as_read.ensures
    ∙ identifier_said a.src.now a.at _ k c.word_end-end.ensures c.ident_token-kind.ensures c.requires.1 (same_number k Ident (sym c.eq.ensures ∙ c.if-eq.true))

pub returns : goal.returns
returns c =
    let a = c.args in
    let k = c.ident_token-kind.result in
    ap (said a.src.now a.at) (c.bare.ensures ∙ rw (c.sets_mark.ensures, kind_tag k))
    ∙ keyword_said a.src.now a.at _ k c.word_end-end.ensures c.ident_token-kind.ensures (other_number k Ident (sym c.eq.ensures ∙ c.if-eq.false))
