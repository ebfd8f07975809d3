-- `quantity::parts::find` meets its contract: the search is the definition's.
use mathlib.Core.Path.{sym, ◌∙◌}
use lib.Dec.{eqb}
use borrow.Author.Rules.{rules}
use borrow.Author.Tests.{tests}
use Rattle.std.proofs.lemmas.Iterator.{YieldsList-from_slice}
use Rattle.std.proofs.lemmas.Iterator.Search.{position_from_yields_List}
use Rattle.digits.proofs.First.{first_or_all}
use Rattle.quantity.proofs.Texts.{first_is}
use Rattle.quantity.proofs.parts.find.Goals as goal

pub returns : goal.returns
returns c =
    let text = c.args.text.now in
    let found = position_from_yields_List (λ b. eqb b c.args.c) _ _ c.position.result c.position.ensures.ran (YieldsList-from_slice text c.iter.ensures.rest) (λ x b q k. search (rules, tests)) in
    c.unwrap_or.ensures ∙ first_or_all (λ b. eqb b c.args.c) text c.position.result found ∙ sym (first_is c.args.c text)
