-- `quantity::parts::count_digits` meets its contract: the count is the definition's.
use mathlib.Core.Path.{sym, ◌∙◌}
use borrow.Author.Rules.{rules}
use borrow.Author.Tests.{tests}
use Rattle.std.proofs.lemmas.List.Sums.{length-filter}
use Rattle.std.proofs.lemmas.Iterator.{YieldsList-from_slice}
use Rattle.std.proofs.lemmas.Iterator.Consumers.{YieldsList-from_filter, count_from_yields_List}
use Rattle.digits.specs.Digit.{is_decimal}
use Rattle.quantity.proofs.Texts.{count_is}
use Rattle.quantity.proofs.parts.count_digits.Goals as goal

pub returns : goal.returns
returns c =
    let text = c.args.text.now in
    count_from_yields_List _ c.count.result c.count.ensures.ran (YieldsList-from_filter _ is_decimal (YieldsList-from_slice text cc) c.filter.ensures.closure (λ x r q k. search (rules, tests)))
    ∙ length-filter is_decimal text ∙ sym (count_is text)
