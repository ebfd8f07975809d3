-- The table has what the closure gives for each slot.
use borrow.Author.Rules.{rules}
use Rattle.kinds.specs.Table.{keywords}
use Rattle.keywords.specs.Search.{row_in}
use Rattle.kinds.proofs.Tags.{kind_tag}
use Rattle.keywords.proofs.Slots.{table_is}
use Rattle.keywords.proofs.keyword_kinds.Goals as goal

pub returns : goal.returns
returns c =
    table_is (λ slot. (row_in slot keywords).0) c.from_fn.result c.from_fn.ensures.items.long
    (λ i h. let x = c.from_fn.ensures.items.at i 0 h in let t = kind_tag in search (rules, t))
