-- A word of at most eight bytes is searched by its slot; a longer one is compared.
use mathlib.Core.Path.{◌≡◌, ap, ◌∙◌}
use borrow.Author.Rules.{rules}
use lib.ListN.{take}
use Rattle.kinds.specs.Table.{ident_token, keywords}
use Rattle.kinds.specs.Number.{kind_number}
use Rattle.keywords.specs.Search.{slot_of, pair, row_in}
use Rattle.keywords.proofs.Search.{searched, search_hit, search_miss, word_searched}
use Rattle.keywords.proofs.ident_token.Goals as goal
use Rattle.keywords.proofs.ident_token.Goals.{After-row_in-row}

-- what the search has found is the kind
found : (c : After-row_in-row)
    → searched c.number_of-number.result c.min-n.result
    ≡ ident_token (take c.args.len c.args.text.now)
found c =
    let text = c.args.text.now in
    ap (λ number. searched number c.min-n.result) c.number_of-number.ensures
    ∙ word_searched text c.args.len c.min-n.result
    (λ i. (c.type_inv.text i).fits) c.min-n.ensures (search rules)

row : (c : After-row_in-row)
    → pair (kind_number c.row_in-row.result.0) c.row_in-row.result.1 ≡ row_in (slot_of c.number_of-number.result c.min-n.result) keywords
row c = c.row_in-row.ensures ∙ ap (λ slot. row_in slot keywords) c.slot_of.ensures

pub returns-then-row-number : goal.returns-then-row-number
returns-then-row-number c =
    search_hit _ _ _ _ (row (goal.at.returns-then-row-number c).After-row_in-row) c.if-row-number.true
    ∙ found (goal.at.returns-then-row-number c).After-row_in-row

pub returns-else-row-number : goal.returns-else-row-number
returns-else-row-number c =
    search_miss _ _ _ _ (row (goal.at.returns-else-row-number c).After-row_in-row) c.if-row-number.false
    ∙ found (goal.at.returns-else-row-number c).After-row_in-row
