-- `line_of` meets its contract: the search of the library ends at the definition's line.
use mathlib.Core.Path.{ap, ◌∙◌}
use Rattle.std.proofs.Common.{rules, tests, ltb, length, unwrap_or}
use Rattle.std.proofs.lemmas.Iterator.{YieldsList-from_slice}
use Rattle.std.proofs.lemmas.Iterator.Search.{position_from_yields_List}
use Rattle.position.proofs.Lines.{line_search}
use Rattle.position.proofs.line_of.Goals as goal

pub returns : goal.returns
returns c =
    let a = c.args in
    c.unwrap_or.ensures
    ∙ ap (λ o. unwrap_or o (length a.starts.now)) (position_from_yields_List (λ x. ltb a.offset x) _ _ c.position.result c.position.ensures.ran (YieldsList-from_slice a.starts.now cc) (λ x b q k. search (rules, tests)))
    ∙ line_search a.starts.now a.offset
