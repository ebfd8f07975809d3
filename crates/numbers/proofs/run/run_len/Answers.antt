-- `numbers::run::run_len` meets its contract: the run ends before the first byte that is none of it.
use mathlib.Core.Path.{sym, ◌∙◌}
use mathlib.Core.Bool.{not}
use borrow.Author.Rules.{rules}
use borrow.Author.Tests.{tests}
use Rattle.std.proofs.lemmas.Iterator.{YieldsList-from_slice}
use Rattle.std.proofs.lemmas.Iterator.Search.{position_from_yields_List}
use Rattle.digits.proofs.First.{first_or_all}
use Rattle.numbers.specs.Run.{is_digit_or_underscore}
use Rattle.numbers.proofs.Runs.{longest_is}
use Rattle.numbers.proofs.run.run_len.Goals as goal

pub returns : goal.returns
returns c =
    let text = c.args.text.now in
    let found = position_from_yields_List (λ b. not (is_digit_or_underscore b)) _ _ c.position.result c.position.ensures.ran (YieldsList-from_slice text c.iter.ensures.rest) (λ x b q k. search (rules, tests)) in
    c.unwrap_or.ensures ∙ first_or_all (λ b. not (is_digit_or_underscore b)) text c.position.result found ∙ sym (longest_is text)
