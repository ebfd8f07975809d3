-- `literal::digits_before` meets its contract: the search finds the first byte that is no digit.
use mathlib.Core.Bool.{not}
use mathlib.Core.Path.{◌≡◌, sym}
use Rattle.std.specs.Prelude.{Option, Some, None, IfSome}
use borrow.Author.Rules.{rules}
use borrow.Author.Tests.{tests, not-true, not-false}
use Prim.Native.Nat.{ℕ}
use mathlib.Core.List.{List}
use Rattle.std.specs.List.{position}
use Rattle.std.proofs.lemmas.Iterator.{YieldsList-from_slice}
use Rattle.std.proofs.lemmas.Iterator.Search.{position_from_yields_List}
use Rattle.std.proofs.lemmas.List.Quantifiers.{position-Some}
use Rattle.digits.specs.Digit.{is_decimal}
use Rattle.batch.specs.Simple.{DigitsBefore}
use Rattle.batch.proofs.literal.digits_before.Goals as goal

found : (text : List ℕ) (r : Option ℕ) → r ≡ position (λ b. not (is_decimal b)) text → IfSome r (DigitsBefore text)
found text None e = tt
found text (Some n) e =
    let at = position-Some (λ b. not (is_decimal b)) text n 0 (sym e) in
    (at.0, not-true _ at.1, λ k h. not-false _ (at.2 k h))

pub returns : goal.returns
returns c =
    let text = c.args.text.now in
    found text c.position.result
    (position_from_yields_List (λ b. not (is_decimal b)) _ _ c.position.result c.position.ensures.ran (YieldsList-from_slice text c.iter.ensures.rest) (λ x b q k. search (rules, tests)))
