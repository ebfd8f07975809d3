-- `numbers::is_bare_octal` meets its contract: by the byte after the 0, and the byte after the run.
use mathlib.Core.Path.{◌≡◌, sym, ap, ◌∙◌}
use mathlib.Core.Bool.{not}
use lib.ListN.{get_or}
use Rattle.numbers.specs.Run.{is_digit_or_underscore}
use Rattle.numbers.specs.Number.{makes_decimal}
use Rattle.numbers.proofs.Numerals.{octal_first}
use Rattle.numbers.proofs.is_bare_octal.Goals as goal
use Rattle.numbers.proofs.is_bare_octal.Goals.{After-is_digit_or_underscore}

-- the code's test is the definition's
follows : (c : After-is_digit_or_underscore) → c.is_digit_or_underscore.result ≡ is_digit_or_underscore (get_or c.args.text.now 1 0)
follows c = c.is_digit_or_underscore.ensures ∙ ap is_digit_or_underscore c.byte.ensures

pub returns-then-not-is_digit_or_underscore : goal.returns-then-not-is_digit_or_underscore
returns-then-not-is_digit_or_underscore c =
    sym (octal_first c.args.text.now c.requires ∙ rw (sym (follows (goal.at.returns-then-not-is_digit_or_underscore c).After-is_digit_or_underscore) ∙ c.if-not-is_digit_or_underscore.true))

pub returns : goal.returns
returns c =
    let behind = c.makes_decimal.ensures ∙ ap makes_decimal (c.byte-2.ensures ∙ ap (λ p. get_or c.args.text.now p 0) c.run_len.ensures) in
    ap not behind ∙ sym (octal_first c.args.text.now c.requires ∙ rw (sym (follows (goal.at.returns c).After-is_digit_or_underscore) ∙ c.if-not-is_digit_or_underscore.false))
