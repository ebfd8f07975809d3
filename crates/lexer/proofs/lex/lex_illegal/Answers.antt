-- `lexer::lex::lex_illegal` meets its contract: one character, a stray byte or not.
use mathlib.Core.Path.{◌≡◌, refl}
use mathlib.Core.Bool.{Bool, true, false, cond}
use native.Mathlib.Omega.{arith}
use borrow.Author.Rules.{rules}
use mir.Val.{bool_byte}
use Rattle.utf8.specs.Chars.{is_stray}
use Rattle.utf8.proofs.First.{there_fits}
use Rattle.lexer.proofs.Tokens.{illegal_said}
use Rattle.lexer.proofs.lex.lex_illegal.Goals as goal

pub overflow_add-at : goal.overflow_add-at
overflow_add-at c =
    let a = c.args in
    omega (arith, there_fits a.src.now a.at c.char_from-c.result (search rules) c.char_from-c.ensures)

-- a flag counts as one or none
counted : (b : Bool) → bool_byte b ≡ cond b 1 0
counted true = refl
counted false = refl

pub returns : goal.returns
returns c =
    let a = c.args in
    rw (c.unknown_token.ensures, c.from.ensures, c.is_stray-stray.ensures, counted (is_stray c.char_from-c.result))
    (illegal_said a.src.now a.at c.requires.0 a.mark c.requires.1 c.requires.2 c.requires.3 c.char_from-c.result c.char_from-c.ensures)
