-- `lexer::number::lex_number` meets its contract: the field that each call gives, and what is said of a number.
use mathlib.Core.Path.{ap}
use native.Mathlib.Omega.{arith}
use Rattle.lexer.proofs.Numerals.{gained_most, number_end, numeral_said}
use Rattle.lexer.proofs.number.lex_number.Goals as goal

pub overflow_add-text : goal.overflow_add-text
overflow_add-text c =
    let n = c.scan_number-n in
    let a = c.args in
    omega (arith, ap (λ x. x.end) n.ensures, number_end a.src.now a.at c.requires.0, c.gained.ensures, gained_most n.result.spelling)

pub returns : goal.returns
returns c =
    let n = c.scan_number-n in
    rw (c.bare.ensures, c.gained.ensures, c.respelled.ensures, ap (λ x. x.end) n.ensures, ap (λ x. x.spelling) n.ensures)
    (numeral_said c.args.src.now c.args.at c.requires.1 n.result.kind n.result.error (ap (λ x. x.kind) n.ensures) (ap (λ x. x.error) n.ensures))
