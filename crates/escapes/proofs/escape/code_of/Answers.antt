-- `escapes::escape::code_of` meets its contract: the tests in their order.
use Rattle.std.proofs.lemmas.Result.{err_from_is_err_and}
use Rattle.escapes.specs.Escape.{code_point_of}
use Rattle.escapes.proofs.Steps.{bad_code}
use Rattle.escapes.proofs.escape.code_of.Goals as goal

pub returns-in_err-code : goal.returns-in_err-code
returns-in_err-code c = let p = err_from_is_err_and c.from_residual.result c.from_residual.ensures.1 in rw (p.1, p.2, c.in_err-code.was, bad_code)

pub returns-then-not-is_scalar : goal.returns-then-not-is_scalar
unfolding code_point_of
returns-then-not-is_scalar c = rw (c.in_ok-code.was, ← c.if-not-is_scalar.ensures)

pub returns : goal.returns
unfolding code_point_of
returns c = rw (c.in_ok-code.was, ← c.if-not-is_scalar.ensures)
