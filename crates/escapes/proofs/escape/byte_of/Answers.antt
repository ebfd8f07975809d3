-- `escapes::escape::byte_of` meets its contract: the tests in their order.
use native.Mathlib.Omega.{arith}
use borrow.Author.Tests.{lt-ltb, le-ltb}
use Rattle.std.proofs.lemmas.Result.{err_from_is_err_and}
use Rattle.escapes.specs.Escape.{byte_of}
use Rattle.escapes.proofs.Steps.{bad_byte}
use Rattle.escapes.proofs.escape.byte_of.Goals as goal

pub returns-in_err-code : goal.returns-in_err-code
returns-in_err-code c = let p = err_from_is_err_and c.from_residual.result c.from_residual.ensures.1 in rw (p.1, p.2, c.in_err-code.was, bad_byte)

pub returns-in_default : goal.returns-in_default
unfolding byte_of
returns-in_default c = rw (c.in_ok-code.was, lt-ltb 0xFF c.in_ok-code.code (omega (arith, c.in_default.ensures)))

pub returns : goal.returns
unfolding byte_of
returns c = rw (c.in_ok-code.was, c.in-Ok.ensures.1, le-ltb 0xFF c.in_ok-code.code (omega (arith, c.in-Ok.ensures.0)))
