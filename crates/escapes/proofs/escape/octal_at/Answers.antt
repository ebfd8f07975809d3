-- `escapes::escape::octal_at` meets its contract: by those of its two calls.
use mathlib.Core.Path.{ap}
use Rattle.escapes.specs.EscapeDigits.{Digits}
use Rattle.escapes.specs.Escape.{octal_escape}
use Rattle.escapes.proofs.Steps.{byte_whole}
use Rattle.escapes.proofs.escape.octal_at.Goals as goal

pub returns : goal.returns
unfolding octal_escape
returns c = rw (ap (λ (x : Digits). x.len) c.digits_at-n.ensures, c.byte_of.ensures, c.digits_at-n.ensures, byte_whole)
