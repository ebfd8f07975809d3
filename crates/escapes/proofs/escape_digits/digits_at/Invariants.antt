-- `escapes::escape_digits::digits_at` meets its contract. The loop's invariant: what is left of the digits and what was read make the whole, and the value so far fits its digits.
use Prim.Native.Nat.{◌+◌, ◌^◌, ◌<◌}
use mathlib.Core.Path.{◌≡◌}
use lib.ListN.{drop}
use Rattle.utf8.specs.Chars.{chars}
use Rattle.digits.specs.Base.{base_number}
use Rattle.escapes.specs.EscapeDigits.{escape_digits}
use Rattle.escapes.proofs.DigitLaws.{grown, left_of}
use Rattle.escapes.proofs.escape_digits.digits_at.Given as goal

abbrev pub invariant-loop-len : goal.invariant-loop-len
invariant-loop-len l =
    (l.at + l.len < 2 ^ 64) × (l.value < 16 ^ l.len)
    × (escape_digits (base_number l.fn.base) l.count 0 (chars (drop l.at l.src)) ≡ grown l.len (left_of (base_number l.fn.base) l.count l.src l.at l.len l.value))
