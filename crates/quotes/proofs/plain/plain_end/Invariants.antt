-- `quotes::plain::plain_end` meets its contract. The loop's invariant: the run ends where it would from here.
use Prim.Native.Nat.{◌+◌, ◌-◌}
use mathlib.Core.Path.{◌≡◌}
use lib.ListN.{length, drop}
use Rattle.quotes.specs.Plain.{plain_len}
use Rattle.quotes.specs.Steps.{quote_code}
use Rattle.quotes.proofs.plain.plain_end.Given as goal

abbrev pub invariant-loop-n : goal.invariant-loop-n
invariant-loop-n l = l.at + plain_len (quote_code l.quote) (drop l.at l.src) ≡ l.p + plain_len (quote_code l.quote) (drop l.p l.src)

abbrev pub decreases-loop-n : goal.decreases-loop-n
decreases-loop-n l = length l.src - l.p
