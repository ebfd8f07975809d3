-- `quotes::body::body_at` meets its contract. The loop's invariant: what was read and what is left make the whole.
use Prim.Native.Nat.{◌-◌, ◌≤◌}
use mathlib.Core.Path.{◌≡◌}
use lib.ListN.{length}
use Rattle.quotes.specs.Body.{quoted_at}
use Rattle.quotes.specs.Steps.{quote_code}
use Rattle.quotes.proofs.Bounds.{Within}
use Rattle.quotes.proofs.Places.{joined}
use Rattle.quotes.proofs.body.body_at.Given as goal

abbrev pub invariant-loop-p : goal.invariant-loop-p
invariant-loop-p l =
    let quote = quote_code l.quote in
    Within l.p l.content × (l.content.chars ≤ length l.src) × (quoted_at quote l.src l.at ≡ joined l.content (quoted_at quote l.src l.p))

abbrev pub decreases-loop-p : goal.decreases-loop-p
decreases-loop-p l = length l.src - l.p
