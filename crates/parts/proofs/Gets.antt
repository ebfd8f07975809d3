-- What a library's `get` of a part's range answers.
use Prim.Native.Nat.{ℕ}
use Rattle.std.specs.Prelude.{Option, Some, None, ok_or}
use Rattle.std.specs.Borrow.{Bor}
use Rattle.std.specs.Slice.{IsGetRangeResult}
use mathlib.Core.Path.{◌≡◌}
use mathlib.Core.Bool.{and-false}
use mathlib.Core.List.{List}
use mathlib.Core.Logic.{⊎_elim}
use lib.ListN.{length}
use borrow.Author.Tests.{le-leb, lt-leb}
use Rattle.refusal.specs.declared.Refusal.TheVariants.{DoesNotFit}
use Rattle.parts.specs.declared.part.Part.{Part}
use Rattle.parts.specs.Shown.{shown_in, shown_as}

pub shown_got : (buffer : List ℕ) (p : Part) (o : Option (Bor (List ℕ))) → IsGetRangeResult buffer p.start p.end o → shown_as (ok_or o DoesNotFit) ≡ shown_in buffer p
shown_got buffer p None h = ⊎_elim (λ a. rw (lt-leb p.start p.end a)) (λ b. rw (lt-leb p.end (length buffer) b, and-false)) h.0
shown_got buffer p (Some x) h = rw (le-leb _ _ h.0.0, le-leb _ _ h.0.1, h.0.2)
