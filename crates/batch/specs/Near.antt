-- Steps of the code. No public contract cites this file. Blanks between most tokens, as the code of many scans reads them.
use Rattle.std.specs.Prelude.{ℕ, ◌+◌, ◌≡◌, Bool, List, ◌⊎◌, drop, get_or, Option, Some, None, IfSome}
use Prim.Native.Char.{code}
use Rattle.utf8.specs.Chars.{chars}
use Rattle.blanks.specs.declared.Skipped.{Skipped}
use Rattle.blanks.specs.Blank.{skip, skipped_at}
use Rattle.batch.specs.declared.near.Near.{Near}

abbrev pub line_feed : ℕ
line_feed = code "\n"

-- a place is another one, or after a space there
abbrev pub SpaceTo : List ℕ → ℕ → ℕ → Type 0
SpaceTo src at p = (p ≡ at) ⊎ ((get_or src at 0 ≡ code " ") × (p ≡ at + 1))

-- how many line feeds they have, by the place after one
abbrev pub feeds_of : Option ℕ → ℕ
feeds_of None = 0
feeds_of (Some line) = 1

-- the place after it, or where they start
abbrev pub line_from : ℕ → Option ℕ → ℕ
line_from at None = at
line_from at (Some line) = line

-- the blanks at a place that it says
abbrev pub near_as : ℕ → Near → Skipped
near_as at r = record { end = r.end; lfs = feeds_of r.line; line = r.line }

-- where they are found, they are all blanks at the place
abbrev pub NearAt : List ℕ → ℕ → Bool → Option Near → Type 0
NearAt src at mark r = IfSome r (λ blanks. near_as at blanks ≡ skipped_at at (skip mark (chars (drop at src))))
