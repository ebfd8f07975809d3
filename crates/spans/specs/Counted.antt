-- Steps of the code. No public contract cites this file.
use Rattle.std.specs.Prelude.{◌≤◌}
use Rattle.spans.specs.declared.body.Body.{Body}

-- the counts of a body that was read: none is above the number of its characters, nor this above
-- its end
pub record Counted (b : Body) : Type 0 where
  pub chars : b.chars ≤ b.end
  pub lfs : b.lfs ≤ b.chars
  pub crs : b.crs ≤ b.chars
  pub strays : b.strays ≤ b.chars
