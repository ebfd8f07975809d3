-- A slice that is too short for what it is to hold.
use Rattle.std.specs.Prelude.{ℕ, Bool, ◌||◌, ltb}

-- of two slices, by their lengths a and b: one is shorter than the n or m numbers that it is to
-- hold
unfoldable pub too_short : ℕ → ℕ → ℕ → ℕ → Bool
too_short a n b m = ltb a n || ltb b m
