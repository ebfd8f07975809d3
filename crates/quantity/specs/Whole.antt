-- The whole number that digits form, unless it is 2^64 or more.
use Rattle.std.specs.Prelude.{ℕ, ◌^◌, cond, ltb, Option, Some, None}

-- a number that 64 bits hold, or nothing
unfoldable pub capped : ℕ → Option ℕ
capped n = cond (ltb n (2 ^ 64)) (Some n) None
