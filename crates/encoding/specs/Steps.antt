-- Steps of the code. No public contract cites this file.
-- The bits of a code that a byte is made of.
use Rattle.std.specs.Prelude.{ℕ, ◌/◌, cond, eqb}

-- a code without its last six bits, so many times, at most three
unfoldable pub digit : ℕ → ℕ → ℕ
digit code times = cond (eqb times 0) code (cond (eqb times 1) (code / 64) (cond (eqb times 2) (code / 4096) (code / 262144)))

-- what the first of n bytes adds to the first bits of a code
unfoldable pub lead : ℕ → ℕ
lead n = cond (eqb n 1) 0 (cond (eqb n 2) 0xC0 (cond (eqb n 3) 0xE0 0xF0))
