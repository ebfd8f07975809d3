-- Steps of the code. No public contract cites this file.
use Rattle.std.specs.Prelude.{ℕ, cond, ltb}
use Rattle.kinds.specs.Kinds.{NONE}

-- a number as a kind, which has eight bits; a larger number is no kind
abbrev pub kind_of : ℕ → ℕ
kind_of n = cond (ltb n 256) n NONE
