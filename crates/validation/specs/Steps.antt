-- Steps of the code. No public contract cites this file.
-- Blocks of ASCII bytes, which are checked at once.
use Rattle.std.specs.Prelude.{ℕ, ◌+◌, Bool, true, ◌&&◌, List, [], ◌∷◌, ltb, leb, length, take, drop}

-- are the bytes of a text all ASCII
abbrev pub all_ascii : List ℕ → Bool
all_ascii [] = true
all_ascii (b ∷ s) = ltb b 0x80 && all_ascii s

-- are there 32 bytes of ASCII at a place
unfoldable pub ascii_block : List ℕ → ℕ → Bool
ascii_block s at = leb (at + 32) (length s) && all_ascii (take 32 (drop at s))
