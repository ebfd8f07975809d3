-- Where a reader is after it has read.
use Rattle.std.specs.Prelude.{ℕ, ◌+◌, List}
use Rattle.utf8.specs.Chars.{char_at}

-- the place after the character at a place; at the end nothing is read, and the place stays
unfoldable pub read_place : List ℕ → ℕ → ℕ
read_place s place = place + (char_at s place).width
