-- Steps of the code. No public contract cites this file.
use Rattle.std.specs.Prelude.{ℕ, cond}
use Rattle.words.specs.Word.{is_word}

-- what the search by eight bytes has for a byte: a mark, where it is no part of a word
unfoldable pub other_mark : ℕ → ℕ
other_mark b = cond (is_word b) 0 0x80
