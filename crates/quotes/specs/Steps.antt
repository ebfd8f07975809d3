-- Steps of the code. No public contract cites this file.
-- The body of a quoted literal as it is read: what a piece of it adds, and how it ends.
use Rattle.std.specs.Prelude.{ℕ, ◌+◌, Bool, true, false, cond, ◌||◌, eqb, length}
use Rattle.utf8.specs.declared.Char.{Char}
use Rattle.utf8.specs.Chars.{is_stray}
use Rattle.escapes.specs.Answers.{character, bytes_of}
use Rattle.quotes.specs.declared.content.Content.{Content}
use Rattle.quotes.specs.declared.plain.Quote.{Quote}
use Rattle.quotes.specs.declared.plain.Quote.TheVariants.{Single, Double}
use Rattle.quotes.specs.Body.{ReadBody}
use Rattle.quotes.specs.Literal.{double_quote, single_quote}
use Rattle.quotes.specs.Plain.{is_plain_byte}

-- the code of a quote
abbrev pub quote_code : Quote → ℕ
quote_code Single = single_quote
quote_code Double = double_quote

-- before the first character
abbrev pub nothing_read : Content
nothing_read = record { chars = 0; count = 0; code = 0; escaped = false; strays = 0; bytes = 0 }

-- one piece more
unfoldable pub added : Content → Content → Content
added q x =
    record {
      chars = q.chars + x.chars;
      count = q.count + x.count;
      code = cond (eqb q.count 0) x.code q.code;
      escaped = x.escaped || q.escaped;
      strays = q.strays + x.strays;
      bytes = q.bytes + x.bytes;
    }

-- an escape of n characters
abbrev pub escape_piece : ℕ → ℕ → Bool → Content
escape_piece n code byte = record { chars = n; count = 1; code = code; escaped = true; strays = 0; bytes = length (bytes_of (character code byte)) }

-- a character that is written as itself
abbrev pub char_piece : Char → Content
char_piece c = record { chars = 1; count = 1; code = c.code; escaped = false; strays = cond (is_stray c) 1 0; bytes = c.width }

-- a run of n such characters of one byte, by the code of the first
abbrev pub plain_piece : ℕ → ℕ → Content
plain_piece n code = record { chars = n; count = n; code = code; escaped = false; strays = 0; bytes = n }

-- the end of the body, after n characters more
unfoldable pub body_end : Content → ℕ → ℕ → Bool → ℕ → ReadBody
body_end q end n closed error =
    record {
      end = end;
      chars = q.chars + n;
      closed = closed;
      error = error;
      count = q.count;
      code = q.code;
      escaped = q.escaped;
      strays = q.strays;
      bytes = q.bytes;
    }

-- the mark of a byte that is no plain character, for the search by eight bytes
unfoldable pub stop_mark : ℕ → ℕ → ℕ
stop_mark quote b = cond (is_plain_byte quote b) 0 0x80
