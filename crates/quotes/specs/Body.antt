-- The body of a quoted literal, from after its opening quote.
use Rattle.std.specs.Prelude.{ℕ, zero, suc, ◌+◌, ◌*◌, ◌-◌, Bool, true, false, cond, List, [], ◌∷◌, ◌++◌, eqb, length, take, drop, is_none}
use Prim.Native.Char.{code}
use Rattle.utf8.specs.declared.Char.{Char}
use Rattle.utf8.specs.Chars.{chars, widths, is_stray, encode}
use Rattle.errors.specs.Numbers.{OPEN_QUOTE}
use Rattle.errors.specs.Faults.{error_number}
use Rattle.quotes.specs.declared.Quoted.{Quoted}
use Rattle.escapes.specs.Answers.{Meaning, character, no_character, bytes_of}
use Rattle.escapes.specs.Escape.{escape_of}

pub record Body : Type 0 where
  -- how many characters are read, the closing quote included
  pub len : ℕ
  -- is that quote read, and if not, the number of the error
  pub closed : Bool
  pub error : ℕ
  -- how many characters the literal has, and the code of its first
  pub count : ℕ
  pub code : ℕ
  -- its value in bytes
  pub value : List ℕ
  -- is one of its characters written as an escape
  pub escaped : Bool
  -- how many of them are stray bytes
  pub strays : ℕ

-- no more characters: how many are read at the end of the literal, is it closed, the error
abbrev pub ends : ℕ → Bool → ℕ → Body
ends n closed error = record { len = n; closed = closed; error = error; count = 0; code = 0; value = []; escaped = false; strays = 0 }

-- a character that is written as itself, before the rest; a stray byte is read as U+FFFD
abbrev pub plain : Char → Body → Body
plain c b =
    record {
      len = suc b.len;
      closed = b.closed;
      error = b.error;
      count = suc b.count;
      code = c.code;
      value = encode c.code ++ b.value;
      escaped = b.escaped;
      strays = cond (is_stray c) 1 0 + b.strays;
    }

-- an escape of n characters before the rest; one that gives no character ends the literal with its
-- error
abbrev pub escape : ℕ → Meaning → Body → Body
escape n (no_character error) b = ends n false error
escape n (character code byte) b =
    record {
      len = n + b.len;
      closed = b.closed;
      error = b.error;
      count = suc b.count;
      code = code;
      value = bytes_of (character code byte) ++ b.value;
      escaped = true;
      strays = b.strays;
    }

-- the body in a literal with the quote given, after k characters that belong to an escape; an error
-- where an LF or the end comes in place of the closing quote
unfoldable pub body_from : ℕ → ℕ → List Char → Body
body_from quote k [] = ends 0 false OPEN_QUOTE
body_from quote zero (c ∷ r) =
    cond (eqb c.code quote) (ends 1 true 0)
    (cond (eqb c.code (code "\n")) (ends 0 false OPEN_QUOTE)
    (cond (eqb c.code (code "\\")) (escape (suc (escape_of quote r).len) (escape_of quote r).meaning (body_from quote (escape_of quote r).len r))
    (plain c (body_from quote 0 r))))
body_from quote (suc k) (c ∷ r) = body_from quote k r

abbrev pub body : ℕ → List Char → Body
body quote r = body_from quote 0 r

-- a body at a place of a text, as it is read: where it ends, and of its value the number of bytes, where
-- each stray byte counts as one
pub record ReadBody : Type 0 where
  pub end : ℕ
  pub chars : ℕ
  pub closed : Bool
  pub error : ℕ
  pub count : ℕ
  pub code : ℕ
  pub escaped : Bool
  pub strays : ℕ
  pub bytes : ℕ

-- what the code gives of it
abbrev pub quoted_said : Quoted → ReadBody
quoted_said q =
    record {
      end = q.end;
      chars = q.content.chars;
      closed = is_none q.error;
      error = error_number q.error;
      count = q.content.count;
      code = q.content.code;
      escaped = q.content.escaped;
      strays = q.content.strays;
      bytes = q.content.bytes;
    }

-- a body of the characters r at a place; of a stray byte's U+FFFD one byte is counted
unfoldable pub body_at : ℕ → List Char → Body → ReadBody
body_at at r b =
    record {
      end = at + widths (take b.len r);
      chars = b.len;
      closed = b.closed;
      error = b.error;
      count = b.count;
      code = b.code;
      escaped = b.escaped;
      strays = b.strays;
      bytes = length b.value - 2 * b.strays;
    }

-- the body at a place of a text
abbrev pub quoted_at : ℕ → List ℕ → ℕ → ReadBody
quoted_at quote s at = body_at at (chars (drop at s)) (body quote (chars (drop at s)))
