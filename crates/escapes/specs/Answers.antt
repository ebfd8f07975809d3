-- What the answer of an escape comes to.
use Rattle.std.specs.Prelude.{ℕ, Bool, true, false, cond, List, [], ◌∷◌, Result, Ok, Err}
use Rattle.utf8.specs.Chars.{encode}
use Rattle.errors.specs.declared.fault.Fault.{Fault}
use Rattle.errors.specs.Faults.{fault_number}
use Rattle.escapes.specs.declared.Given.{Given}
use Rattle.escapes.specs.declared.Given.TheVariants.{Char, Byte}
use Rattle.escapes.specs.declared.Escaped.{Escaped}

pub data Meaning : Type 0 where
  -- a character by its code, and whether it is that one byte
  character : ℕ → Bool → Meaning
  -- none, with the number of the error
  no_character : ℕ → Meaning

pub record Escape : Type 0 where
  -- how many characters it has after the backslash
  pub len : ℕ
  pub meaning : Meaning

-- the code of what is given, and whether it is that one byte
abbrev pub code_of : Given → ℕ
code_of (Char code) = code
code_of (Byte byte) = byte

abbrev pub is_byte : Given → Bool
is_byte (Char code) = false
is_byte (Byte byte) = true

abbrev pub meaning_of : Result Given Fault → Meaning
meaning_of (Ok given) = character (code_of given) (is_byte given)
meaning_of (Err fault) = no_character (fault_number fault)

abbrev pub says : Escaped → Escape
says x = record { len = x.len; meaning = meaning_of x.given }

-- the bytes that it gives to the value
abbrev pub bytes_of : Meaning → List ℕ
bytes_of (character code byte) = cond byte (code ∷ []) (encode code)
bytes_of (no_character error) = []
