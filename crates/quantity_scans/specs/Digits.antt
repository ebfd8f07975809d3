-- The digits of a text form the number that the digits of the bytes read for it form, in a base that
-- is known. So this number can be worked out before a text is written: in base 16 of `0X1F` as of
-- `0x1F`, in base 8 of `017` as of `0o17`. (`denoted` finds the base itself, and is for texts alone.)
use Rattle.std.specs.Prelude.{ℕ, ◌≤◌, ◌≡◌, List}
use Rattle.numbers.specs.declared.Spelling.{Spelling}
use Rattle.numbers.specs.Spelling.{number_text}
use Rattle.quantity.specs.Text.{digits_of}

-- for every base up to 16, whatever the spelling
abbrev pub DigitsAsRead : Type 0
DigitsAsRead = (base : ℕ) → base ≤ 16 → (spelling : Spelling) (bytes : List ℕ) → digits_of base (number_text spelling bytes) ≡ digits_of base bytes
