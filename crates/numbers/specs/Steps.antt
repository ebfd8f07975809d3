-- Steps of the code. No public contract cites this file.
use Rattle.std.specs.Prelude.{ℕ, ◌+◌, ◌≡◌, cond, List, get_or, Result, Ok, Err}
use Prim.Native.Char.{code}
use Rattle.errors.specs.Numbers.{BAD_BINARY, BAD_OCTAL, BAD_HEXADECIMAL}
use Rattle.numbers.specs.declared.run.Misplaced.{Misplaced}
use Rattle.numbers.specs.declared.Prefix.{Prefix}
use Rattle.numbers.specs.declared.Prefix.TheVariants.{Binary, Octal, Hexadecimal}
use Rattle.numbers.specs.Run.{Run}

-- a run that starts at a place, as the code gives it
abbrev pub digits_at : ℕ → Run → Result ℕ Misplaced
digits_at at d = cond d.misplaced (Err (record { end = at + d.len })) (Ok (at + d.len))

-- the base of a prefix, and the error of its numbers
abbrev pub prefix_base : Prefix → ℕ
prefix_base Binary = 2
prefix_base Octal = 8
prefix_base Hexadecimal = 16

abbrev pub prefix_error : Prefix → ℕ
prefix_error Binary = BAD_BINARY
prefix_error Octal = BAD_OCTAL
prefix_error Hexadecimal = BAD_HEXADECIMAL

-- the byte at a place is a 0
abbrev pub ZeroAt : List ℕ → ℕ → Type 0
ZeroAt src at = get_or src at 0 ≡ code "0"
