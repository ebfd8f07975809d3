-- Rules of numbers in the forms in which the proofs take them, one at a time.
use Prim.Native.Nat.{ℕ}
use Prim.Native.Char.{code}
use mathlib.Core.Bool.{cond}
use mathlib.Core.List.{List}
use lib.Dec.{eqb}
use lib.ListN.{drop}
use Rattle.utf8.specs.declared.Char.{Char}
use Rattle.utf8.specs.Chars.{peek}
use Rattle.errors.specs.Numbers.{BAD_BINARY, BAD_OCTAL, BAD_HEXADECIMAL, MISPLACED_UNDERSCORE}
use Rattle.numbers.specs.declared.Spelling.{Spelling}
use Rattle.numbers.specs.declared.Spelling.TheVariants.{AsRead, LowerPrefix}
use Rattle.numbers.specs.Run.{Run}
use Rattle.numbers.specs.Number.{Numeral, after_chars, illegal, prefixed, bare_zero}

-- ---- digits and what follows them: `fraction` is `run_then (strict_run 10) (finish FLOAT)`, and
-- `decimal` is `run_then (digit_run 10 false) decimal_rest`
abbrev pub run_then : (List Char → Run) → (List Char → Numeral) → List Char → Numeral
run_then run f r = cond (run r).misplaced (illegal MISPLACED_UNDERSCORE (run r).len AsRead) (after_chars (run r).len (f (drop (run r).len r)))

-- ---- a number that starts with 0, one letter of a prefix at a time: `leading_zero` is `letter_or` for x, with `by_upper_x` for the others
-- a prefix by its letter x, or another rule
abbrev pub letter_or : ℕ → ℕ → ℕ → Spelling → (List Char → Numeral) → List Char → Numeral
letter_or x base error sp f r = cond (eqb (peek (drop 1 r)) x) (after_chars 2 (prefixed base error sp (drop 2 r))) (f r)

abbrev pub by_upper_b : List Char → Numeral
by_upper_b = letter_or (code "B") 2 BAD_BINARY LowerPrefix bare_zero

abbrev pub by_lower_b : List Char → Numeral
by_lower_b = letter_or (code "b") 2 BAD_BINARY AsRead by_upper_b

abbrev pub by_upper_o : List Char → Numeral
by_upper_o = letter_or (code "O") 8 BAD_OCTAL LowerPrefix by_lower_b

abbrev pub by_lower_o : List Char → Numeral
by_lower_o = letter_or (code "o") 8 BAD_OCTAL AsRead by_upper_o

abbrev pub by_upper_x : List Char → Numeral
by_upper_x = letter_or (code "X") 16 BAD_HEXADECIMAL LowerPrefix by_lower_o
