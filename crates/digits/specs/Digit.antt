-- Digits.
use Rattle.std.specs.Prelude.{ℕ, ◌+◌, ◌-◌, Bool, cond}
use Prim.Native.Char.{code}
use Rattle.basics.specs.Between.{between}

abbrev pub is_decimal : ℕ → Bool
is_decimal c = between (code "0") c (code "9")

-- the number of a hexadecimal digit, 16 for any other character
unfoldable pub digit_val : ℕ → ℕ
digit_val c =
    cond (is_decimal c) (c - code "0")
    (cond (between (code "a") c (code "f")) (c - code "a" + 10)
    (cond (between (code "A") c (code "F")) (c - code "A" + 10)
    16))
