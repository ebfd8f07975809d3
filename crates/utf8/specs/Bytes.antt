-- The length that a first byte announces.
use Rattle.std.specs.Prelude.{ℕ, cond, ltb}

-- how many bytes a first byte announces by its leading one bits: none 1, two 2, three 3, four 4;
-- any other number 0
unfoldable pub announced : ℕ → ℕ
announced b =
    cond (ltb b 0x80) 1 (cond (ltb b 0xC0) 0 (cond (ltb b 0xE0) 2 (cond (ltb b 0xF0) 3 (cond (ltb b 0xF8) 4 0))))
