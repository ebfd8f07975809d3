-- ASCII characters that are written as themselves in a literal with the quote given.
use Rattle.std.specs.Prelude.{ℕ, suc, Bool, false, cond, List, [], ◌∷◌, eqb, ltb}
use Prim.Native.Char.{code}

-- is a byte such a character?
unfoldable pub is_plain_byte : ℕ → ℕ → Bool
is_plain_byte quote b = cond (eqb b quote) false (cond (eqb b (code "\n")) false (cond (eqb b (code "\\")) false (ltb b 0x80)))

-- how many such bytes a text begins with
unfoldable pub plain_len : ℕ → List ℕ → ℕ
plain_len quote [] = 0
plain_len quote (b ∷ s) = cond (is_plain_byte quote b) (suc (plain_len quote s)) 0
