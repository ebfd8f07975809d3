-- The well-formed byte sequences, by the table of RFC 3629, section 4: a row a line, each byte
-- within its bounds.
use Rattle.std.specs.Prelude.{ℕ, Bool, true, false, cond, ◌&&◌, List, [], ◌∷◌, length}
use Rattle.basics.specs.Between.{between}

pub record Range : Type 0 where
  pub least : ℕ
  pub most : ℕ

infix 90 ◌to◌
abbrev pub ◌to◌ : ℕ → ℕ → Range
a to b = record { least = a; most = b }

abbrev pub rows : List (List Range)
rows =
    (0x00 to 0x7F ∷ [])
    ∷ (0xC2 to 0xDF ∷ 0x80 to 0xBF ∷ [])
    ∷ (0xE0 to 0xE0 ∷ 0xA0 to 0xBF ∷ 0x80 to 0xBF ∷ [])
    ∷ (0xE1 to 0xEC ∷ 0x80 to 0xBF ∷ 0x80 to 0xBF ∷ [])
    ∷ (0xED to 0xED ∷ 0x80 to 0x9F ∷ 0x80 to 0xBF ∷ [])
    ∷ (0xEE to 0xEF ∷ 0x80 to 0xBF ∷ 0x80 to 0xBF ∷ [])
    ∷ (0xF0 to 0xF0 ∷ 0x90 to 0xBF ∷ 0x80 to 0xBF ∷ 0x80 to 0xBF ∷ [])
    ∷ (0xF1 to 0xF3 ∷ 0x80 to 0xBF ∷ 0x80 to 0xBF ∷ 0x80 to 0xBF ∷ [])
    ∷ (0xF4 to 0xF4 ∷ 0x80 to 0x8F ∷ 0x80 to 0xBF ∷ 0x80 to 0xBF ∷ [])
    ∷ []

-- does a text begin with bytes within the bounds of a row
abbrev pub within_row : List Range → List ℕ → Bool
within_row [] s = true
within_row (r ∷ rs) [] = false
within_row (r ∷ rs) (b ∷ s) = between r.least b r.most && within_row rs s

-- the length of the first row that a text begins with; 0 where it begins with none
abbrev pub matched : List (List Range) → List ℕ → ℕ
matched [] s = 0
matched (r ∷ rs) s = cond (within_row r s) (length r) (matched rs s)
