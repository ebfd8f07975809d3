-- The line starts that reading records: "Each LF read records its offset + 1 if that is above the
-- last start and below the size."
use Rattle.std.specs.Prelude.{ℕ, suc, cond, ◌&&◌, List, [], ◌∷◌, ◌++◌, ltb, length}
use Rattle.utf8.specs.declared.Char.{Char}
use Rattle.utf8.specs.Count.{is_lf}
use Rattle.position.specs.Lines.{line_start, is_recorded}

-- a start that was read, among the starts recorded so far
abbrev pub recorded : ℕ → ℕ → List ℕ → List ℕ
recorded size start starts = cond (is_recorded (line_start starts (length starts)) size start) (starts ++ (start ∷ [])) starts

-- the starts recorded after the characters cs are read from an offset on
unfoldable pub read_lines : ℕ → ℕ → List Char → List ℕ → List ℕ
read_lines size offset [] starts = starts
read_lines size offset (c ∷ cs) starts = read_lines size (suc offset) cs (cond (is_lf c) (recorded size (suc offset) starts) starts)

-- the new ones, where the last start is not above the offset
unfoldable pub starts_read : ℕ → ℕ → List Char → List ℕ
starts_read size offset [] = []
starts_read size offset (c ∷ cs) =
    cond (is_lf c && ltb (suc offset) size) (suc offset ∷ starts_read size (suc offset) cs) (starts_read size (suc offset) cs)
