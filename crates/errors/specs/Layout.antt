-- The layout of a record in the list: its numbers and their order.
use Rattle.std.specs.Prelude.{ℕ, ◌+◌, List, [], ◌∷◌, get_or}
use Rattle.errors.specs.declared.layout.Error.{Error}

-- how many numbers a record has
abbrev pub width : ℕ
width = 4

unfoldable pub numbers : Error → List ℕ
numbers e = e.offset ∷ e.line ∷ e.column ∷ e.number ∷ []

-- the error whose record is at a place
unfoldable pub record_at : List ℕ → ℕ → Error
record_at list at =
    record {
      offset = get_or list at 0;
      line = get_or list (at + 1) 0;
      column = get_or list (at + 2) 0;
      number = get_or list (at + 3) 0;
    }
