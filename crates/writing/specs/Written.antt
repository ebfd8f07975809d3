-- What is written of a line and of a raw string.
use Rattle.std.specs.Prelude.{ℕ, List, [], ◌∷◌, ◌++◌, take}
use Prim.Native.Char.{code}
use Rattle.utf8.specs.declared.Char.{Char}
use Rattle.spans.specs.Span.{to_stop}
use Rattle.spans.specs.Body.{clean, raw_inside}

-- characters without CR, and a line feed after them
abbrev pub line_text : List Char → List ℕ
line_text cs = clean cs ++ (code "\n" ∷ [])

-- how many characters belong to the value of the raw string whose body they begin with
abbrev pub raw_count : List Char → ℕ
raw_count r = raw_inside (to_stop (code "`") r)

-- its value
abbrev pub raw_value : List Char → List ℕ
raw_value r = clean (take (raw_count r) r)
