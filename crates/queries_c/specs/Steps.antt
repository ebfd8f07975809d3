-- Steps of the code. No public contract cites this file.
use Rattle.std.specs.Prelude.{ℕ, List, [], ◌∷◌, Some, None, Option}
use Rattle.errors.specs.declared.layout.Error.{Error}
use Rattle.errors.specs.Layout.{numbers}

-- the numbers of an error; four zeros where there is none
abbrev pub optional_numbers : Option Error → List ℕ
optional_numbers (Some e) = numbers e
optional_numbers None = 0 ∷ 0 ∷ 0 ∷ 0 ∷ []
