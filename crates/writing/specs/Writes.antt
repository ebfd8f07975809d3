-- Steps of the code. No public contract cites this file.
-- What a function that writes to an area does, and what it leaves to be written.
use Rattle.std.specs.Prelude.{ℕ, ◌≡◌, List, ◌++◌}
use Rattle.std.proofs.lemmas.List.Edits.{sets}

-- after bytes were written to an area from a place on, the next are written from another place on,
-- whatever they are
abbrev pub Writes : List ℕ → ℕ → List ℕ → List ℕ → ℕ → Type 0
Writes area to bytes after next = (rest : List ℕ) → sets area to (bytes ++ rest) ≡ sets after next rest
