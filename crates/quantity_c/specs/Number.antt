-- The exported function that answers the number behind a token, by the definition of the query.
use Rattle.std.specs.Prelude.{ℕ, List, [], ◌∷◌, get_or}
use Rattle.parts.specs.Layout.{part_in, token_width, text_at}
use Rattle.quantity.specs.declared.Quantity.{Quantity}
use Rattle.quantity_query.specs.Number.{number_in}
use Rattle.refusal.specs.Asked.{Answered, asked}

-- m and k
abbrev pub quantity_numbers : Quantity → List ℕ
quantity_numbers q = q.m ∷ q.k ∷ []

-- the kind of a token is the first of its numbers
unfoldable pub number_numbers : List ℕ → List ℕ → List ℕ → List ℕ → Answered
number_numbers src area token answer =
    asked token_width token 2 quantity_numbers (number_in src area (get_or token 0 0) (part_in token text_at)) answer
