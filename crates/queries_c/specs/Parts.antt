-- The exported functions that answer a token's text and value, as parts of the source or of the
-- text area.
use Rattle.std.specs.Prelude.{ℕ, cond, List, eqb}
use Rattle.refusal.specs.Outcome.{Outcome, refused, gave}
use Rattle.refusal.specs.Refusals.{DOES_NOT_FIT}
use Rattle.parts.specs.declared.part.Part.{Part}
use Rattle.parts.specs.Shown.{shown_of}
use Rattle.parts.specs.Layout.{part_width, part_in, part_numbers, token_width, text_at, value_at}
use Rattle.refusal.specs.Asked.{Answered, asked}

-- a part that lies in its buffer; "a token's part outside its buffer" is refused with 6
abbrev pub in_buffer : List ℕ → List ℕ → Part → Outcome Part
in_buffer src area p = cond (eqb (shown_of src area p).refusal 0) (gave p) (refused DOES_NOT_FIT)

-- the part at an index among the numbers of a token
abbrev pub part_at : ℕ → List ℕ → List ℕ → List ℕ → List ℕ → Answered
part_at at src area token answer = asked token_width token part_width part_numbers (in_buffer src area (part_in token at)) answer

unfoldable pub text_numbers : List ℕ → List ℕ → List ℕ → List ℕ → Answered
text_numbers src area token answer = part_at text_at src area token answer

unfoldable pub value_numbers : List ℕ → List ℕ → List ℕ → List ℕ → Answered
value_numbers src area token answer = part_at value_at src area token answer
