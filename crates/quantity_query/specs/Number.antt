-- The number behind a token: "Checks: 6; then 10, the token is neither INT nor FLOAT, or no scan gives
-- that kind such a text; then 11, no such pair exists, and never otherwise."
use Rattle.std.specs.Prelude.{ℕ, cond, List, eqb}
use Rattle.refusal.specs.Outcome.{Outcome, refused}
use Rattle.refusal.specs.Refusals.{NO_NUMBER}
use Rattle.parts.specs.declared.part.Part.{Part}
use Rattle.parts.specs.Shown.{Shown, shown_of}
use Rattle.quantity.specs.declared.Quantity.{Quantity}
use Rattle.quantity.specs.Pair.{pair_of}
use Rattle.quantity.specs.Text.{denoted}
use Rattle.quantity_query.specs.Given.{is_given}

-- the number behind a literal, by its kind and its text
unfoldable pub number_behind : ℕ → List ℕ → Outcome Quantity
number_behind kind t = cond (is_given kind t) (pair_of (denoted t)) (refused NO_NUMBER)

-- the text is what the part shows; a part outside its buffer is refused. The part of a value is not
-- looked at
abbrev pub number_shown : ℕ → Shown → Outcome Quantity
number_shown kind s = cond (eqb s.refusal 0) (number_behind kind s.bytes) (refused s.refusal)

unfoldable pub number_in : List ℕ → List ℕ → ℕ → Part → Outcome Quantity
number_in src area kind text = number_shown kind (shown_of src area text)
