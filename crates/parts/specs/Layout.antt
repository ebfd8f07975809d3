-- A part as three numbers, a token as ten.
use Rattle.std.specs.Prelude.{ℕ, ◌+◌, cond, not, List, [], ◌∷◌, ◌++◌, eqb, leb, length, get_or}
use Rattle.std.proofs.lemmas.List.Edits.{sets}
use Rattle.state.specs.Layout.{bit}
use Rattle.parts.specs.declared.part.Part.{Part}
use Rattle.parts.specs.declared.token.Token.{Token}

abbrev pub part_width : ℕ
part_width = 3

abbrev pub part_numbers : Part → List ℕ
part_numbers p = bit p.area ∷ p.start ∷ p.end ∷ []

-- the part that the numbers from an index on are; any number but 0 says that it is one of the area
abbrev pub part_in : List ℕ → ℕ → Part
part_in n at = record { area = not (eqb (get_or n at 0) 0); start = get_or n (at + 1) 0; end = get_or n (at + 2) 0 }

abbrev pub token_width : ℕ
token_width = 10

-- the text of a token is in its numbers from 4 on, the value from 7 on
abbrev pub text_at : ℕ
text_at = 4

abbrev pub value_at : ℕ
value_at = 7

abbrev pub token_numbers : Token → List ℕ
token_numbers t = t.kind ∷ bit t.inserted ∷ t.position ∷ t.code ∷ part_numbers t.text ++ part_numbers t.value

-- a token written to the front of a list; a list that is too short is left as it is
abbrev pub token_written : List ℕ → Token → List ℕ
token_written n t = cond (leb token_width (length n)) (sets n 0 (token_numbers t)) n
