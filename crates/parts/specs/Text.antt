-- The text and the value of a token, as its parts of the source and of the text area show them.
use Rattle.std.specs.Prelude.{ℕ, List}
use Rattle.parts.specs.Shown.{Shown, shown_of}
use Rattle.parts.specs.declared.token.Token.{Token}

-- "A call later returns a token's text as a part of the source or of the text area."
abbrev pub text_shown : List ℕ → List ℕ → Token → Shown
text_shown src area t = shown_of src area t.text

-- "A second call gives a STRING's value so." (A scan gives a token without one an empty part.)
abbrev pub value_shown : List ℕ → List ℕ → Token → Shown
value_shown src area t = shown_of src area t.value
