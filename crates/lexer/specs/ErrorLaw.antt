-- Every ILLEGAL has an error, and of the other tokens only a STRING and a COMMENT that are left open:
-- a law of `lex`, which follows from its rules.
use Rattle.std.specs.Prelude.{ℕ, ◌≡◌, Bool, List, ◌≢◌, ◌⊎◌}
use Rattle.utf8.specs.declared.Char.{Char}
use Rattle.kinds.specs.Kinds.{ILLEGAL, COMMENT, STRING}
use Rattle.errors.specs.Numbers.{OPEN_RAW_STRING, OPEN_COMMENT}
use Rattle.lexer.specs.Lex.{lex}

-- the kind and the error of a raw string or a comment that is left open
abbrev pub LeftOpen : ℕ → ℕ → Type 0
LeftOpen kind error = ((kind ≡ STRING) × (error ≡ OPEN_RAW_STRING)) ⊎ ((kind ≡ COMMENT) × (error ≡ OPEN_COMMENT))

-- a token of this kind with this error, or with 0 for none
pub record ErrorLaw (kind error : ℕ) : Type 0 where
  -- request 1: "Every illegal token carries an error."
  pub illegal_has_error : kind ≡ ILLEGAL → error ≢ 0
  -- no other token has one, unless it is left open
  pub error_has_cause : error ≢ 0 → (kind ≡ ILLEGAL) ⊎ LeftOpen kind error

-- of every scan
abbrev pub LexErrors : Type 0
LexErrors = (mark : Bool) (r : List Char) → ErrorLaw (lex mark r).kind (lex mark r).error
