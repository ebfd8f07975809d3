-- Demand 3: the run over two joined texts is the run over the first and then the run over the
-- second.
use Rattle.std.specs.Prelude.{ℕ, ◌+◌, ◌-◌, ◌≤◌, ◌<◌, ◌≡◌, Bool, true, false, List, [], ◌∷◌, ◌++◌, map, ◌≢◌, ◌⊎◌, length, drop}
use Rattle.utf8.specs.Chars.{chars}
use Rattle.kinds.specs.Kinds.{EOF}
use Rattle.utf8.specs.Count.{is_lf, count}
use Rattle.reading.specs.Joined.{AllShut, move_error}
use Rattle.parts.specs.declared.part.Part.{Part}
use Rattle.parts.specs.declared.token.Token.{Token}
use Rattle.runs.specs.Calls.{Held, Accepted, Seen, tokens, Record, record_of}

-- "any first text that is empty or ends in a line feed"
abbrev pub Closed : List ℕ → Type 0
Closed x = (x ≡ []) ⊎ ((before : List ℕ) × (x ≡ before ++ (10 ∷ [])))

-- three accepted openings: "The joined run and the first have base b and size s; the second has b +
-- n1 and s − n1."
pub record ThreeRuns (x y : List ℕ) (base size : ℕ) (h h₁ h₂ : Held) : Type 0 where
  pub closed : Closed x
  pub joined : Accepted (x ++ y) base size h
  pub first : Accepted x base size h₁
  pub second : Accepted y (base + length (chars x)) (size - length (chars x)) h₂

abbrev pub NoEof : List Seen → Type 0
NoEof [] = Unit {0}
NoEof (t ∷ ts) = (t.token.kind ≢ EOF) × NoEof ts

-- "Let the first run come to its first EOF with a tokens before it and no error 6 or 7": these
-- calls do, and ts are the tokens
pub record FirstEof (src : List ℕ) (h : Held) (areas : List (List ℕ)) (ts : List Seen) : Type 0 where
  pub last : Seen
  pub all : (record_of src areas h).given ≡ ts ++ (last ∷ [])
  pub before : NoEof ts
  pub ends : last.token.kind ≡ EOF
  pub shut : AllShut (record_of src areas h).errors

-- "A second-text token's part of the source moves by the first text's bytes", one of the text area
-- stays
abbrev pub move_part : ℕ → Part → Part
move_part bytes p = moved_part p.area
  where
    moved_part : Bool → Part
    moved_part true = p
    moved_part false = record { area = false; start = bytes + p.start; end = bytes + p.end }

-- kind, position, text and value are the same
abbrev pub move_token : ℕ → Token → Token
move_token bytes t =
    record {
      kind = t.kind;
      inserted = t.inserted;
      position = t.position;
      code = t.code;
      text = move_part bytes t.text;
      value = move_part bytes t.value;
    }

unfoldable pub move_seen : ℕ → Seen → Seen
move_seen bytes t = record { token = move_token bytes t.token; text = t.text; value = t.value }

-- what the joined run has come to: the tokens ts and the first run's table and errors at its EOF,
-- each followed by the second's. x is the first text; "its opening 0" is left out, "each start of
-- the second raised by n1", "its line by the first text's line feeds"
abbrev pub joined_record : List ℕ → List Seen → Record → Record → Record
joined_record x ts first second =
    record {
      given = ts ++ map (move_seen (length x)) second.given;
      lines = first.lines ++ map (λ l. length (chars x) + l) (drop 1 second.lines);
      errors = first.errors ++ map (move_error (length (chars x)) (count is_lf (chars x))) second.errors;
    }

-- one claim about any calls of the three runs; `ending` are those that bring the first run to its
-- EOF, with ts before it
pub record JoinedRuns (x y : List ℕ) (h h₁ h₂ : Held) (ending : List (List ℕ)) (ts : List Seen) : Type 0 where
  -- "After scan i of both, i from 1 to a, the joined run and the first have the same token, table
  -- and errors."
  pub first : (joined first : List (List ℕ)) → length (tokens (x ++ y) joined h) ≡ length (tokens x first h₁) → length (tokens x first h₁) ≤ length ts
      → record_of (x ++ y) joined h ≡ record_of x first h₁
  -- "After scan a + j of the joined run and scan j of the second, j from 1"
  pub second : (joined second : List (List ℕ)) → length (tokens (x ++ y) joined h) ≡ length ts + length (tokens y second h₂) → 0 < length (tokens y second h₂)
      → record_of (x ++ y) joined h ≡ joined_record x ts (record_of x ending h₁) (record_of y second h₂)
