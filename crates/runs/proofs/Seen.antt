-- The tokens of a run with no bound on lines and errors, as the scans of a source show them.
use Prim.Native.Nat.{ℕ, zero, suc}
use mathlib.Core.Bool.{false}
use mathlib.Core.List.{List, [], ◌∷◌, ◌++◌}
use Rattle.lexer.specs.Lexeme.{Lexeme}
use Rattle.lexer.specs.Lex.{lex}
use Rattle.lexer.specs.Placed.{placed}
use Rattle.reading.specs.Reading.{Reading}
use Rattle.reading.specs.Run.{Token, token_at}
use Rattle.scanner.specs.Scan.{view, text_part, value_part}
use Rattle.runs.specs.Calls.{Held, Seen}

-- the lexeme of a token, but for the blanks before it and the mark after it
abbrev pub lexeme_of : Token → Lexeme
lexeme_of t =
    record {
      skipped = 0;
      len = t.len;
      kind = t.kind;
      inserted = t.inserted;
      text = t.text;
      value = t.value;
      code = t.code;
      error = t.error;
      mark = false;
    }

-- a token of a source as its scan shows it
unfoldable pub seen_of : List ℕ → Token → Seen
seen_of src t =
    let p = placed src t.start (lexeme_of t) in
    record {
      token =
          record {
            kind = t.kind;
            inserted = t.inserted;
            position = t.position;
            code = t.code;
            text = text_part t.start p;
            value = value_part t.start p;
          };
      text = record { bytes = t.text; refusal = 0 };
      value = record { bytes = t.value; refusal = 0 };
    }

-- f 0, f 1 and so on, k of them
unfoldable pub firsts : {A : Type 0} → (ℕ → A) → ℕ → List A
firsts f zero = []
firsts f (suc k) = firsts f k ++ (f k ∷ [])

-- how far a source has been read, by what goes from call to call
abbrev pub view_of : List ℕ → Held → Reading
view_of src h = view src h.state h.table h.list

-- the token of scan i + 1 from there on
abbrev pub seen_at : List ℕ → Held → ℕ → Seen
seen_at src h i = seen_of src (token_at lex h.state.base h.state.size (view_of src h) i)
