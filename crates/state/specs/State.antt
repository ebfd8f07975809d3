-- The states of a text: the first one, and the one further on.
use Rattle.std.specs.Prelude.{ℕ, Bool, false}
use Rattle.position.specs.declared.Line.{Line}
use Rattle.position.specs.Lines.{first_line}
use Rattle.state.specs.declared.state.State.{State}

-- the first state: nothing is read, the first line start is recorded
unfoldable pub fresh : ℕ → ℕ → State
fresh base size =
    record { base = base; size = size; place = 0; offset = 0; mark = false; lines = 1; errors = 0; line = first_line }

-- the state of the same text further on: base and size stay
abbrev pub advance : State → ℕ → ℕ → Bool → ℕ → ℕ → Line → State
advance s place offset mark lines errors line =
    record {
      base = s.base;
      size = s.size;
      place = place;
      offset = offset;
      mark = mark;
      lines = lines;
      errors = errors;
      line = line;
    }
