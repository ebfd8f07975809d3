-- A state as nine numbers.
use Rattle.std.specs.Prelude.{ℕ, Bool, true, false, cond, not, List, [], ◌∷◌, eqb, leb, length, get_or}
use Rattle.std.proofs.lemmas.List.Edits.{sets}
use Rattle.state.specs.declared.state.State.{State}

abbrev pub state_width : ℕ
state_width = 9

abbrev pub bit : Bool → ℕ
bit true = 1
bit false = 0

-- the state that the first nine numbers are, where missing numbers are 0; any number but 0 is a set
-- mark
abbrev pub state_in : List ℕ → State
state_in n =
    record {
      base = get_or n 0 0;
      size = get_or n 1 0;
      place = get_or n 2 0;
      offset = get_or n 3 0;
      mark = not (eqb (get_or n 4 0) 0);
      lines = get_or n 5 0;
      errors = get_or n 6 0;
      line = record { number = get_or n 7 0; start = get_or n 8 0 };
    }

abbrev pub state_numbers : State → List ℕ
state_numbers s =
    s.base ∷ s.size ∷ s.place ∷ s.offset ∷ bit s.mark ∷ s.lines ∷ s.errors ∷ s.line.number ∷ s.line.start ∷ []

-- a state written to the front of a list; a list that is too short is left as it is
abbrev pub state_written : List ℕ → State → List ℕ
state_written n s = cond (leb state_width (length n)) (sets n 0 (state_numbers s)) n
