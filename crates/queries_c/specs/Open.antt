-- The exported function that opens a source, by the definition of opening.
use Rattle.std.specs.Prelude.{ℕ, cond, List, [], ◌∷◌, length}
use Rattle.std.proofs.Math.Option.{Option, some, none}
use Rattle.std.proofs.lemmas.List.Edits.{sets}
use Rattle.refusal.specs.Outcome.{Outcome, refused, gave}
use Rattle.refusal.specs.Refusals.{DOES_NOT_FIT}
use Rattle.refusal.specs.Short.{too_short}
use Rattle.state.specs.Layout.{state_width, state_numbers}
use Rattle.opening.specs.Opening.{Begun, open_of}

-- what opening leaves in the lent slices, and its refusal or 0
pub record OpenCallLeft : Type 0 where
  pub refusal : ℕ
  pub table : List ℕ
  pub state : List ℕ
  pub answer : List ℕ

-- a place, if there is one, goes to the answer
abbrev pub with_place : Option ℕ → List ℕ → List ℕ
with_place (some place) answer = sets answer 0 (place ∷ [])
with_place none answer = answer

-- for each outcome: the first state and the number of characters; a refusal by 1 answers a place
abbrev pub opened_by : Outcome Begun → Option ℕ → List ℕ → List ℕ → List ℕ → OpenCallLeft
opened_by (gave b) place table state answer =
    record { refusal = 0; table = table; state = sets state 0 (state_numbers b.state); answer = sets answer 0 (b.chars ∷ []) }
opened_by (refused number) place table state answer =
    record { refusal = number; table = table; state = state; answer = with_place place answer }

-- a slice that is too short for a state or an answer is refused by 6, and nothing is written
unfoldable pub open_numbers : List ℕ → ℕ → ℕ → List ℕ → List ℕ → List ℕ → OpenCallLeft
open_numbers src base size table state answer =
    let o = open_of src base size table in
    cond (too_short (length state) state_width (length answer) 1)
    (record { refusal = DOES_NOT_FIT; table = table; state = state; answer = answer })
    (opened_by o.outcome o.place o.table state answer)
