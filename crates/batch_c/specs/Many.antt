-- The exported function that makes many scans, by the definition of these.
use Rattle.std.specs.Prelude.{ℕ, cond, List, [], ◌∷◌, eqb, length}
use Rattle.std.proofs.lemmas.List.Edits.{sets}
use Rattle.refusal.specs.Refusals.{DOES_NOT_FIT}
use Rattle.refusal.specs.Short.{too_short}
use Rattle.state.specs.Layout.{state_width, state_in, state_numbers}
use Rattle.batch.specs.Many.{ManyLeft, scan_many_of}

-- what the exported function leaves in the lent slices, and its refusal or 0
pub record ManyCallLeft : Type 0 where
  pub refusal : ℕ
  pub state : List ℕ
  pub table : List ℕ
  pub list : List ℕ
  pub area : List ℕ
  pub tokens : List ℕ
  pub answer : List ℕ

-- a refusal leaves all as it was
abbrev pub scans_refused : ℕ → List ℕ → List ℕ → List ℕ → List ℕ → List ℕ → List ℕ → ManyCallLeft
scans_refused n state table list area tokens answer =
    record { refusal = n; state = state; table = table; list = list; area = area; tokens = tokens; answer = answer }

-- what scans leave: state and count go to their slices
abbrev pub scans_by : ManyLeft → List ℕ → List ℕ → ManyCallLeft
scans_by l state answer =
    record {
      refusal = 0;
      state = sets state 0 (state_numbers l.state);
      table = l.table;
      list = l.list;
      area = l.area;
      tokens = l.tokens;
      answer = sets answer 0 (l.count ∷ []);
    }

-- it is refused where a slice is too short for a state or an answer, and where many scans from the
-- state in the numbers are
unfoldable pub scan_many_numbers : List ℕ → List ℕ → List ℕ → List ℕ → List ℕ → List ℕ → List ℕ → ManyCallLeft
scan_many_numbers src state table list area tokens answer =
    let l = scan_many_of src (state_in state) table list area tokens in
    cond (too_short (length state) state_width (length answer) 1) (scans_refused DOES_NOT_FIT state table list area tokens answer)
    (cond (eqb l.refusal 0) (scans_by l state answer) (scans_refused l.refusal state table list area tokens answer))
