-- Many scans in one call: token after token, as long as there is room for one more.
use Rattle.std.specs.Prelude.{ℕ, zero, suc, ◌+◌, ◌*◌, ◌/◌, Bool, cond, ◌||◌, List, [], ◌∷◌, ◌++◌, eqb, ltb, length, Result, Ok, Err}
use Rattle.std.proofs.lemmas.List.Edits.{sets}
use Rattle.refusal.specs.Refusals.{DOES_NOT_FIT}
use Rattle.refusal.specs.declared.Refusal.{Refusal}
use Rattle.refusal.specs.Outcome.{refusal_number}
use Rattle.kinds.specs.Kinds.{EOF}
use Rattle.state.specs.declared.state.State.{State}
use Rattle.parts.specs.declared.token.Token.{Token}
use Rattle.scanner.specs.Scan.{scan_of}
use Rattle.parts.specs.Layout.{token_width, token_numbers}
use Rattle.batch.specs.declared.run.Batch.{Batch}

-- what scans leave, and the tokens that they gave
pub record ManyRun : Type 0 where
  pub state : State
  pub table : List ℕ
  pub list : List ℕ
  pub area : List ℕ
  pub tokens : List Token

-- no scan is made after EOF, nor after a token that shows something from the text area, since it
-- would write over that
abbrev pub is_last : Token → Bool
is_last t = t.text.area || t.value.area || eqb t.kind EOF

-- no more scans
abbrev pub stopped : State → List ℕ → List ℕ → List ℕ → ManyRun
stopped s table list area = record { state = s; table = table; list = list; area = area; tokens = [] }

-- a token in front of those of the scans after it
abbrev pub token_before : Token → ManyRun → ManyRun
token_before t r = record { state = r.state; table = r.table; list = r.list; area = r.area; tokens = t ∷ r.tokens }

-- as many scans as there is room for tokens; they stop after a last token, and before a scan that
-- is refused
unfoldable pub many_of : ℕ → List ℕ → State → List ℕ → List ℕ → List ℕ → ManyRun
many_of zero src s table list area = stopped s table list area
many_of (suc n) src s table list area =
    let a = scan_of src s table list area in
    let t = a.answer.token in
    let s' = a.answer.state in
    cond (eqb a.answer.refusal 0)
    (token_before t (cond (is_last t) (stopped s' a.table a.list a.area) (many_of n src s' a.table a.list a.area)))
    (stopped s table list area)

-- tokens, ten numbers each
unfoldable pub tokens_numbers : List Token → List ℕ
tokens_numbers [] = []
tokens_numbers (t ∷ ts) = token_numbers t ++ tokens_numbers ts

-- how many tokens so many numbers hold
abbrev pub token_room : List ℕ → ℕ
token_room tokens = length tokens / token_width

-- what a call leaves: the tokens by their numbers in a slice, their count, and the refusal, or 0
pub record ManyLeft : Type 0 where
  pub refusal : ℕ
  pub state : State
  pub table : List ℕ
  pub list : List ℕ
  pub area : List ℕ
  pub tokens : List ℕ
  pub count : ℕ

-- the tokens of these scans are written after n others
abbrev pub left_after : ℕ → List ℕ → ManyRun → ManyLeft
left_after n tokens r =
    record {
      refusal = 0;
      state = r.state;
      table = r.table;
      list = r.list;
      area = r.area;
      tokens = sets tokens (n * token_width) (tokens_numbers r.tokens);
      count = n + length r.tokens;
    }

-- a refusal leaves all as it was
abbrev pub many_refused : ℕ → State → List ℕ → List ℕ → List ℕ → List ℕ → ManyLeft
many_refused n s table list area tokens =
    record { refusal = n; state = s; table = table; list = list; area = area; tokens = tokens; count = 0 }

-- what the code's answer to a call from a state says: a refused call leaves the state as it was, and
-- gives no token
abbrev pub many_left : State → Result Batch Refusal → List ℕ → List ℕ → List ℕ → List ℕ → ManyLeft
many_left s (Ok b) table list area tokens =
    record { refusal = 0; state = b.state; table = table; list = list; area = area; tokens = tokens; count = b.count }
many_left s (Err refusal) table list area tokens = many_refused (refusal_number refusal) s table list area tokens

-- many scans in one call: it is refused where there is no room for a token, and where the first
-- scan is
unfoldable pub scan_many_of : List ℕ → State → List ℕ → List ℕ → List ℕ → List ℕ → ManyLeft
scan_many_of src s table list area tokens =
    let n = (scan_of src s table list area).answer.refusal in
    cond (ltb (length tokens) token_width) (many_refused DOES_NOT_FIT s table list area tokens)
    (cond (eqb n 0) (left_after 0 tokens (many_of (token_room tokens) src s table list area))
    (many_refused n s table list area tokens))
