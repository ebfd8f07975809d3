-- The exported questions about a state, by the definitions of queries.
use Rattle.std.specs.Prelude.{ℕ, List, [], ◌∷◌}
use Rattle.std.proofs.Math.Option.{Option, some, none}
use Rattle.position.specs.declared.Position.{Position}
use Rattle.errors.specs.declared.layout.Error.{Error}
use Rattle.errors.specs.Layout.{width, numbers}
use Rattle.state.specs.Layout.{state_width, state_in}
use Rattle.queries.specs.Queries.{position_in, line_start_in, error_in}
use Rattle.refusal.specs.Asked.{Answered, asked}

unfoldable pub position_numbers : List ℕ → List ℕ → ℕ → List ℕ → Answered
position_numbers state table p answer =
    asked state_width state 3 (λ (q : Position). q.offset ∷ q.line ∷ q.column ∷ []) (position_in (state_in state) table p) answer

unfoldable pub line_start_numbers : List ℕ → List ℕ → ℕ → List ℕ → Answered
line_start_numbers state table line answer =
    asked state_width state 1 (λ start. start ∷ []) (line_start_in (state_in state) table line) answer

-- no error at that index: four zeros
abbrev pub error_or : Option Error → List ℕ
error_or (some e) = numbers e
error_or none = 0 ∷ 0 ∷ 0 ∷ 0 ∷ []

unfoldable pub error_numbers : List ℕ → List ℕ → ℕ → List ℕ → Answered
error_numbers state list index answer = asked state_width state width error_or (error_in (state_in state) list index) answer
