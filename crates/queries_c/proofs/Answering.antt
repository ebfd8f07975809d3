-- What is answered in numbers, by what a question gives.
use Prim.Native.Nat.{ℕ}
use Rattle.std.specs.Prelude.{Result, Ok, Err, Some, None, unwrap_or, Option as Optional}
use Rattle.std.specs.Result.{result_and}
use Rattle.std.specs.Borrow.{Bor}
use mathlib.Core.Path.{◌≡◌, refl, ap, ◌∙◌}
use mathlib.Core.Bool.{Bool, true, false, cond, ◌&&◌}
use mathlib.Core.List.{List}
use lib.Dec.{leb}
use lib.ListN.{length}
use Rattle.refusal.specs.declared.Refusal.{Refusal}
use Rattle.refusal.specs.Outcome.{outcome_of, refusal_number}
use Rattle.refusal.proofs.Numbers.{refusal_some}
use Rattle.errors.specs.declared.layout.Error.{Error}
use Rattle.errors.specs.Layout.{numbers}
use Rattle.errors.specs.Answers.{got}
use Rattle.parts.specs.declared.part.Part.{Part}
use Rattle.parts.specs.Shown.{Shown, shown_in, shown_of, shown_as}
use Rattle.parts.specs.Layout.{part_numbers}
use Rattle.refusal.specs.Asked.{answered_by}
use Rattle.queries_c.specs.Questions.{error_or}
use Rattle.queries_c.specs.Steps.{optional_numbers}
use Rattle.queries_c.specs.Parts.{in_buffer}

pub optional : (o : Optional Error) → numbers (unwrap_or o (record { offset = 0; line = 0; column = 0; number = 0 })) ≡ optional_numbers o
unfolding numbers
optional (Some e) = refl
optional None = refl

pub found : (o : Result (Optional Error) Refusal) (answer : List ℕ) → answered_by optional_numbers (outcome_of o) answer ≡ answered_by error_or (got o) answer
found (Ok (Some e)) answer = refl
found (Ok None) answer = refl
found (Err e) answer = refl

-- ---- a part that is not shown is refused by 6

abbrev BySix : Shown → Type 0
BySix s = (s.refusal ≡ 0 → ⊥) → s.refusal ≡ 6

either_by_six : (t : Bool) (x y : Shown) → BySix x → BySix y → BySix (cond t x y)
either_by_six true x y f g = f
either_by_six false x y f g = g

in_six : (buffer : List ℕ) (p : Part) → BySix (shown_in buffer p)
in_six buffer p = either_by_six (leb p.start p.end && leb p.end (length buffer)) _ _ (λ z. absurd (z refl)) (λ z. refl)

by_six : (src area : List ℕ) (p : Part) → BySix (shown_of src area p)
unfolding shown_of
by_six src area p = either_by_six p.area (shown_in area p) (shown_in src p) (in_six area p) (in_six src p)

pub part_shown : (src area : List ℕ) (p : Part) (o : Result (Bor (List ℕ)) Refusal) → shown_as o ≡ shown_of src area p → (answer : List ℕ)
    → answered_by (λ numbers. numbers) (outcome_of (result_and o (Ok (part_numbers p)))) answer ≡ answered_by part_numbers (in_buffer src area p) answer
part_shown src area p (Ok b) e answer = rw (← e)
part_shown src area p (Err r) e answer =
    let n : refusal_number r ≡ (shown_of src area p).refusal = ap (λ (s : Shown). s.refusal) e in
    let six : (shown_of src area p).refusal ≡ 6 = by_six src area p (λ z. refusal_some r (n ∙ z)) in
    rw (n, six)
