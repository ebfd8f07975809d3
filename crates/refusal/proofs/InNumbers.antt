-- What a question gives is answered as the numbers that it is put into.
use Prim.Native.Nat.{ℕ}
use Rattle.std.specs.Prelude.{Result, Ok, Err, MatchResult, IsOkAnd}
use mathlib.Core.Path.{◌≡◌, ap}
use mathlib.Core.List.{List}
use Rattle.refusal.specs.declared.Refusal.{Refusal}
use Rattle.refusal.specs.Outcome.{outcome_of}
use Rattle.refusal.specs.Asked.{answered_by}

module _ {A : Type 0} (f : A → List ℕ) where
  put_into : (x : A) (r : Result (List ℕ) Refusal) → IsOkAnd r (λ numbers. numbers ≡ f x) → r ≡ Ok (f x)
  put_into x (Ok numbers) e = ap Ok e
  put_into x (Err refusal) e = absurd e

  pub in_numbers : (o : Result A Refusal) (r : Result (List ℕ) Refusal)
      → MatchResult o (λ x. IsOkAnd r (λ numbers. numbers ≡ f x)) (λ refusal. r ≡ Err refusal)
      → (answer : List ℕ) → answered_by (λ numbers. numbers) (outcome_of r) answer ≡ answered_by f (outcome_of o) answer
  in_numbers (Ok x) r e answer = rw (put_into x r e)
  in_numbers (Err refusal) r e answer = rw e
