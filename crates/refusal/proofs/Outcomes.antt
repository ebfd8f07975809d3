-- No call is refused and gives something, and what a call that tests has found.
use Prim.Native.Nat.{ℕ}
use Rattle.std.specs.Prelude.{Result, Ok, Err}
use mathlib.Core.Path.{◌≡◌, refl, sym, ◌∙◌}
use mathlib.Core.Bool.{Bool, true, false}
use native.Mathlib.Omega.{arith}
use Rattle.refusal.specs.declared.Refusal.{Refusal}
use Rattle.refusal.specs.declared.Refusal.TheVariants.{DoesNotFit}
use Rattle.refusal.specs.Outcome.{Outcome, refused, gave}
use Rattle.refusal.specs.Steps.{where_fits}

pub refused_gave : {A B : Type 0} {m : ℕ} {x : B} → ◌≡◌ {A = Outcome B} (refused m) (gave x) → A
refused_gave e = let z : ◌≡◌ {A = ℕ} 0 1 = cc in absurd (omega arith)

-- r is what such a test answered
module _ {A : Type 0} where
  ok_true : (t : Bool) (x : A) {y : A} → Ok y ≡ where_fits t x → (t ≡ true) × (y ≡ x)
  ok_true true x e = (refl, grind arith)
  ok_true false x e = absurd (grind arith)

  err_false : (t : Bool) (x : A) {refusal : Refusal} → Err refusal ≡ where_fits t x → (t ≡ false) × (refusal ≡ DoesNotFit)
  err_false true x e = absurd (grind arith)
  err_false false x e = (refl, grind arith)

  module _ (t : Bool) (x : A) {r : Result A Refusal} (e : r ≡ where_fits t x) where
    pub fits_ok : {y : A} → r ≡ Ok y → (t ≡ true) × (y ≡ x)
    fits_ok g = ok_true t x (sym g ∙ e)

    pub fits_err : {refusal : Refusal} → r ≡ Err refusal → (t ≡ false) × (refusal ≡ DoesNotFit)
    fits_err g = err_false t x (sym g ∙ e)
