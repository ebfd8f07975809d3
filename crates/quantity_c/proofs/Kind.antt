-- A number that is too large for a kind has the answer of a token that is no number.
use Prim.Native.Nat.{ℕ, ◌≤◌}
use mathlib.Core.Path.{◌≡◌, refl, sym, ap, ◌∙◌}
use mathlib.Core.Bool.{true, false, cond}
use mathlib.Core.List.{List}
use mathlib.Core.Logic.{⊎_elim}
use native.Mathlib.Omega.{arith}
use lib.Dec.{eqb, ltb}
use borrow.Author.Tests.{ne_eqb, ltb-false}
use Rattle.basics.proofs.Choice.{either}
use Rattle.refusal.specs.Outcome.{Outcome, refused}
use Rattle.refusal.specs.Refusals.{NO_NUMBER}
use Rattle.kinds.specs.Kinds.{NONE, INT, FLOAT}
use Rattle.parts.specs.declared.part.Part.{Part}
use Rattle.parts.specs.Shown.{shown_of}
use Rattle.quantity.specs.declared.Quantity.{Quantity}
use Rattle.quantity_query.specs.Given.{is_given}
use Rattle.quantity_query.specs.Number.{number_behind, number_in}
use Rattle.quantity_c.specs.Steps.{kind_of}

none_of : (text : List ℕ) → number_behind NONE text ≡ refused NO_NUMBER
unfolding number_behind is_given
none_of text = refl

large_of : (n : ℕ) (text : List ℕ) → 256 ≤ n → number_behind n text ≡ refused NO_NUMBER
unfolding number_behind is_given
large_of n text h = rw (ne_eqb n INT (λ e. omega (arith, e, h)), ne_eqb n FLOAT (λ e. omega (arith, e, h)))

kind_same : (n : ℕ) (text : List ℕ) → number_behind (kind_of n) text ≡ number_behind n text
kind_same n text =
    ⊎_elim (λ (t : ltb n 256 ≡ true). rw t) (λ (f : ltb n 256 ≡ false). rw f (none_of text ∙ sym (large_of n text (ltb-false n 256 f))))
    (either (ltb n 256))

pub kind_asked : (src area : List ℕ) (n : ℕ) (text : Part) → number_in src area (kind_of n) text ≡ number_in src area n text
unfolding number_in
kind_asked src area n text =
    let s = shown_of src area text in
    ap (λ (o : Outcome Quantity). cond (eqb s.refusal 0) o (refused s.refusal)) (kind_same n s.bytes)
