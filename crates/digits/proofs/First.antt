-- How many bytes of a text are before the first that passes a test, as `position` and `unwrap_or` find it.
use Prim.Native.Nat.{ℕ, ◌-◌, ◌≤◌}
use mathlib.Core.Path.{◌≡◌, ap, ◌∙◌}
use mathlib.Core.Bool.{Bool, true, false, cond, not}
use mathlib.Core.List.{List}
use mathlib.Core.Logic.{⊎_elim}
use native.Mathlib.Omega.{arith}
use lib.Dec.{ltb}
use lib.ListN.{length, take, drop, length-drop}
use lib.Seq.{take_all}
use borrow.Author.Tests.{ltb-false}
use Rattle.basics.proofs.Choice.{either}
use Rattle.std.specs.Prelude.{Option, Some, None}
use Rattle.std.specs.List.{position_or_len}
use Rattle.std.proofs.lemmas.List.Sums.{prefix_len-le-length}
use Rattle.std.specs.Option.{unwrap_or}

first_within : (f : ℕ → Bool) (s : List ℕ) → position_or_len f s ≤ length s
first_within f s = prefix_len-le-length (λ b. not (f b)) s

pub first_or_all : (f : ℕ → Bool) (s : List ℕ) (r : Option ℕ) → r ≡ cond (ltb (position_or_len f s) (length s)) (Some (position_or_len f s)) None
    → unwrap_or r (length s) ≡ position_or_len f s
first_or_all f s r e =
    ap (λ x. unwrap_or x (length s)) e
    ∙ ⊎_elim (λ (t : ltb (position_or_len f s) (length s) ≡ true). rw t)
    (λ (t : ltb (position_or_len f s) (length s) ≡ false). rw t (omega (arith, first_within f s, ltb-false (position_or_len f s) (length s) t)))
    (either (ltb (position_or_len f s) (length s)))

-- what is left of a text from a place on, as slicing has it
pub rest_all : (n : ℕ) (s : List ℕ) → take (length s - n) (drop n s) ≡ drop n s
rest_all n s = take_all (length s - n) (drop n s) (omega (arith, length-drop n s))
