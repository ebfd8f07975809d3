-- Laws of the code's steps: digits that are too few, and the entries of the tables.
use Prim.Native.Nat.{ℕ}
use mathlib.Core.Path.{◌≡◌}
use mathlib.Core.Bool.{true, false}
use mathlib.Core.Logic.{⊎_elim}
use lib.Dec.{eqb}
use borrow.Author.Tests.{eqb-true}
use Rattle.std.specs.Prelude.{Option, Some, None, Err}
use Rattle.basics.proofs.Choice.{cond_ind, either}
use Rattle.errors.specs.declared.fault.Fault.{Fault}
use Rattle.errors.specs.Faults.{fault_number}
use Rattle.escapes.specs.Answers.{no_character}
use Rattle.escapes.specs.EscapeDigits.{Digits}
use Rattle.escapes.specs.Escape.{byte_of, code_point_of}
use Rattle.escapes.specs.Steps.{digits_by, whole, entry}
use Rattle.escapes.proofs.Faults.{fault_some}

-- what a fault of the digits gives
pub bad_byte : (len : ℕ) (fault : Fault) → byte_of (digits_by len (Err fault)) ≡ no_character (fault_number fault)
unfolding byte_of
bad_byte len fault = rw (fault_some fault)

pub bad_code : (len : ℕ) (fault : Fault) → code_point_of (digits_by len (Err fault)) ≡ no_character (fault_number fault)
unfolding code_point_of
bad_code len fault = rw (fault_some fault)

-- the value of digits that are too few is not looked at
pub byte_whole : (n : Digits) → byte_of (whole n) ≡ byte_of n
unfolding byte_of
byte_whole n = ⊎_elim (λ (t : eqb n.error 0 ≡ true). rw t) (λ (t : eqb n.error 0 ≡ false). rw t) (either (eqb n.error 0))

pub code_whole : (n : Digits) → code_point_of (whole n) ≡ code_point_of n
unfolding code_point_of
code_whole n = ⊎_elim (λ (t : eqb n.error 0 ≡ true). rw t) (λ (t : eqb n.error 0 ≡ false). rw t) (either (eqb n.error 0))

-- ---- an entry is there, or 0 stands for it
pub entry_some : (n k : ℕ) → Some k ≡ entry n → (n ≡ k) × (eqb n 0 ≡ false)
entry_some n k = cond_ind (λ (x : Option ℕ). Some k ≡ x → (n ≡ k) × (eqb n 0 ≡ false)) (eqb n 0) _ _ (λ t e. cc) (λ t e. (cc, t))

pub entry_none : (n : ℕ) → None ≡ entry n → n ≡ 0
entry_none n = cond_ind (λ (x : Option ℕ). None ≡ x → n ≡ 0) (eqb n 0) _ _ (λ t e. eqb-true n 0 t) (λ t e. cc)
