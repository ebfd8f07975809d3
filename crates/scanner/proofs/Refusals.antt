-- The checks of a scan: which of them each test of the code decides, and what a token has that passes all of them.
use Prim.Native.Nat.{ℕ, suc, ◌+◌, ◌-◌, ◌≤◌}
use mathlib.Core.Path.{◌≡◌, refl, sym}
use mathlib.Core.Bool.{Bool, true, false, cond}
use native.Mathlib.Omega.{arith}
use lib.Dec.{eqb, leb, ltb}
use borrow.Author.Tests.{ltb-false, leb-true, le-ltb, eq-eqb}
use Rattle.errors.specs.Faults.{error_number}
use Rattle.lexer.specs.declared.lexed.Lexed.{Lexed}
use Rattle.state.specs.declared.state.State.{State}
use Rattle.scanner.specs.Steps.{to_write, refusal_by}

-- one error more, or none
pub list_none : (number errors list : ℕ) → number ≡ 0 → errors ≤ list → errors + cond (eqb number 0) 0 1 ≤ list
list_none number errors list e h = rw (eq-eqb _ _ e) (omega arith)

-- a scan that has room for all that it comes to
pub refusal_none : (x : Lexed) (offset starts : ℕ) (s : State) (table list area : ℕ) → offset ≤ s.size → s.lines ≤ table → starts ≤ table - s.lines
    → s.errors + cond (eqb (error_number x.error) 0) 0 1 ≤ list → true ≡ leb (to_write x) area → 0 ≡ refusal_by x offset starts s table list area
refusal_none x offset starts s table list area h l g k e =
    rw (le-ltb _ _ h, le-ltb table (s.lines + starts) (omega arith), le-ltb _ _ k, le-ltb area (to_write x) (leb-true _ _ (sym e)))

-- ---- what passes
pub record Passed (x : Lexed) (offset starts : ℕ) (s : State) (table list area : ℕ) : Type 0 where
  pub sized : offset ≤ s.size
  pub table_room : s.lines + starts ≤ table
  pub list_room : s.errors + cond (eqb (error_number x.error) 0) 0 1 ≤ list
  pub area_room : to_write x ≤ area

cond_zero : (t : Bool) (k n : ℕ) → cond t (suc k) n ≡ 0 → (t ≡ false) × (n ≡ 0)
cond_zero true k n e = absurd (omega arith)
cond_zero false k n e = (refl, e)

pub passed : (x : Lexed) (offset starts : ℕ) (s : State) (table list area : ℕ) → refusal_by x offset starts s table list area ≡ 0 → Passed x offset starts s table list area
passed x offset starts s table list area e =
    let a = cond_zero (ltb s.size offset) 2 _ e in
    let b = cond_zero (ltb table (s.lines + starts)) 6 _ a.1 in
    let d = cond_zero (ltb list (s.errors + cond (eqb (error_number x.error) 0) 0 1)) 7 _ b.1 in
    let f = cond_zero (ltb area (to_write x)) 8 _ d.1 in
    record {
      sized = ltb-false _ _ a.0;
      table_room = ltb-false _ _ b.0;
      list_room = ltb-false _ _ d.0;
      area_room = ltb-false _ _ f.0;
    }
