-- What an answer says is compared with a lexeme at its place field by field.
use Prim.Native.Nat.{ℕ, zero, suc, ◌+◌, ◌*◌, ◌<◌}
use mathlib.Core.Path.{◌≡◌, refl, sym}
use mathlib.Core.Bool.{Bool, true, false, not, ◌||◌, true≢false}
use mathlib.Core.List.{List, [], ◌∷◌}
use native.Mathlib.Omega.{arith}
use native.Mathlib.Nat.{add-zero, not-suc-le-zero}
use lib.Dec.{eqb}
use lib.ListN.{length}
use borrow.Author.Tests.{ne_eqb}
use Rattle.basics.specs.Same.{same}
use Rattle.basics.proofs.Lists.{same_refl}
use Rattle.lexer.specs.Lexeme.{inserted_semicolon}
use Rattle.lexer.specs.Made.{inserted_at}
use Rattle.lexer.specs.Placed.{Placed, text_differs_in, placed, length_of, said}

-- alike in each field
pub record Alike (p q : Placed) : Type 0 where
  pub lexeme : p.lexeme ≡ q.lexeme
  pub end : p.end ≡ q.end
  pub lfs : p.lfs ≡ q.lfs
  pub strays : p.strays ≡ q.strays
  pub text_making : p.text_making ≡ q.text_making
  pub value_making : p.value_making ≡ q.value_making
  pub text_length : p.text_length ≡ q.text_length
  pub value_length : p.value_length ≡ q.value_length
  pub text_differs : p.text_differs ≡ q.text_differs
  pub value_differs : p.value_differs ≡ q.value_differs

pub alike : {p q : Placed} → Alike p q → p ≡ q
alike h =
    λ i. record {
      lexeme = h.lexeme i;
      end = h.end i;
      lfs = h.lfs i;
      strays = h.strays i;
      text_making = h.text_making i;
      value_making = h.value_making i;
      text_length = h.text_length i;
      value_length = h.value_length i;
      text_differs = h.text_differs i;
      value_differs = h.value_differs i;
    }

-- ---- how long a text or a value is: one that does not differ from the source has no stray byte
pub exact_length : (differs : Bool) (bytes strays n : ℕ) → bytes + 2 * strays ≡ n → (differs ≡ false → strays ≡ 0) → length_of bytes strays differs ≡ n
exact_length true bytes strays n e f = e
exact_length false bytes strays n e f = rw (f refl) at e

no_strays : (other : Bool) (strays : ℕ) → other || not (eqb strays 0) ≡ false → strays ≡ 0
no_strays true strays e = absurd (true≢false e)
no_strays false zero e = refl
no_strays false (suc n) e = absurd (true≢false (rw (ne_eqb (suc n) 0 (λ z. omega arith)) at e))

-- one that differs wherever there is a stray byte
pub exact_with_strays : (other : Bool) (bytes strays n : ℕ) → bytes + 2 * strays ≡ n → length_of bytes strays (other || not (eqb strays 0)) ≡ n
exact_with_strays other bytes strays n e = exact_length (other || not (eqb strays 0)) bytes strays n e (no_strays other strays)

-- ---- whether a text differs
-- one that is the bytes read does not
pub text_same : (text bytes : List ℕ) → text ≡ bytes → text_differs_in text bytes ≡ false
text_same [] bytes e = refl
text_same (b ∷ text) bytes e = rw (← e, same_refl (b ∷ text))

-- one that is not empty does where its bytes do
pub text_some : (text bytes : List ℕ) → 0 < length text → text_differs_in text bytes ≡ not (same text bytes)
text_some [] bytes h = absurd (not-suc-le-zero h)
text_some (b ∷ text) bytes h = refl

-- an inserted semicolon reads nothing
pub semicolon_said : (s : List ℕ) (at : ℕ) → said s at (inserted_at at) ≡ placed s at inserted_semicolon
unfolding said placed same
semicolon_said s at =
    alike
    (record {
      lexeme = refl;
      end = sym (add-zero at);
      lfs = refl;
      strays = refl;
      text_making = refl;
      value_making = refl;
      text_length = refl;
      value_length = refl;
      text_differs = refl;
      value_differs = refl;
    })
