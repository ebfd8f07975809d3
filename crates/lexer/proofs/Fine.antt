-- The laws of one token as one record: it passes through a choice, and holds of a token that reads characters and of an inserted semicolon.
use Prim.Native.Nat.{ℕ, ◌≤◌, ◌<◌}
use mathlib.Core.Path.{◌≡◌, refl, sym, ◌∙◌}
use mathlib.Core.Bool.{Bool, true, false, cond, true≢false}
use mathlib.Core.List.{List, []}
use mathlib.Core.Logic.{◌≢◌, inl, inr}
use native.Mathlib.Omega.{arith}
use lib.ListN.{length}
use Rattle.utf8.specs.declared.Char.{Char}
use Rattle.utf8.proofs.Ends.{Ends}
use Rattle.kinds.specs.Kinds.{EOF}
use Rattle.lexer.specs.Lexeme.{Lexeme, Shut, shown, inserted_semicolon}
use Rattle.lexer.proofs.LexLaws.{Moves}
use Rattle.lexer.proofs.Known.{Known}

-- x is the token of r under the mark m, x' the one with more text after r
pub record Fine (m : Bool) (r : List Char) (x x' : Lexeme) : Type 0 where
  -- blanks are skipped before it
  pub none : x.skipped ≡ 0
  -- it reads no more than is there
  pub bound : x.len ≤ length r
  -- it is EOF only at the end, with no mark
  pub only : x.kind ≡ EOF → (m ≡ false) × (r ≡ [])
  -- it does not depend on what comes after the last line feed, and does not read it if it leaves a mark
  pub local : Ends r → Shut x.error → (x' ≡ x) × (x.mark ≡ true → x.len < length r)
  -- it reads a character or is an inserted semicolon
  pub moves : x.kind ≢ EOF → Moves m x

module _ (m : Bool) (r : List Char) where
  pub fine_cond : (b : Bool) (x x' y y' : Lexeme) → (b ≡ true → Fine m r x x') → (b ≡ false → Fine m r y y') → Fine m r (cond b x y) (cond b x' y')
  fine_cond true x x' y y' f g = f refl
  fine_cond false x x' y y' f g = g refl

  -- what more text after does is asked only of a text that ends in a line feed
  pub fine_to : (x x' y : Lexeme) → Fine m r x y → (Ends r → x' ≡ y) → Fine m r x x'
  fine_to x x' y f e =
      record {
        none = f.none;
        bound = f.bound;
        only = f.only;
        local = λ h s. let q = f.local h s in (e h ∙ q.0, q.1);
        moves = f.moves;
      }

  pub fine_semicolon : m ≡ true → Fine m r inserted_semicolon inserted_semicolon
  fine_semicolon e =
      record {
        none = refl;
        bound = omega arith;
        only = λ k. absurd (omega arith);
        local = λ h s. (refl, λ k. absurd (true≢false (sym k)));
        moves = λ k. inr (e, refl, refl, refl, refl);
      }

-- a token of n characters of the text
pub record Reads (n : ℕ) (x : Lexeme) : Type 0 where
  pub none : x.skipped ≡ 0
  pub len : x.len ≡ n
  pub known : Known x.kind
  pub there : x.inserted ≡ false

pub reads_shown : (kind n : ℕ) (text : List ℕ) (error : ℕ) (mark : Bool) → Known kind → Reads n (shown kind n text error mark)
reads_shown kind n text error mark k = record { none = refl; len = refl; known = k; there = refl }

pub fine_reads : (m : Bool) (r : List Char) (n : ℕ) (x x' : Lexeme) → Reads n x → 0 < n → n ≤ length r
    → (Ends r → Shut x.error → (x' ≡ x) × (x.mark ≡ true → n < length r)) → Fine m r x x'
fine_reads m r n x x' i some b f =
    record {
      none = i.none;
      bound = rw i.len b;
      only = λ e. absurd (i.known e);
      local = λ h s. let q = f h s in (q.0, λ k. rw i.len (q.1 k));
      moves = λ _. inl (rw i.len some, i.there);
    }

-- a body that reports its error where it is open, and does not report it, is closed
pub closed_if : (b : Bool) (e : ℕ) → (Shut e → ⊥) → Shut (cond b 0 e) → b ≡ true
closed_if true e n s = refl
closed_if false e n s = absurd (n s)
