-- The laws of a scan that the theorem about joined texts needs: what each says, in words and as a statement.
use Prim.Native.Nat.{◌≤◌, ◌<◌}
use mathlib.Core.Path.{◌≡◌}
use mathlib.Core.Bool.{Bool, true, false}
use mathlib.Core.List.{List, [], ◌++◌}
use mathlib.Core.Logic.{◌≢◌, ◌⊎◌}
use lib.ListN.{length, drop}
use Rattle.utf8.specs.declared.Char.{Char}
use Rattle.utf8.proofs.Ends.{Ends}
use Rattle.kinds.specs.Kinds.{EOF, SEMICOLON}
use Rattle.lexer.specs.Lexeme.{Lexeme, taken, Shut, bare, raise}

-- a token reads a character, or it is an inserted semicolon, which only a set mark gives and which clears it
abbrev pub Moves : Bool → Lexeme → Type 0
Moves m x =
    ((0 < x.len) × (x.inserted ≡ false)) ⊎ ((m ≡ true) × (x.len ≡ 0) × (x.inserted ≡ true) × (x.mark ≡ false) × (x.kind ≡ SEMICOLON))

-- m is the mark, r the characters left, t more text after them
pub record LexLaws (lex : Bool → List Char → Lexeme) : Type 0 where
  -- no more is read than is there
  pub bound : (m : Bool) (r : List Char) → taken (lex m r) ≤ length r
  -- at the end, with no mark, is EOF
  pub end : lex false [] ≡ bare EOF 0 false
  -- where EOF is found only blanks are left, and the next scan over more text starts after them with no mark
  pub blank : (m : Bool) (r t : List Char) → (lex m r).kind ≡ EOF → lex m (r ++ t) ≡ raise (length r) (lex false t)
  -- a token of a text that ends in a line feed does not depend on more text after it
  pub local : (m : Bool) (r t : List Char) → Ends r → (lex m r).kind ≢ EOF → Shut (lex m r).error → lex m (r ++ t) ≡ lex m r
  -- a token that reads the last line feed leaves no mark
  pub seam : (m : Bool) (r : List Char) → Ends r → (lex m r).kind ≢ EOF → Shut (lex m r).error → drop (taken (lex m r)) r ≡ [] → (lex m r).mark ≡ false
  -- each token but EOF reads a character or is an inserted semicolon
  pub moves : (m : Bool) (r : List Char) → (lex m r).kind ≢ EOF → Moves m (lex m r)
