-- Words and operators are never of the kinds EOF and STRING, and words never ILLEGAL: these stand in neither table.
use Prim.Native.Nat.{ℕ}
use mathlib.Core.Bool.{Bool, not}
use mathlib.Core.List.{List}
use mathlib.Core.Logic.{◌≢◌}
use native.Mathlib.Omega.{arith}
use lib.Dec.{T, eqb}
use borrow.Author.Tests.{eq-eqb}
use Rattle.basics.specs.Same.{same}
use Rattle.basics.proofs.Choice.{cond_ind}
use Rattle.basics.proofs.Every.{each, each_ind}
use Rattle.utf8.specs.declared.Char.{Char}
use Rattle.kinds.specs.Kinds.{ILLEGAL, EOF, IDENT, STRING}
use Rattle.kinds.specs.Table.{Row, keywords, operators, kind_named, ident_token}
use Rattle.operators.specs.Longest.{longest, operator_of}
use Rattle.operators.proofs.Bounds.{longest_ind}

abbrev pub Known : ℕ → Type 0
Known kind = kind ≢ EOF

-- a row of another kind
abbrev without : ℕ → Row → Bool
without k row = not (eqb row.kind k)

module _ (k : ℕ) where
  other : (row : Row) → T (without k row) → row.kind ≢ k
  other row t e = rw (eq-eqb row.kind k e) at t

  named_other : IDENT ≢ k → (word : List ℕ) (rows : List Row) → T (each (without k) rows) → kind_named word rows ≢ k
  unfolding kind_named
  named_other i word =
      each_ind (without k) (λ rows. kind_named word rows ≢ k) i
      (λ row rows t rest. cond_ind (λ kind. kind ≢ k) (same word row.name) _ _ (λ _. other row t) (λ _. rest))

  longest_other : ILLEGAL ≢ k → (r : List Char) (rows : List Row) → T (each (without k) rows) → (longest rows r).kind ≢ k
  longest_other i r = longest_ind (λ x. x.kind ≢ k) (without k) r i (λ row t _. other row t)

pub word_known : (word : List ℕ) → Known (ident_token word)
unfolding keywords
word_known word = named_other EOF (λ e. omega arith) word keywords tt

pub word_no_string : (word : List ℕ) → ident_token word ≢ STRING
unfolding keywords
word_no_string word = named_other STRING (λ e. omega arith) word keywords tt

pub word_legal : (word : List ℕ) → ident_token word ≢ ILLEGAL
unfolding keywords
word_legal word = named_other ILLEGAL (λ e. omega arith) word keywords tt

pub operator_known : (r : List Char) → Known (operator_of r).kind
unfolding operators
operator_known r = longest_other EOF (λ e. omega arith) r operators tt

pub operator_no_string : (r : List Char) → (operator_of r).kind ≢ STRING
unfolding operators
operator_no_string r = longest_other STRING (λ e. omega arith) r operators tt
