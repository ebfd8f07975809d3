-- The number of a word's kind is that of a kind.
use Prim.Native.Nat.{ℕ, ◌<◌}
use mathlib.Core.Path.{◌≡◌}
use mathlib.Core.List.{List}
use native.Mathlib.Omega.{arith}
use lib.Dec.{eqb, eqb→eq, ltb}
use borrow.Author.Tests.{ltb-true}
use Rattle.basics.specs.Same.{same}
use Rattle.basics.proofs.Choice.{cond_ind, true_of}
use Rattle.basics.proofs.Every.{each_ind, every_entry}
use Rattle.kinds.specs.declared.kind.Kind.TheVariants.{None}
use Rattle.kinds.specs.Number.{kind_number}
use Rattle.batch.specs.KindOf.{all_kinds, kind_of}
use Rattle.kinds.specs.Table.{keywords, kind_named, ident_token}

pub numbered : (number : ℕ) → number < 82 → kind_number (kind_of number) ≡ number
unfolding all_kinds
numbered number h = eqb→eq (kind_number (kind_of number)) number (every_entry (λ k x. eqb (kind_number x) k) all_kinds None tt number h)

pub word_below : (word : List ℕ) → ident_token word < 82
unfolding keywords kind_named
word_below word =
    each_ind (λ row. ltb row.kind 82) (λ rows. kind_named word rows < 82) (omega arith)
    (λ row rows t rest. cond_ind (λ kind. kind < 82) (same word row.name) _ _ (λ _. ltb-true row.kind 82 (true_of _ t)) (λ _. rest)) keywords tt
