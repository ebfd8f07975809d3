-- Two tests of numbers agree where each follows from the other.
use Prim.Native.Nat.{ℕ, ◌≤◌, ◌<◌}
use mathlib.Core.Path.{◌≡◌, refl, sym, ◌∙◌}
use mathlib.Core.Bool.{Bool, true, false}
use lib.Dec.{leb, ltb}
use borrow.Author.Tests.{leb-true, le-leb, ltb-true, lt-ltb}

pub same_le : (a b c d : ℕ) → (a ≤ b → c ≤ d) → (c ≤ d → a ≤ b) → leb a b ≡ leb c d
same_le a b c d f g = go (leb a b) (leb c d) refl refl
  where
    go : (t u : Bool) → leb a b ≡ t → leb c d ≡ u → leb a b ≡ leb c d
    go true u e k = e ∙ sym (le-leb c d (f (leb-true a b e)))
    go false true e k = le-leb a b (g (leb-true c d k)) ∙ sym k
    go false false e k = e ∙ sym k

pub same_lt : (a b c d : ℕ) → (a < b → c < d) → (c < d → a < b) → ltb a b ≡ ltb c d
same_lt a b c d f g = go (ltb a b) (ltb c d) refl refl
  where
    go : (t u : Bool) → ltb a b ≡ t → ltb c d ≡ u → ltb a b ≡ ltb c d
    go true u e k = e ∙ sym (lt-ltb c d (f (ltb-true a b e)))
    go false true e k = lt-ltb a b (g (ltb-true c d k)) ∙ sym k
    go false false e k = e ∙ sym k
