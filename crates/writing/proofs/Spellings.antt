-- Laws of the text of a number, byte by byte.
use Prim.Native.Nat.{ℕ, ◌+◌, ◌≤◌, ◌<◌}
use mathlib.Core.Path.{◌≡◌, refl, sym, ap}
use mathlib.Core.Bool.{cond}
use mathlib.Core.List.{List, [], ◌∷◌, ◌++◌}
use native.Mathlib.Omega.{arith}
use lib.Dec.{eqb}
use lib.ListN.{length, get_or, drop, drop_of_length-le}
use borrow.Author.Tests.{eq-eqb, ne_eqb}
use Rattle.basics.proofs.Lists.{drop_next}
use Rattle.numbers.specs.declared.Spelling.{Spelling}
use Rattle.numbers.specs.declared.Spelling.TheVariants.{AsRead, LowerPrefix, OctalPrefix, LowerExponent}
use Rattle.numbers.specs.Spelling.{lower, number_text}
use Rattle.writing.specs.Spelled.{spelled_byte, spelled_from}

-- ---- what the text has of one byte
module _ {spelling : Spelling} (k b : ℕ) where
  pub byte_as_read : spelling ≡ AsRead → spelled_byte spelling k b ≡ b ∷ []
  unfolding spelled_byte
  byte_as_read e = ap (λ s. spelled_byte s k b) e

  pub byte_prefix : spelling ≡ LowerPrefix → spelled_byte spelling k b ≡ cond (eqb k 1) (lower b) b ∷ []
  unfolding spelled_byte
  byte_prefix e = ap (λ s. spelled_byte s k b) e

  pub byte_exponent : spelling ≡ LowerExponent → spelled_byte spelling k b ≡ cond (eqb b 69) 101 b ∷ []
  unfolding spelled_byte
  byte_exponent e = ap (λ s. spelled_byte s k b) e

  pub byte_first : spelling ≡ OctalPrefix → k ≡ 0 → spelled_byte spelling k b ≡ b ∷ 111 ∷ []
  unfolding spelled_byte
  byte_first e z = rw (e, eq-eqb k 0 z)

  pub byte_after_o : spelling ≡ OctalPrefix → (k ≡ 0 → ⊥) → spelled_byte spelling k b ≡ b ∷ []
  unfolding spelled_byte
  byte_after_o e z = rw (e, ne_eqb k 0 z)

-- ---- the whole text
as_read : (k : ℕ) (bs : List ℕ) → spelled_from AsRead k bs ≡ bs
unfolding spelled_byte spelled_from
as_read k [] = refl
as_read k (b ∷ bs) = ap (λ l. b ∷ l) (as_read (k + 1) bs)

-- after its second byte a text with a prefix is as read
after_prefix : (k : ℕ) (bs : List ℕ) → 1 < k → spelled_from LowerPrefix k bs ≡ bs
unfolding spelled_byte spelled_from
after_prefix k [] h = refl
after_prefix k (b ∷ bs) h = rw (ne_eqb k 1 (λ e. omega arith)) (ap (λ l. b ∷ l) (after_prefix (k + 1) bs (omega arith)))

-- and with an o after its first
after_o : (k : ℕ) (bs : List ℕ) → 0 < k → spelled_from OctalPrefix k bs ≡ bs
unfolding spelled_byte spelled_from
after_o k [] h = refl
after_o k (b ∷ bs) h = rw (ne_eqb k 0 (λ e. omega arith)) (ap (λ l. b ∷ l) (after_o (k + 1) bs (omega arith)))

exponent : (k : ℕ) (bs : List ℕ) → spelled_from LowerExponent k bs ≡ number_text LowerExponent bs
unfolding spelled_byte spelled_from number_text
exponent k [] = refl
exponent k (b ∷ bs) = ap (λ l. cond (eqb b 69) 101 b ∷ l) (exponent (k + 1) bs)

-- byte by byte the text is the same
pub number_text_lem : (spelling : Spelling) (bs : List ℕ) → number_text spelling bs ≡ spelled_from spelling 0 bs
unfolding spelled_byte spelled_from number_text
number_text_lem AsRead bs = sym (as_read 0 bs)
number_text_lem LowerPrefix [] = refl
number_text_lem LowerPrefix (a ∷ []) = refl
number_text_lem LowerPrefix (a ∷ b ∷ bs) = rw (after_prefix 2 bs (omega arith))
number_text_lem OctalPrefix [] = refl
number_text_lem OctalPrefix (a ∷ bs) = rw (after_o 1 bs (omega arith))
number_text_lem LowerExponent bs = sym (exponent 0 bs)

-- ---- the text of what is left of the bytes after k of them
module _ (spelling : Spelling) (k : ℕ) (bs : List ℕ) where
  pub spelled_next : k < length bs → spelled_from spelling k (drop k bs) ≡ spelled_byte spelling k (get_or bs k 0) ++ spelled_from spelling (k + 1) (drop (k + 1) bs)
  unfolding spelled_from
  spelled_next h = ap (spelled_from spelling k) (drop_next bs k 0 h)

  pub spelled_end : length bs ≤ k → spelled_from spelling k (drop k bs) ≡ []
  unfolding spelled_from
  spelled_end h = ap (spelled_from spelling k) (drop_of_length-le bs h)
