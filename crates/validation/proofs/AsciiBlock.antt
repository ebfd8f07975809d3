-- Laws of blocks of ASCII: one byte more, by the greatest byte so far.
use Prim.Native.Nat.{ℕ, zero, suc, ◌+◌, ◌≤◌, ◌<◌}
use mathlib.Core.Path.{◌≡◌, refl}
use mathlib.Core.Bool.{Bool, true, false, and-false}
use mathlib.Core.List.{List, [], ◌∷◌}
use native.Mathlib.Omega.{arith}
use lib.Dec.{ltb, leb}
use lib.ListN.{length, take, drop}
use borrow.Author.Tests.{lt-ltb, leb-true, le-leb, lt-leb}
use borrow.Author.Tests.{le-ltb}
use Rattle.std.specs.Prelude.{slice_index}
use Rattle.std.specs.Bool.{MatchBool}
use Rattle.std.specs.Str.{IsAscii, IsNotAscii}
use Rattle.basics.proofs.Choice.{and_split}
use Rattle.validation.specs.Steps.{all_ascii, ascii_block}

-- what the library says of a text's bytes
ascii_all : (s : List ℕ) → IsAscii s → all_ascii s ≡ true
ascii_all [] h = refl
ascii_all (b ∷ s) h = let l : b < 0x80 = h 0 in rw (lt-ltb b 0x80 l) (ascii_all s (λ i. h (suc i)))

ascii_some : (s : List ℕ) (i : ℕ) → 128 ≤ slice_index s i → all_ascii s ≡ false
ascii_some [] i h = absurd (omega arith)
ascii_some (b ∷ s) zero h = rw (le-ltb b 0x80 h)
ascii_some (b ∷ s) (suc i) h = rw (ascii_some s i h) (and-false (ltb b 0x80))

pub ascii_is : (s : List ℕ) (t : Bool) → MatchBool t (IsAscii s) (IsNotAscii s) → all_ascii s ≡ t
ascii_is s true h = ascii_all s h
ascii_is s false h = ascii_some s h.0 h.1

module _ (s : List ℕ) (at : ℕ) where
  pub block_short : length s < at + 32 → ascii_block s at ≡ false
  unfolding ascii_block
  block_short h = rw (lt-leb (at + 32) (length s) h)

  pub block_there : (t : Bool) → at + 32 ≤ length s → all_ascii (take 32 (drop at s)) ≡ t → ascii_block s at ≡ t
  unfolding ascii_block
  block_there t h e = rw (le-leb (at + 32) (length s) h, e)

  pub block_true : ascii_block s at ≡ true → (at + 32 ≤ length s) × (all_ascii (take 32 (drop at s)) ≡ true)
  unfolding ascii_block
  block_true e =
      let q = and_split (leb (at + 32) (length s)) (all_ascii (take 32 (drop at s))) e in (leb-true (at + 32) (length s) q.0, q.1)
