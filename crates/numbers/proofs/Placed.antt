-- A number is ASCII: the place after it is as many bytes on as it has characters.
use Prim.Native.Nat.{ℕ, ◌+◌}
use Prim.Native.Char.{code}
use mathlib.Core.Path.{◌≡◌, ap}
use mathlib.Core.List.{List}
use native.Mathlib.Nat.{add_assoc}
use lib.Dec.{lit<}
use lib.ListN.{get_or, drop}
use borrow.Author.Tests.{eq-eqb, ne_eqb}
use Rattle.utf8.specs.Chars.{chars, peek}
use Rattle.utf8.proofs.Places.{code_next}
use Rattle.kinds.specs.Kinds.{ILLEGAL, IMAG}
use Rattle.numbers.specs.Number.{without_i, number, number_at}
use Rattle.numbers.proofs.Runs.{plain_place}
use Rattle.numbers.proofs.Tested.{without_read}

module _ (s : List ℕ) where
  pub without_placed : (at : ℕ) → drop (without_i (chars (drop at s))).len (chars (drop at s)) ≡ chars (drop (at + (without_i (chars (drop at s))).len) s)
  without_placed at = plain_place _ s at (without_read (chars (drop at s))).0.plain

  -- ---- an i that follows
  module _ (at : ℕ) where
    i_there : peek (drop (without_i (chars (drop at s))).len (chars (drop at s))) ≡ peek (chars (drop (at + (without_i (chars (drop at s))).len) s))
    i_there = ap peek (without_placed at)

    pub number_illegal : (without_i (chars (drop at s))).kind ≡ ILLEGAL → number_at at (number (chars (drop at s))) ≡ number_at at (without_i (chars (drop at s)))
    unfolding number
    number_illegal e = rw (eq-eqb _ _ e)

    module _ (good : (without_i (chars (drop at s))).kind ≡ ILLEGAL → ⊥) where
      pub number_imaginary : get_or s (at + (without_i (chars (drop at s))).len) 0 ≡ code "i"
          → number_at at (number (chars (drop at s)))
          ≡ record { kind = IMAG; end = at + (without_i (chars (drop at s))).len + 1; error = 0; spelling = (without_i (chars (drop at s))).spelling }
      unfolding number
      number_imaginary e =
          rw (ne_eqb _ _ good, i_there, code_next s (at + (without_i (chars (drop at s))).len) (code "i") (lit< tt), eq-eqb _ _ e, add_assoc)

      pub number_other : (get_or s (at + (without_i (chars (drop at s))).len) 0 ≡ code "i" → ⊥)
          → number_at at (number (chars (drop at s))) ≡ number_at at (without_i (chars (drop at s)))
      unfolding number
      number_other e = rw (ne_eqb _ _ good, i_there, code_next s (at + (without_i (chars (drop at s))).len) (code "i") (lit< tt), ne_eqb _ _ e)
