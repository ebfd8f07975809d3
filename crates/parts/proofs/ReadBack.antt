-- What was written is read back: the text and the value of a token, by the three numbers that each is.
use Prim.Native.Nat.{ℕ, ◌≤◌}
use mathlib.Core.Path.{◌≡◌}
use mathlib.Core.List.{List}
use lib.ListN.{length}
use lib.Seq.{sets, sets-eq}
use Rattle.state.proofs.ReadBack.{bit_read}
use Rattle.parts.specs.declared.token.Token.{Token}
use Rattle.parts.specs.Layout.{part_in, token_width, text_at, value_at, token_numbers}

module _ (n : List ℕ) (t : Token) (h : token_width ≤ length n) where
  pub text_read : part_in (sets n 0 (token_numbers t)) text_at ≡ t.text
  text_read = rw (sets-eq (token_numbers t) n 0 h, bit_read t.text.area)

  pub value_read : part_in (sets n 0 (token_numbers t)) value_at ≡ t.value
  value_read = rw (sets-eq (token_numbers t) n 0 h, bit_read t.value.area)
