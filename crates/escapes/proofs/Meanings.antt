-- What holds of characters and bytes, and of errors that are not 0, holds of what an escape gives.
use Prim.Native.Nat.{ℕ}
use Prim.Native.Char.{code}
use mathlib.Core.Bool.{true, false}
use mathlib.Core.List.{List, [], ◌∷◌}
use mathlib.Core.Logic.{◌≢◌}
use native.Mathlib.Omega.{arith}
use lib.Dec.{eqb, ltb}
use borrow.Author.Tests.{eqb-false}
use Rattle.basics.proofs.Choice.{cond_ind}
use Rattle.utf8.specs.declared.Char.{Char}
use Rattle.utf8.specs.Chars.{is_scalar}
use Rattle.digits.specs.Digit.{digit_val}
use Rattle.escapes.specs.Answers.{Meaning, character, no_character, Escape}
use Rattle.escapes.specs.EscapeDigits.{Digits, escape_digits}
use Rattle.escapes.specs.Escape.{letter, following, byte_of, code_point_of, octal_escape, hex_escape, escape_of}

module _ (P : Meaning → Type 0) (char : (c : ℕ) → P (character c false)) (byte : (c : ℕ) → P (character c true)) (bad : (error : ℕ) → error ≢ 0 → P (no_character error)) where
  byte_ind : (n : Digits) → P (byte_of n)
  unfolding byte_of
  byte_ind n =
      cond_ind P (eqb n.error 0) _ _
      (λ _. cond_ind P (ltb 255 n.value) _ _ (λ _. bad _ (λ e. omega arith)) (λ _. byte n.value))
      (λ e. bad n.error (eqb-false n.error 0 e))

  code_ind : (n : Digits) → P (code_point_of n)
  unfolding code_point_of
  code_ind n =
      cond_ind P (eqb n.error 0) _ _
      (λ _. cond_ind P (is_scalar n.value) _ _ (λ _. char n.value) (λ _. bad _ (λ e. omega arith)))
      (λ e. bad n.error (eqb-false n.error 0 e))

  pub escape_ind : (quote : ℕ) (r : List Char) → P (escape_of quote r).meaning
  unfolding escape_of octal_escape hex_escape
  escape_ind quote [] = bad _ (λ e. omega arith)
  escape_ind quote (c ∷ r) =
      let n = escape_digits 16 (following c.code) 0 r in
      cond_ind (λ (x : Escape). P x.meaning) (eqb (letter c.code) 0) _ _
      (λ _. cond_ind (λ (x : Escape). P x.meaning) (eqb c.code quote) _ _ (λ _. char c.code)
      (λ _. cond_ind (λ (x : Escape). P x.meaning) (ltb (digit_val c.code) 8) _ _ (λ _. byte_ind (escape_digits 8 3 0 (c ∷ r)))
      (λ _. cond_ind (λ (x : Escape). P x.meaning) (eqb (following c.code) 0) _ _ (λ _. bad _ (λ e. omega arith))
      (λ _. cond_ind P (eqb c.code (code "x")) _ _ (λ _. byte_ind n) (λ _. code_ind n)))))
      (λ _. char (letter c.code))

-- ---- an escape that gives no character has an error
abbrev pub HasError : Meaning → Type 0
HasError (character c byte) = Unit {0}
HasError (no_character error) = error ≢ 0

pub escape_error : (quote : ℕ) (r : List Char) → HasError (escape_of quote r).meaning
escape_error = escape_ind HasError (λ _. tt) (λ _. tt) (λ error e. e)
