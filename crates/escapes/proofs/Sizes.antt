-- How many bytes an escape gives.
use Prim.Native.Nat.{ℕ, ◌+◌, ◌*◌, ◌≤◌}
use mathlib.Core.Path.{◌≡◌, sym, subst}
use mathlib.Core.Bool.{true, false, cond}
use mathlib.Core.List.{List, [], ◌∷◌}
use native.Mathlib.Omega.{arith}
use lib.Dec.{eqb, ltb, lit≤}
use lib.ListN.{length}
use Rattle.basics.proofs.Choice.{cond_ind}
use Rattle.utf8.specs.declared.Char.{Char}
use Rattle.utf8.specs.Chars.{octets, is_scalar, encode}
use Rattle.digits.specs.Digit.{digit_val}
use Rattle.escapes.specs.Answers.{Meaning, character, no_character, Escape, bytes_of}
use Rattle.escapes.specs.EscapeDigits.{Digits, escape_digits}
use Rattle.escapes.specs.Escape.{letter, following, byte_of, code_point_of, octal_escape, hex_escape, escape_of}

-- ---- what an escape gives is at most twice as long as the escape with its backslash
abbrev Short : List ℕ → Type 0
Short l = length l ≤ 4

abbrev One : Meaning → Type 0
One g = length (bytes_of g) ≤ 1

abbrev Twice : Escape → Type 0
Twice x = length (bytes_of x.meaning) ≤ 2 * (x.len + 1)

pub encode_most : (n : ℕ) → length (encode n) ≤ 4
unfolding encode octets
encode_most n =
    cond_ind Short (is_scalar n) _ _
    (λ _. cond_ind Short (ltb n 0x80) _ _ (λ _. lit≤ tt)
    (λ _. cond_ind Short (ltb n 0x800) _ _ (λ _. lit≤ tt) (λ _. cond_ind Short (ltb n 0x10000) _ _ (λ _. lit≤ tt) (λ _. lit≤ tt))))
    (λ _. lit≤ tt)

given_most : (g : Meaning) → length (bytes_of g) ≤ 4
given_most (character code true) = lit≤ tt
given_most (character code false) = encode_most code
given_most (no_character error) = lit≤ tt

pub byte_most : (n : Digits) → length (bytes_of (byte_of n)) ≤ 1
unfolding byte_of
byte_most n =
    cond_ind One (eqb n.error 0) _ _ (λ _. cond_ind One (ltb 255 n.value) _ _ (λ _. lit≤ tt) (λ _. lit≤ tt)) (λ _. lit≤ tt)

hex_bytes : (first : ℕ) (r : List Char) → Twice (hex_escape first r)
unfolding hex_escape
hex_bytes first r =
    cond_ind Twice (eqb (following first) 0) _ _ (λ _. lit≤ tt)
    (λ _. omega (arith, given_most (cond (eqb first 120) (byte_of (escape_digits 16 (following first) 0 r)) (code_point_of (escape_digits 16 (following first) 0 r)))))

escape_bytes : (quote : ℕ) (r : List Char) → Twice (escape_of quote r)
unfolding escape_of octal_escape
escape_bytes quote [] = lit≤ tt
escape_bytes quote (c ∷ r) =
    cond_ind Twice (eqb (letter c.code) 0) _ _
    (λ _. cond_ind Twice (eqb c.code quote) _ _ (λ _. encode_most c.code)
    (λ _. cond_ind Twice (ltb (digit_val c.code) 8) _ _ (λ _. omega (arith, byte_most (escape_digits 8 3 0 (c ∷ r)))) (λ _. hex_bytes c.code r)))
    (λ _. encode_most (letter c.code))

pub escape_gives : (quote : ℕ) (r : List Char) (x : Escape) (g : Meaning) → x ≡ escape_of quote r → x.meaning ≡ g → length (bytes_of g) ≤ 2 * (x.len + 1)
escape_gives quote r x g e v = subst (λ (y : Meaning). length (bytes_of y) ≤ 2 * (x.len + 1)) v (subst Twice (sym e) (escape_bytes quote r))
