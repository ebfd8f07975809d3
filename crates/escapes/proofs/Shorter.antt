-- What an escape gives is shorter than the escape with its backslash.
use Prim.Native.Nat.{ℕ, zero, suc, ◌+◌, ◌*◌, ◌≤◌, ◌<◌}
use mathlib.Core.Path.{◌≡◌, refl, ap}
use mathlib.Core.Bool.{Bool, true, false, cond, true≢false}
use mathlib.Core.List.{List, [], ◌∷◌}
use native.Mathlib.Omega.{arith}
use lib.Dec.{eqb, ltb, lit≤, lit<}
use lib.ListN.{length}
use borrow.Author.Tests.{eqb-true, ltb-true, lt-ltb}
use Rattle.basics.proofs.Choice.{cond_ind, true_of}
use Rattle.utf8.specs.declared.Char.{Char}
use Rattle.utf8.specs.Chars.{octets, is_scalar, encode}
use Rattle.digits.specs.Digit.{digit_val}
use Rattle.escapes.specs.Answers.{Meaning, Escape, bytes_of}
use Rattle.escapes.specs.EscapeDigits.{Digits, escape_digits}
use Rattle.escapes.specs.Escape.{letters, letter, following, code_point_of, octal_escape, hex_escape, escape_of}
use Rattle.escapes.proofs.Sizes.{encode_most, byte_most}
use Rattle.escapes.proofs.EscapeLaws.{entry_ind}

-- digits without an error are as many as asked for
digits_whole : (base : ℕ) (r : List Char) (n v : ℕ) → (escape_digits base n v r).error ≡ 0 → (escape_digits base n v r).len ≡ n
unfolding escape_digits
digits_whole base r zero v = λ h. refl
digits_whole base [] (suc n) v = λ h. absurd (omega arith)
digits_whole base (c ∷ r) (suc n) v =
    cond_ind (λ (x : Digits). x.error ≡ 0 → x.len ≡ suc n) (ltb (digit_val c.code) base) _ _
    (λ _ h. ap suc (digits_whole base r n (v * base + digit_val c.code) h)) (λ _ h. absurd (omega arith))

-- u and U are followed by four digits or more
following_code : (c : ℕ) → eqb c 120 ≡ false → eqb (following c) 0 ≡ false → 4 ≤ following c
unfolding following
following_code c e f = go (eqb c 120) (eqb c 117) (eqb c 85) e f
  where
    go : (t u x : Bool) → t ≡ false → eqb (cond t 2 (cond u 4 (cond x 8 0))) 0 ≡ false → 4 ≤ cond t 2 (cond u 4 (cond x 8 0))
    go true u x e f = absurd (true≢false e)
    go false true x e f = lit≤ tt
    go false false true e f = lit≤ tt
    go false false false e f = absurd (true≢false f)

encode_low : (c : ℕ) → c < 0x80 → length (encode c) ≤ 1
unfolding encode octets
encode_low c h = rw (lt-ltb c 0xD800 (omega arith), lt-ltb c 0x80 h) (lit≤ tt)

letter_low : (c : ℕ) → letter c < 0x80
unfolding letter
letter_low c = entry_ind (λ row. ltb row.1 0x80) (λ n. n < 0x80) c (lit< tt) (λ row low _. ltb-true row.1 0x80 (true_of _ low)) letters tt

abbrev Shorter : Escape → Type 0
Shorter x = length (bytes_of x.meaning) ≤ x.len

code_short : (n : Digits) (m : ℕ) → (n.error ≡ 0 → 4 ≤ m) → length (bytes_of (code_point_of n)) ≤ m
unfolding code_point_of
code_short n m f =
    cond_ind (λ (g : Meaning). length (bytes_of g) ≤ m) (eqb n.error 0) _ _
    (λ e. cond_ind (λ (g : Meaning). length (bytes_of g) ≤ m) (is_scalar n.value) _ _
    (λ _. omega (arith, encode_most n.value, f (eqb-true n.error 0 e))) (λ _. omega arith))
    (λ _. omega arith)

hex_shorter : (first : ℕ) (r : List Char) → Shorter (hex_escape first r)
unfolding hex_escape
hex_shorter first r =
    let n = escape_digits 16 (following first) 0 r in
    cond_ind Shorter (eqb (following first) 0) _ _ (λ _. lit≤ tt)
    (λ f. cond_ind (λ (g : Meaning). length (bytes_of g) ≤ suc n.len) (eqb first 120) _ _
    (λ _. omega (arith, byte_most n))
    (λ e. code_short n (suc n.len) (λ z. omega (arith, digits_whole 16 r (following first) 0 z, following_code first e f))))

octal_some : (c : Char) (r : List Char) → ltb (digit_val c.code) 8 ≡ true → 1 ≤ (escape_digits 8 3 0 (c ∷ r)).len
unfolding escape_digits
octal_some c r d = rw d (omega arith)

octal_shorter : (c : Char) (r : List Char) → ltb (digit_val c.code) 8 ≡ true → Shorter (octal_escape (c ∷ r))
unfolding octal_escape
octal_shorter c r d = omega (arith, byte_most (escape_digits 8 3 0 (c ∷ r)), octal_some c r d)

pub escape_shorter : (quote : ℕ) → quote < 0x80 → (r : List Char) → Shorter (escape_of quote r)
unfolding escape_of
escape_shorter quote q [] = lit≤ tt
escape_shorter quote q (c ∷ r) =
    cond_ind Shorter (eqb (letter c.code) 0) _ _
    (λ _. cond_ind Shorter (eqb c.code quote) _ _ (λ e. encode_low c.code (omega (arith, eqb-true c.code quote e)))
    (λ _. cond_ind Shorter (ltb (digit_val c.code) 8) _ _ (λ d. octal_shorter c r d) (λ _. hex_shorter c.code r)))
    (λ _. encode_low (letter c.code) (letter_low c.code))
