-- In a text that ends in an LF an escape is the same with more text after it.
use Prim.Native.Nat.{ℕ, zero, suc, ◌+◌, ◌*◌, ◌≤◌}
use mathlib.Core.Path.{◌≡◌, refl}
use mathlib.Core.List.{List, [], ◌∷◌, ◌++◌}
use mathlib.Core.Logic.{⊎_elim}
use native.Mathlib.Omega.{arith}
use borrow.Author.Tests.{le-ltb}
use Rattle.utf8.specs.declared.Char.{Char}
use Rattle.utf8.proofs.Ends.{Ends, ends_next}
use Rattle.digits.specs.Digit.{digit_val}
use Rattle.escapes.specs.EscapeDigits.{escape_digits}
use Rattle.escapes.specs.Escape.{letter, following, octal_escape, hex_escape, escape_of}

digits_local : (base : ℕ) → base ≤ 16 → (r t : List Char) → Ends r → (n v : ℕ) → escape_digits base n v (r ++ t) ≡ escape_digits base n v r
unfolding escape_digits digit_val
digits_local base l [] t h n v = absurd h
digits_local base l (c ∷ r) t h zero v = refl
digits_local base l (c ∷ r) t h (suc n) v =
    ⊎_elim (λ (is : c.code ≡ 10). rw (is, le-ltb 16 base l)) (λ (k : Ends r). rw (digits_local base l r t k n (v * base + digit_val c.code))) (ends_next c r h)

pub escape_local : (quote : ℕ) (r t : List Char) → Ends r → escape_of quote (r ++ t) ≡ escape_of quote r
unfolding escape_of octal_escape hex_escape letter following digit_val
escape_local quote [] t h = absurd h
escape_local quote (c ∷ r) t h =
    ⊎_elim (λ (is : c.code ≡ 10). rw is)
    (λ (k : Ends r). rw (digits_local 8 (omega arith) (c ∷ r) t h 3 0, digits_local 16 (omega arith) r t k (following c.code) 0)) (ends_next c r h)
