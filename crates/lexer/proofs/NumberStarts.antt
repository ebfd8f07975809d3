-- How many characters a number reads at least: one, and two where it starts with a point.
use Prim.Native.Nat.{◌-◌, ◌<◌}
use mathlib.Core.Path.{◌≡◌}
use mathlib.Core.Bool.{Bool, true, false, ◌||◌}
use mathlib.Core.List.{List, [], ◌∷◌}
use native.Mathlib.Omega.{arith}
use lib.Dec.{eqb}
use lib.ListN.{drop}
use borrow.Author.Tests.{ne_eqb, lt-ltb}
use Rattle.basics.proofs.Choice.{cond_ind, and_split, between_true, in_between}
use Rattle.utf8.specs.declared.Char.{Char}
use Rattle.utf8.specs.Chars.{peek}
use Rattle.kinds.specs.Kinds.{ILLEGAL}
use Rattle.digits.specs.Digit.{digit_val, is_decimal}
use Rattle.numbers.specs.Run.{digit_run, strict_run}
use Rattle.numbers.specs.Number.{Numeral, fraction, without_i, number}
use Rattle.numbers.proofs.Tested.{number_some}
use Rattle.lexer.specs.Making.{is_number}

pub some_read : (r : List Char) → is_number r ≡ true → 0 < (number r).len
some_read r t = number_some r (λ e. digit (is_decimal (peek r)) (rw e at t))
  where
    digit : (b : Bool) → b || false ≡ true → b ≡ true
    digit true e = e
    digit false e = e

-- ---- a point before a digit
strict_some : (r : List Char) → is_decimal (peek r) ≡ true → 0 < (strict_run 10 r).len
unfolding strict_run digit_run digit_val
strict_some [] e = absurd (omega (arith, (between_true 48 0 57 e).0))
strict_some (c ∷ r) e =
    let z = between_true 48 c.code 57 e in
    rw (ne_eqb c.code 95 (λ y. omega arith), in_between 48 c.code 57 z.0 z.1, lt-ltb (c.code - 48) 10 (omega arith)) (omega arith)

fraction_some : (r : List Char) → is_decimal (peek r) ≡ true → 0 < (fraction r).len
unfolding fraction
fraction_some r e =
    let some = strict_some r e in
    cond_ind (λ (x : Numeral). 0 < x.len) (strict_run 10 r).misplaced _ _ (λ _. some) (λ _. omega (arith, some))

pub two_read : (r : List Char) → is_number r ≡ true → is_decimal (peek r) ≡ false → 1 < (number r).len
unfolding number
two_read r t d =
    let x = without_i r in
    let two = point (and_split (eqb (peek r) 46) (is_decimal (peek (drop 1 r))) (rw d at t)) in
    cond_ind (λ (y : Numeral). 1 < y.len) (eqb x.kind ILLEGAL) _ _ (λ _. two)
    (λ _. cond_ind (λ (y : Numeral). 1 < y.len) (eqb (peek (drop x.len r)) 105) _ _ (λ _. omega (arith, two)) (λ _. two))
  where
    point : (eqb (peek r) 46 ≡ true) × (is_decimal (peek (drop 1 r)) ≡ true) → 1 < (without_i r).len
    point q = unfold without_i in rw q.0 (omega (arith, fraction_some (drop 1 r) q.1))
