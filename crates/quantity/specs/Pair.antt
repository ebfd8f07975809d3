-- A number as m and k: "m and k with value m / 10^k, m below 2^64, k from 0 to 18, and k the least
-- possible".
use Rattle.std.specs.Prelude.{ℕ, zero, suc, ◌*◌, ◌/◌, ◌%◌, ◌^◌, Bool, cond, ◌&&◌, ltb, eqb}
use Rattle.refusal.specs.Outcome.{Outcome, refused, gave}
use Rattle.refusal.specs.Refusals.{NO_PAIR}
use Rattle.quantity.specs.declared.Quantity.{Quantity}

-- the rational number over / under
pub record Rational : Type 0 where
  pub over : ℕ
  pub under : ℕ

-- is the number times 10^k whole, and below 2^64?
abbrev pub fits_at : Rational → ℕ → Bool
fits_at v k = eqb (v.over * 10 ^ k % v.under) 0 && ltb (v.over * 10 ^ k / v.under) (2 ^ 64)

abbrev pub pair : ℕ → ℕ → Outcome Quantity
pair m k = gave (record { m = m; k = k })

-- of the n numbers from k on, the first at which it fits, with its m
unfoldable pub first_pair : Rational → ℕ → ℕ → Outcome Quantity
first_pair v zero k = refused NO_PAIR
first_pair v (suc n) k = cond (fits_at v k) (pair (v.over * 10 ^ k / v.under) k) (first_pair v n (suc k))

-- of the 19 numbers from 0 to 18
abbrev pub pair_of : Rational → Outcome Quantity
pair_of v = first_pair v 19 0
