-- What the search for m and k means: it finds the pair of the request, and where it finds none there
-- is none.
use Rattle.std.specs.Prelude.{ℕ, ◌*◌, ◌^◌, ◌≤◌, ◌<◌, ◌≡◌, List}
use Rattle.refusal.specs.Outcome.{refused}
use Rattle.refusal.specs.Refusals.{NO_PAIR}
use Rattle.quantity.specs.Pair.{Rational, pair, pair_of}
use Rattle.quantity.specs.Text.{denoted}

-- "m and k with value m / 10^k, m below 2^64, k from 0 to 18"
pub record IsPair (v : Rational) (m k : ℕ) : Type 0 where
  pub is : m * v.under ≡ v.over * 10 ^ k
  pub fits : m < 2 ^ 64
  pub few : k ≤ 18

-- "and k the least possible"
pub record IsLeast (v : Rational) (m k : ℕ) : Type 0 where
  pub is_pair : IsPair v m k
  pub least : (n j : ℕ) → IsPair v n j → k ≤ j

pub record Finds (v : Rational) : Type 0 where
  -- m and k are found exactly where they are the least pair
  pub found_least : (m k : ℕ) → pair_of v ≡ pair m k → IsLeast v m k
  pub least_found : (m k : ℕ) → IsLeast v m k → pair_of v ≡ pair m k
  -- "no such pair exists, and never otherwise"
  pub none_found : ((m k : ℕ) → IsPair v m k → ⊥) → pair_of v ≡ refused NO_PAIR
  pub found_none : pair_of v ≡ refused NO_PAIR → (m k : ℕ) → IsPair v m k → ⊥

-- of every text; what it denotes is over a number that is not 0
pub record PairLaw : Type 0 where
  pub some_under : (t : List ℕ) → 0 < (denoted t).under
  pub finds : (t : List ℕ) → Finds (denoted t)
