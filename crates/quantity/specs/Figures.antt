-- Steps of the code. No public contract cites this file.
use Rattle.std.specs.Prelude.{ℕ, ◌*◌, ◌^◌, ◌%◌, ◌≤◌, ◌<◌, ◌≡◌, ◌⊎◌, ◌≢◌, Option, Some, None}
use Rattle.refusal.specs.Outcome.{Outcome, refused, gave}
use Rattle.refusal.specs.Refusals.{NO_PAIR}
use Rattle.quantity.specs.declared.figures.Figures.{Figures}
use Rattle.quantity.specs.declared.Quantity.{Quantity}
use Rattle.quantity.specs.Pair.{Rational}

-- what is found: a pair, or that there is none
abbrev pub found : Option Quantity → Outcome Quantity
found (Some q) = gave q
found None = refused NO_PAIR

-- m does not end in a zero, unless it is 0
abbrev pub Bare : ℕ → ℕ → Type 0
Bare base m = (m ≡ 0) ⊎ (m % base ≢ 0)

-- n is m, which does not end in a zero, with z zeros after it, and m is too large
pub record TooLong (base n : ℕ) : Type 0 where
  pub m : ℕ
  pub z : ℕ
  pub is : n ≡ m * base ^ z
  pub bare : m % base ≢ 0
  pub long : 2 ^ 64 ≤ m

-- n without the zeros that end it: m, and how many zeros, at most as many as bytes were read; or m is too large
abbrev pub Stripped : ℕ → ℕ → ℕ → Option Figures → Type 0
Stripped base n most (Some f) = (n ≡ f.m * base ^ f.zeros) × Bare base f.m × (f.zeros ≤ most)
Stripped base n most None = TooLong base n

-- the number is m * 10^rise / 10^fall
pub record Denotes (v : Rational) (m rise fall : ℕ) : Type 0 where
  pub some : 0 < v.under
  pub is : v.over * 10 ^ fall ≡ m * 10 ^ rise * v.under

-- one of the two is no more than a text can have of digits
abbrev pub Near : ℕ → ℕ → Type 0
Near rise fall = (rise < 2 ^ 63) ⊎ (fall < 2 ^ 63)
