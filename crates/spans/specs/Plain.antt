-- Steps of the code. No public contract cites this file.
-- Plain bytes, which a body is read over at once.
use Rattle.std.specs.Prelude.{ℕ, ◌+◌, ◌≤◌, ◌≡◌, Bool, false, not, ◌&&◌, ◌||◌, List, [], ◌∷◌, ltb, leb, eqb, length, take, drop}
use Prim.Native.Char.{code}

-- is a byte to be looked at by itself: up to a CR, as an LF is; none of ASCII; or one at which the
-- body may close
abbrev pub special : ℕ → ℕ → Bool
special stop b = (leb b (code "\r") || ltb 127 b) || eqb b stop

abbrev pub any_special : ℕ → List ℕ → Bool
any_special stop [] = false
any_special stop (b ∷ s) = special stop b || any_special stop s

-- are there 16 plain bytes at a place
unfoldable pub plain_block : ℕ → List ℕ → ℕ → Bool
plain_block stop s at = leb (at + 16) (length s) && not (any_special stop (take 16 (drop at s)))

-- there are n plain bytes at a place
pub record PlainRun (stop : ℕ) (s : List ℕ) (at n : ℕ) : Type 0 where
  pub fits : at + n ≤ length s
  pub plain : any_special stop (take n (drop at s)) ≡ false
