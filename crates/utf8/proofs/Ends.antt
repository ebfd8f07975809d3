-- Laws of characters that end in a line feed, with more after them.
use Prim.Native.Nat.{ℕ, zero, suc, ◌<◌}
use mathlib.Core.Path.{◌≡◌, refl}
use mathlib.Core.Bool.{true}
use mathlib.Core.List.{List, [], ◌∷◌, ◌++◌}
use mathlib.Core.Logic.{◌⊎◌, inl, inr}
use native.Mathlib.Omega.{arith}
use native.Mathlib.Nat.{not-suc-le-zero}
use lib.Dec.{eqb}
use lib.ListN.{length, take, drop}
use borrow.Author.Tests.{eqb-true}
use Rattle.utf8.specs.declared.Char.{Char}
use Rattle.utf8.specs.Chars.{peek}

-- the last of them is a line feed
abbrev pub Ends : List Char → Type 0
Ends [] = ⊥
Ends (c ∷ []) = c.code ≡ 10
Ends (c ∷ d ∷ r) = Ends (d ∷ r)

pub ends_tail : (c : Char) (r : List Char) → Ends (c ∷ r) → (c.code ≡ 10 → ⊥) → Ends r
ends_tail c [] h n = absurd (n h)
ends_tail c (d ∷ r) h n = h

pub ends_more : (c : Char) (r : List Char) → Ends (c ∷ r) → 0 < length r → Ends r
ends_more c [] h l = absurd (not-suc-le-zero l)
ends_more c (d ∷ r) h l = h

-- the next character is that line feed, or it is still to come
pub ends_next : (c : Char) (r : List Char) → Ends (c ∷ r) → (c.code ≡ 10) ⊎ Ends r
ends_next c [] h = inl h
ends_next c (d ∷ r) h = inr h

pub ends_some : (r : List Char) → Ends r → 0 < length r
ends_some [] h = absurd h
ends_some (c ∷ r) h = omega arith

-- what is left of them, if anything is
pub ends_drop : (n : ℕ) (r : List Char) → n < length r → Ends r → Ends (drop n r)
ends_drop zero r l h = h
ends_drop (suc n) [] l h = absurd h
ends_drop (suc n) (c ∷ r) l h = ends_drop n r (omega arith) (ends_more c r h (omega arith))

-- the next character, with more after it
pub peek_append : (n : ℕ) (r t : List Char) → n < length r → peek (drop n (r ++ t)) ≡ peek (drop n r)
peek_append n [] t l = absurd (not-suc-le-zero l)
peek_append zero (c ∷ r) t l = refl
peek_append (suc n) (c ∷ r) t l = peek_append n r t (omega arith)

-- and with what is behind it cut off
pub peek_take : (n : ℕ) (r : List Char) → 0 < n → peek (take n r) ≡ peek r
peek_take zero r h = absurd (not-suc-le-zero h)
peek_take (suc n) [] h = refl
peek_take (suc n) (c ∷ r) h = refl

-- a character that is no line feed is not the last one
pub more_behind : (r : List Char) (x : ℕ) → Ends r → eqb (peek r) x ≡ true → (x ≡ 10 → ⊥) → 1 < length r
more_behind [] x h e n = absurd h
more_behind (c ∷ []) x h e n = absurd (n (omega (arith, eqb-true c.code x e)))
more_behind (c ∷ d ∷ r) x h e n = omega arith
