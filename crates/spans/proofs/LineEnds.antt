-- Whether a comment ends its line is settled within a text that ends in a line feed.
use Prim.Native.Char.{code}
use mathlib.Core.Path.{◌≡◌, refl, ap}
use mathlib.Core.Bool.{Bool, true, false, cond, ◌&&◌}
use mathlib.Core.List.{List, [], ◌∷◌, ◌++◌}
use lib.Dec.{eqb}
use borrow.Author.Tests.{eqb-false}
use Rattle.utf8.specs.declared.Char.{Char}
use Rattle.blanks.specs.Blank.{is_space}
use Rattle.spans.specs.Line.{blank_to_end, ends_line}
use Rattle.utf8.proofs.Ends.{Ends, ends_tail}

-- a search that leaves at the first line feed
feed_cond : (c : Char) (r : List Char) (t : Bool) (x y : Bool) → eqb c.code (code "\n") ≡ t → Ends (c ∷ r) → (Ends r → x ≡ y) → cond t true x ≡ cond t true y
feed_cond c r true x y e h f = refl
feed_cond c r false x y e h f = f (ends_tail c r h (eqb-false c.code (code "\n") e))

pub blank_local : (r t : List Char) → Ends r → blank_to_end (r ++ t) ≡ blank_to_end r
unfolding blank_to_end
blank_local [] t h = absurd h
blank_local (c ∷ r) t h = feed_cond c r (eqb c.code (code "\n")) _ _ refl h (λ k. ap (◌&&◌ (is_space c.code)) (blank_local r t k))

pub ends_local : (star : Bool) (r t : List Char) → Ends r → ends_line star (r ++ t) ≡ ends_line star r
unfolding ends_line
ends_local star [] t h = absurd h
ends_local star (c ∷ r) t h =
    feed_cond c r (eqb c.code (code "\n")) _ _ refl h (λ k. go (star && eqb c.code (code "/")) (blank_local r t k) (ends_local (eqb c.code (code "*")) r t k))
  where
    go : (u : Bool) {x x' y y' : Bool} → x ≡ x' → y ≡ y' → cond u x y ≡ cond u x' y'
    go true e f = e
    go false e f = f
