-- Laws of writing to an area.
use Prim.Native.Nat.{ℕ, suc, ◌≤◌}
use mathlib.Core.Path.{◌≡◌, refl, sym, ap, ◌∙◌}
use mathlib.Core.List.{List, [], ◌∷◌, ◌++◌, append-nil}
use native.Mathlib.Omega.{arith}
use lib.ListN.{length}
use lib.Seq.{sets, set_out}
use Rattle.writing.specs.Writes.{Writes}

-- past the end nothing is written
sets_out : (area : List ℕ) (to : ℕ) (bytes : List ℕ) → length area ≤ to → sets area to bytes ≡ area
sets_out area to [] h = refl
sets_out area to (b ∷ bytes) h = rw (set_out area to b h) (sets_out area (suc to) bytes (omega arith))

pub no_byte : (area : List ℕ) (to b : ℕ) → length area ≤ to → Writes area to (b ∷ []) area to
no_byte area to b h rest = sets_out area to (b ∷ rest) h ∙ sym (sets_out area to rest h)

-- the same bytes in other words
pub writes_as : (area : List ℕ) (to : ℕ) {x y : List ℕ} (after : List ℕ) (next : ℕ) → x ≡ y → Writes area to y after next → Writes area to x after next
writes_as area to after next e w rest = ap (λ z. sets area to (z ++ rest)) e ∙ w rest

-- nothing more is written after them
pub writes_end : (area : List ℕ) (to : ℕ) {x y : List ℕ} (after : List ℕ) (next : ℕ) → x ≡ y → Writes area to x after next → after ≡ sets area to y
writes_end area to {x} after next e w = sym (w []) ∙ ap (sets area to) (append-nil x ∙ e)

-- one byte more is written after them
pub writes_last : (area : List ℕ) (to : ℕ) {x y : List ℕ} (mid : List ℕ) (n b : ℕ) (after : List ℕ) (next : ℕ) → x ≡ y → Writes area to x mid n
    → Writes mid n (b ∷ []) after next → after ≡ sets area to (y ++ (b ∷ []))
writes_last area to mid n b after next e v w = sym (ap (λ z. sets area to (z ++ (b ∷ []))) (sym e) ∙ v (b ∷ []) ∙ w [])

-- ---- a loop that has `left` to write from the present place on, which makes the area `whole`
module _ (area : List ℕ) (n : ℕ) {whole left : List ℕ} (to-do : whole ≡ sets area n left) where
  -- what is left in other words
  pub left_as : {rest : List ℕ} → left ≡ rest → whole ≡ sets area n rest
  left_as e = to-do ∙ ap (sets area n) e

  -- at the end nothing is left
  pub finished : left ≡ [] → area ≡ whole
  finished e = sym (left_as e)

-- the same, where a rest is to be written after, whatever it is
pub left_as_with_rest : (area : List ℕ) (n : ℕ) {whole : List ℕ → List ℕ} {left bytes : List ℕ} → left ≡ bytes → ((rest : List ℕ) → whole rest ≡ sets area n (left ++ rest))
    → (rest : List ℕ) → whole rest ≡ sets area n (bytes ++ rest)
left_as_with_rest area n e to-do rest = to-do rest ∙ ap (λ z. sets area n (z ++ rest)) e
