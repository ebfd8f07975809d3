-- Laws of the first so many values of a function, as a list.
use Prim.Native.Nat.{ℕ, zero, suc, ◌+◌, ◌<◌}
use mathlib.Core.Path.{◌≡◌, refl, sym, ap, ◌∙◌}
use mathlib.Core.Bool.{Bool, true, false}
use mathlib.Core.List.{List, [], ◌∷◌, ◌++◌, map, append_assoc, append-nil, map-append}
use mathlib.Core.Logic.{◌≢◌}
use mathlib.Core.Option.{some, none-ne-some, some-injective}
use native.Mathlib.Nat.{add-zero, add-suc}
use native.Mathlib.Omega.{arith}
use lib.Dec.{eqb}
use lib.ListN.{length, get_elem?, length-append}
use borrow.Author.Tests.{eqb-true, eqb-false}
use Rattle.runs.proofs.Seen.{firsts}

module _ {A : Type 0} where
  -- ---- a place of a list
  place_inside : (l : List A) (i : ℕ) (x : A) → get_elem? l i ≡ some x → i < length l
  place_inside [] i x e = absurd (none-ne-some x e)
  place_inside (a ∷ l) zero x e = omega arith
  place_inside (a ∷ l) (suc i) x e = omega (arith, place_inside l i x e)

  at_left : (l m : List A) (i : ℕ) → i < length l → get_elem? (l ++ m) i ≡ get_elem? l i
  at_left [] m i h = absurd (omega arith)
  at_left (a ∷ l) m zero h = refl
  at_left (a ∷ l) m (suc i) h = at_left l m i (omega arith)

  at_last : (l : List A) (x : A) → get_elem? (l ++ (x ∷ [])) (length l) ≡ some x
  at_last [] x = refl
  at_last (a ∷ l) x = at_last l x

  -- a list is taken apart at its last element
  pub last_apart : (l m : List A) (x y : A) → length l ≡ length m → l ++ (x ∷ []) ≡ m ++ (y ∷ []) → (l ≡ m) × (x ≡ y)
  last_apart [] [] x y h e = (refl, cc)
  last_apart [] (b ∷ m) x y h e = absurd (omega arith)
  last_apart (a ∷ l) [] x y h e = absurd (omega arith)
  last_apart (a ∷ l) (b ∷ m) x y h e =
      let f : a ≡ b = cc in
      let g : l ++ (x ∷ []) ≡ m ++ (y ∷ []) = cc in
      let q = last_apart l m x y (omega arith) g in
      (cc q.0, q.1)

  -- ---- the first values
  module _ (f : ℕ → A) where
    pub length_firsts : (k : ℕ) → length (firsts f k) ≡ k
    unfolding firsts
    length_firsts zero = refl
    length_firsts (suc k) = length-append (firsts f k) (f k ∷ []) ∙ omega (arith, length_firsts k)

    pub firsts_at : (k i : ℕ) → i < k → get_elem? (firsts f k) i ≡ some (f i)
    unfolding firsts
    firsts_at zero i h = absurd (omega arith)
    firsts_at (suc k) i h = go (eqb i k) refl (firsts_at k i)
      where
        go : (t : Bool) → eqb i k ≡ t → (i < k → get_elem? (firsts f k) i ≡ some (f i)) → get_elem? (firsts f k ++ (f k ∷ [])) i ≡ some (f i)
        go true e g =
            let q : i ≡ k = eqb-true i k e in
            rw q (ap (get_elem? (firsts f k ++ (f k ∷ []))) (sym (length_firsts k)) ∙ at_last (firsts f k) (f k))
        go false e g =
            let n : i ≢ k = eqb-false i k e in
            let l : i < k = omega arith in
            at_left (firsts f k) (f k ∷ []) i (omega (arith, length_firsts k)) ∙ g l

  pub firsts_alike : (f g : ℕ → A) (k : ℕ) → ((i : ℕ) → i < k → f i ≡ g i) → firsts f k ≡ firsts g k
  unfolding firsts
  firsts_alike f g zero h = refl
  firsts_alike f g (suc k) h = rw (firsts_alike f g k (λ i l. h i (omega arith)), h k (omega arith))

  pub firsts_add : (f : ℕ → A) (a j : ℕ) → firsts f (a + j) ≡ firsts f a ++ firsts (λ i. f (a + i)) j
  unfolding firsts
  firsts_add f a zero = rw add-zero (sym (append-nil (firsts f a)))
  firsts_add f a (suc j) = rw (add-suc, firsts_add f a j) (append_assoc (firsts f a) _ _)

  -- what stands at a place of them
  pub firsts_gives : (f : ℕ → A) (k i : ℕ) (x : A) → get_elem? (firsts f k) i ≡ some x → x ≡ f i
  firsts_gives f k i x e =
      some-injective x (f i) (sym e ∙ firsts_at f k i (omega (arith, place_inside (firsts f k) i x e, length_firsts f k)))

pub map_firsts : {A B : Type 0} (g : A → B) (f : ℕ → A) (k : ℕ) → map g (firsts f k) ≡ firsts (λ i. g (f i)) k
unfolding firsts
map_firsts g f zero = refl
map_firsts g f (suc k) = map-append g (firsts f k) (f k ∷ []) ∙ ap (λ l. l ++ (g (f k) ∷ [])) (map_firsts g f k)
