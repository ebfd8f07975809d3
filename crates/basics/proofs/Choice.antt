-- Laws of a choice by a test, of two tests at once, and of a number between two others.
use Prim.Native.Nat.{ℕ, ◌≤◌, ◌<◌}
use mathlib.Core.Path.{◌≡◌, refl, subst, sym}
use mathlib.Core.Bool.{Bool, true, false, cond, ◌&&◌, ◌||◌, beq, true≢false, false≢true}
use mathlib.Core.Logic.{◌⊎◌, inl, inr}
use lib.Dec.{T, leb, leb→le}
use borrow.Author.Tests.{le-leb, lt-leb}
use Rattle.basics.specs.Between.{between}

-- what holds of both choices holds of the choice
pub cond_ind : {A : Type 0} (P : A → Type 0) (t : Bool) (x y : A) → (t ≡ true → P x) → (t ≡ false → P y) → P (cond t x y)
cond_ind P true x y f g = f refl
cond_ind P false x y f g = g refl

-- two tests agree
pub same_test : (a b : Bool) → T (beq a b) → a ≡ b
same_test true true t = refl
same_test true false t = absurd t
same_test false true t = absurd t
same_test false false t = refl

-- a test holds or fails
pub either : (t : Bool) → (t ≡ true) ⊎ (t ≡ false)
either true = inl refl
either false = inr refl

-- a test that computes holds
pub true_of : (b : Bool) → T b → b ≡ true
true_of true t = refl
true_of false t = absurd t

pub and_left : (a b : Bool) → T (a && b) → T a
and_left true b t = tt
and_left false b t = t

pub and_right : (a b : Bool) → T (a && b) → T b
and_right true b t = t
and_right false b t = absurd t

pub and_split : (a b : Bool) → a && b ≡ true → (a ≡ true) × (b ≡ true)
and_split true b e = (refl, e)
and_split false b e = absurd (false≢true e)

-- neither of two tests holds
pub none_of : (a b : Bool) → a || b ≡ false → (a ≡ false) × (b ≡ false)
none_of true b e = absurd (true≢false e)
none_of false b e = (refl, e)

pub between_true : (lo n hi : ℕ) → between lo n hi ≡ true → (lo ≤ n) × (n ≤ hi)
between_true lo n hi e =
    let t : T (between lo n hi) = subst T (sym e) tt in
    (leb→le lo n (and_left (leb lo n) (leb n hi) t), leb→le n hi (and_right (leb lo n) (leb n hi) t))

pub in_between : (lo n hi : ℕ) → lo ≤ n → n ≤ hi → between lo n hi ≡ true
in_between lo n hi l h = simp (le-leb lo n l, le-leb n hi h)

pub below_it : (lo n hi : ℕ) → n < lo → between lo n hi ≡ false
below_it lo n hi l = simp (lt-leb lo n l)

pub above_it : (lo n hi : ℕ) → lo ≤ n → hi < n → between lo n hi ≡ false
above_it lo n hi l h = simp (le-leb lo n l, lt-leb n hi h)
