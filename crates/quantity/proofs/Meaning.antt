-- What the search for the least pair means: the pair is one, it is the least, and where there is no
-- answer there is no pair.
use Prim.Native.Char.{code}
use Prim.Native.Nat.{ℕ, zero, suc, ◌+◌, ◌*◌, ◌-◌, ◌/◌, ◌%◌, ◌^◌, ◌≤◌, ◌<◌}
use mathlib.Core.Path.{◌≡◌, sym, ap, subst, ◌∙◌}
use mathlib.Core.Bool.{Bool, true, false, cond, false≢true}
use mathlib.Core.List.{List}
use mathlib.Core.Logic.{◌⊎◌, inl, inr, ⊎_elim}
use native.Mathlib.Omega.{arith}
use native.Mathlib.Decide.{dec_lt}
use native.Mathlib.Nat.{sub_self, mul-one, eq-or-lt_of_le, mul-div_cancel}
use lib.Dec.{ltb, eqb, lit<}
use borrow.Author.Tests.{lt-ltb, ltb-true, eqb-true}
use native.Mathlib.Nat.{div-add-mod'}
use Rattle.basics.proofs.Choice.{either, and_split}
use Rattle.refusal.specs.Outcome.{Outcome, refused}
use Rattle.refusal.specs.Refusals.{NO_PAIR}
use Rattle.quantity.specs.declared.Quantity.{Quantity}
use Rattle.quantity.specs.Pair.{Rational, pair, fits_at, pair_of}
use Rattle.quantity.specs.Text.{digits_of, digit_count, up_to, from, is_negative, scaled_by, decimal_in, whole_in, base_of, denoted}
use Rattle.quantity.specs.Meaning.{IsPair, IsLeast, Finds, PairLaw}
use Rattle.quantity.proofs.Search.{ten_pos, none_from, found_from, fits_at_lem}

module _ (v : Rational) (some : 0 < v.under) where
  -- a test that holds gives a pair, and a pair makes the test hold
  pair_at : (k : ℕ) → k ≤ 18 → fits_at v k ≡ true → IsPair v (v.over * 10 ^ k / v.under) k
  pair_at k l t =
      let q = and_split (eqb (v.over * 10 ^ k % v.under) 0) (ltb (v.over * 10 ^ k / v.under) (2 ^ 64)) t in
      let z = eqb-true (v.over * 10 ^ k % v.under) 0 q.0 in
      let e = div-add-mod' (v.over * 10 ^ k) v.under in
      record { is = omega (arith, z, e); fits = ltb-true (v.over * 10 ^ k / v.under) (2 ^ 64) q.1; few = l }

  at_pair : (m k : ℕ) → IsPair v m k → fits_at v k ≡ true
  at_pair m k p =
      let e : m * 10 ^ (k - k) ≡ m = ap (λ x. m * 10 ^ x) (sub_self k) ∙ mul-one m in
      fits_at_lem v some m k (sym p.is) k (omega arith) ∙ lt-ltb (m * 10 ^ (k - k)) (2 ^ 64) (rw e p.fits)

  -- the first of the places, or none of them
  pub record First (n k : ℕ) : Type 0 where
    pub place : ℕ
    pub from : k ≤ place
    pub below : place < k + n
    pub before : (i : ℕ) → k ≤ i → i < place → fits_at v i ≡ false
    pub here : fits_at v place ≡ true

  none_or_first : (n k : ℕ) → ((i : ℕ) → k ≤ i → i < k + n → fits_at v i ≡ false) ⊎ First n k
  none_or_first zero k = inl (λ i l h. absurd (omega arith))
  none_or_first (suc n) k =
      ⊎_elim (λ (t : fits_at v k ≡ true). inr (record { place = k; from = omega arith; below = omega arith; before = λ i l h. absurd (omega arith); here = t }))
      (λ (f : fits_at v k ≡ false). ⊎_elim (λ all. inl (λ i l h. next f i l (λ m. all i m (omega arith))))
      (λ (x : First n (suc k)). inr (record {
        place = x.place;
        from = omega (arith, x.from);
        below = omega (arith, x.below);
        before = λ i l h. next f i l (λ m. x.before i m h);
        here = x.here;
      })) (none_or_first n (suc k)))
      (either (fits_at v k))
    where
      next : fits_at v k ≡ false → (i : ℕ) → k ≤ i → (suc k ≤ i → fits_at v i ≡ false) → fits_at v i ≡ false
      next f i l g = ⊎_elim (λ (e : k ≡ i). ap (fits_at v) (sym e) ∙ f) (λ h. g h) (eq-or-lt_of_le l)

  clash : (m k n : ℕ) → ◌≡◌ {A = Outcome Quantity} (pair m k) (refused n) → ⊥
  clash m k n e = let z : ◌≡◌ {A = ℕ} 0 1 = cc in omega arith

  first_pair : (x : First 19 0) → pair_of v ≡ pair (v.over * 10 ^ x.place / v.under) x.place
  first_pair x = found_from v 19 0 x.place x.from x.below x.before x.here

  first_least : (x : First 19 0) → IsLeast v (v.over * 10 ^ x.place / v.under) x.place
  first_least x =
      record {
        is_pair = pair_at x.place (omega (arith, x.below)) x.here;
        least = λ n j q. elim (dec_lt j x.place) [ yes h ↦ absurd (false≢true (sym (x.before j (omega arith) h) ∙ at_pair n j q)) | no h ↦ omega arith ];
      }

  -- the m and the k of two answers that are the same
  same_pair : (m k n j : ℕ) → pair m k ≡ pair n j → (m ≡ n) × (k ≡ j)
  same_pair m k n j e = let q : ◌≡◌ {A = Quantity} (record { m = m; k = k }) (record { m = n; k = j }) = cc in (ap (λ x. x.m) q, ap (λ x. x.k) q)

  -- the answer is the least pair, and the least pair is the answer
  pair_least : (m k : ℕ) → pair_of v ≡ pair m k → IsLeast v m k
  pair_least m k e =
      ⊎_elim (λ (all : (i : ℕ) → 0 ≤ i → i < 0 + 19 → fits_at v i ≡ false). absurd (clash m k NO_PAIR (sym e ∙ none_from v 19 0 all)))
      (λ (x : First 19 0).
      let s = same_pair _ _ m k (sym (first_pair x) ∙ e) in
      subst (λ i. IsLeast v m i) s.1 (subst (λ i. IsLeast v i x.place) s.0 (first_least x)))
      (none_or_first 19 0)

  least_pair : (m k : ℕ) → IsLeast v m k → pair_of v ≡ pair m k
  least_pair m k l =
      ⊎_elim (λ (all : (i : ℕ) → 0 ≤ i → i < 0 + 19 → fits_at v i ≡ false). absurd (false≢true (sym (all k (omega arith) (omega (arith, l.is_pair.few))) ∙ at_pair m k l.is_pair)))
      (λ (x : First 19 0).
      let y = first_least x in
      let e : x.place ≡ k = omega (arith, y.least m k l.is_pair, l.least _ _ y.is_pair) in
      first_pair x ∙ ap (λ i. pair (v.over * 10 ^ i / v.under) i) e ∙ ap (λ i. pair i k) (ap (λ i. i / v.under) (sym l.is_pair.is) ∙ mul-div_cancel m some))
      (none_or_first 19 0)

  -- there is no answer where there is no pair, and nowhere else
  none_pair : ((m k : ℕ) → IsPair v m k → ⊥) → pair_of v ≡ refused NO_PAIR
  none_pair none = ⊎_elim (λ all. none_from v 19 0 all) (λ (x : First 19 0). absurd (none _ _ (first_least x).is_pair)) (none_or_first 19 0)

  pair_none : pair_of v ≡ refused NO_PAIR → (m k : ℕ) → IsPair v m k → ⊥
  pair_none e m k p =
      ⊎_elim (λ (all : (i : ℕ) → 0 ≤ i → i < 0 + 19 → fits_at v i ≡ false). false≢true (sym (all k (omega arith) (omega (arith, p.few))) ∙ at_pair m k p))
      (λ (x : First 19 0). clash _ _ NO_PAIR (sym (first_pair x) ∙ e)) (none_or_first 19 0)

  finds : Finds v
  finds = record { found_least = pair_least; least_found = least_pair; none_found = none_pair; found_none = pair_none }

-- what a text denotes is over something
some_under : (t : List ℕ) → 0 < (denoted t).under
unfolding decimal_in denoted
some_under t = go (eqb (base_of t) 10) (is_negative (from (code "e") t))
  where
    figures : ℕ
    figures = digits_of 10 (up_to (code "e") t)

    places : ℕ
    places = digit_count (from (code ".") (up_to (code "e") t))

    exponent : ℕ
    exponent = digits_of 10 (from (code "e") t)

    go : (a b : Bool) → 0 < (cond a (scaled_by figures places b exponent) (whole_in (base_of t) t)).under
    go true true = ten_pos (places + exponent)
    go true false = ten_pos places
    go false b = lit< tt

pub pair_law : PairLaw
pair_law = record { some_under = some_under; finds = λ t. finds (denoted t) (some_under t) }
