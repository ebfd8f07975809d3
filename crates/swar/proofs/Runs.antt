-- Runs of bytes that pass a test, eight bytes at a time.
use Prim.Native.Nat.{ℕ, zero, suc, ◌+◌, ◌*◌, ◌^◌, ◌≤◌, ◌<◌, min}
use mathlib.Core.Path.{◌≡◌, refl, sym, ap, ◌∙◌}
use mathlib.Core.Bool.{Bool, true, false, cond}
use mathlib.Core.List.{List}
use mathlib.Core.Logic.{inl, inr}
use native.Mathlib.Nat.{add-zero, zero-min}
use native.Mathlib.Omega.{arith}
use lib.Bits.{bit_xor, xor_self}
use lib.Dec.{eqb}
use borrow.Author.Tests.{eqb-true, eq-eqb, ne_eqb}
use lib.ListN.{take, drop, get_or}
use Rattle.basics.proofs.Choice.{cond_ind, either}
use Rattle.swar.specs.Number.{number_of}
use Rattle.swar.specs.Lanes.{lanes}
use Rattle.swar.specs.Marks.{before_mark, run_of}
use Rattle.swar.proofs.Numbers.{Bytes}
use Rattle.swar.proofs.Trailing.{before_run}
use Rattle.swar.proofs.Marks.{differ, differ_small, differ_each, xor_zero}

-- of len: how long the run is that begins at a place
module _ (len : ℕ → ℕ) where
  -- k bytes on in a run
  pub run_skip : ((p : ℕ) → 0 < len p → len p ≡ suc (len (suc p))) → (k p : ℕ) → k ≤ len p → len p ≡ k + len (p + k)
  run_skip next zero p h = rw (add-zero p) (omega arith)
  run_skip next (suc k) p h =
      let one = next p (omega arith) in
      let place : suc p + k ≡ p + suc k = omega arith in
      omega (arith, one, rw place at (run_skip next k (suc p) (omega (arith, one))))

  -- where the bytes that fail the test are marked, the bytes before the first mark tell the run's length, as far as n bytes go
  module _ (t : ℕ → Bool) (s : List ℕ) (end : ℕ) where
    pub run_marked : ((p : ℕ) → p < end → t (get_or s p 0) ≡ true → len p ≡ suc (len (suc p)))
        → ((p : ℕ) → p < end → t (get_or s p 0) ≡ false → len p ≡ 0) → Bytes s → (n p : ℕ) → p + n ≤ end
        → before_mark n (lanes n (λ b. cond (t b) 0 0x80) (number_of (take n (drop p s)))) ≡ min n (len p)
    run_marked next stop bytes =
        before_run (λ b. cond (t b) 0 0x80) (λ b l. cond_ind (λ n. n < 256) (t b) 0 0x80 (λ _. omega arith) (λ _. omega arith)) s bytes
        (λ n p k. p + n ≤ end → k ≡ min n (len p)) (λ p fit. sym (zero-min _))
        (λ n p z fit. omega (arith, stop p (omega arith) (marked (t (get_or s p 0)) z)))
        (λ n p k z e fit. omega (arith, next p (omega arith) (unmarked (t (get_or s p 0)) z), e (omega arith)))
      where
        marked : (v : Bool) → 0 < cond v 0 0x80 → v ≡ false
        marked true l = absurd (omega arith)
        marked false l = refl

        unmarked : (v : Bool) → ◌≡◌ {A = ℕ} (cond v 0 0x80) 0 → v ≡ true
        unmarked true e = refl
        unmarked false e = absurd (omega arith)

-- the run of bytes x at a place, as far as n bytes go
module _ (x : ℕ) (s : List ℕ) where
  pub run_few : (n at : ℕ) → run_of x n s at ≤ n
  unfolding run_of
  run_few zero at = omega arith
  run_few (suc n) at = cond_ind (λ k. k ≤ suc n) (eqb (get_or s at 0) x) (suc (run_of x n s (suc at))) 0 (λ _. omega (arith, run_few n (suc at))) (λ _. omega arith)

  pub run_each : (n at i : ℕ) → i < run_of x n s at → get_or s (at + i) 0 ≡ x
  unfolding run_of
  run_each zero at i l = absurd (omega arith)
  run_each (suc n) at zero l =
      elim (either (eqb (get_or s at 0) x)) [
        | inl e ↦ rw (add-zero at) (eqb-true _ _ e)
        | inr e ↦ absurd (let z = rw e at l in omega (arith, z))
      ]
  run_each (suc n) at (suc i) l =
      elim (either (eqb (get_or s at 0) x)) [
        | inl e ↦
            let p : suc at + i ≡ at + suc i = omega arith in
            let z = rw e at l in
            rw p at (run_each n (suc at) i (omega (arith, z)))
        | inr e ↦ absurd (let z = rw e at l in omega (arith, z))
      ]

  module _ (h : x < 256) (bytes : Bytes s) where
    pub run_same : (at w : ℕ) → w < 2 ^ 64 → w ≡ number_of (take 8 (drop at s)) → before_mark 8 (bit_xor w (x * 0x0101_0101_0101_0101)) ≡ run_of x 8 s at
    unfolding run_of
    run_same at w l e =
        ap (before_mark 8) (differ_each w x l h ∙ ap (lanes 8 (differ x)) e)
        ∙ before_run (differ x) (differ_small x h) s bytes (λ n p k. k ≡ run_of x n s p)
        (λ p. refl)
        (λ n p z. rw (ne_eqb (get_or s p 0) x (λ y. omega (arith, z, xor_self x, ap (differ x) y))))
        (λ n p k z m. rw (eq-eqb (get_or s p 0) x (xor_zero (get_or s p 0) x z)) (ap suc m)) 8 at
