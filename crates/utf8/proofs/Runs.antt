-- Laws of the longest run of characters that pass a test: what it holds, its bound, its place, and more text after it.
use Prim.Native.Nat.{ℕ, zero, suc, ◌+◌, ◌≤◌, ◌<◌}
use mathlib.Core.Path.{◌≡◌, refl, sym, ap, ◌∙◌}
use mathlib.Core.Bool.{Bool, true, false, cond, true≢false}
use mathlib.Core.List.{List, [], ◌∷◌, ◌++◌}
use native.Mathlib.Omega.{arith}
use lib.ListN.{length, get_or, take, drop}
use Rattle.basics.proofs.Choice.{cond_ind}
use Rattle.utf8.specs.declared.Char.{Char}
use Rattle.utf8.specs.Chars.{ended, chars, widths}
use Rattle.utf8.proofs.Places.{ascii_only, ascii_widths, ascii_place}
use Rattle.utf8.proofs.Ends.{Ends, ends_tail}

-- n counts the characters at the start of a text that pass f
pub record Run (f : ℕ → Bool) (n : List Char → ℕ) : Type 0 where
  pub none : n [] ≡ 0
  pub next : (c : Char) (r : List Char) → n (c ∷ r) ≡ cond (f c.code) (suc (n r)) 0

module _ {f : ℕ → Bool} {n : List Char → ℕ} (run : Run f n) where
  pub run_bound : (r : List Char) → n r ≤ length r
  run_bound [] = rw run.none (omega arith)
  run_bound (c ∷ r) =
      rw (run.next c r) (cond_ind (λ k. k ≤ suc (length r)) (f c.code) _ _ (λ _. omega (arith, run_bound r)) (λ _. omega arith))

  pub run_passes : (r : List Char) (i : ℕ) → i < n r → f (get_or r i ended).code ≡ true
  run_passes [] i h = absurd (omega (arith, run.none))
  run_passes (c ∷ r) i h = go i (f c.code) refl (rw (run.next c r) at h) (run_passes r)
    where
      go : (i : ℕ) (t : Bool) → f c.code ≡ t → i < cond t (suc (n r)) 0 → ((k : ℕ) → k < n r → f (get_or r k ended).code ≡ true) → f (get_or (c ∷ r) i ended).code ≡ true
      go i false e h ih = absurd (omega arith)
      go zero true e h ih = e
      go (suc i) true e h ih = ih i (omega arith)

  -- of a test that fails above 127: a run takes a byte for each character, and the place after it is that many bytes on
  pub run_widths : ((c : ℕ) → 0x80 ≤ c → f c ≡ false) → (s : List ℕ) (p : ℕ) → widths (take (n (chars (drop p s))) (chars (drop p s))) ≡ n (chars (drop p s))
  run_widths high s p = let r = chars (drop p s) in ascii_widths (n r) s p (run_bound r) (λ i h. ascii_only f high _ (run_passes r i h))

  pub run_place : ((c : ℕ) → 0x80 ≤ c → f c ≡ false) → (s : List ℕ) (p : ℕ) → drop (n (chars (drop p s))) (chars (drop p s)) ≡ chars (drop (p + n (chars (drop p s))) s)
  run_place high s p = let r = chars (drop p s) in ascii_place (n r) s p (run_bound r) (λ i h. ascii_only f high _ (run_passes r i h))

  -- of a test that a line feed fails
  module _ (feed : f 10 ≡ false) where
    pub run_no_feed : (r : List Char) (i : ℕ) → i < n r → (get_or r i ended).code ≡ 10 → ⊥
    run_no_feed r i h e = true≢false (sym (run_passes r i h) ∙ ap f e ∙ feed)

    -- in a text that ends in one the run is the same with more after it, and stops before the line feed
    pub run_local : (r t : List Char) → Ends r → (n (r ++ t) ≡ n r) × (n r < length r)
    run_local [] t h = absurd h
    run_local (c ∷ r) t h = rw (run.next c r, run.next c (r ++ t)) (go (f c.code) refl (run_local r t))
      where
        go : (x : Bool) → f c.code ≡ x → (Ends r → (n (r ++ t) ≡ n r) × (n r < length r))
            → (cond x (suc (n (r ++ t))) 0 ≡ cond x (suc (n r)) 0) × (cond x (suc (n r)) 0 < suc (length r))
        go true e ih = let q = ih (ends_tail c r h (λ z. true≢false (sym e ∙ ap f z ∙ feed))) in (ap suc q.0, omega (arith, q.1))
        go false e ih = (refl, omega arith)
