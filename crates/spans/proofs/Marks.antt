-- Eight bytes are marked where one of them is to be looked at by itself, and before the first mark only plain bytes stand.
use Prim.Native.Nat.{ℕ, suc, ◌+◌, ◌≤◌, ◌<◌}
use Prim.Native.Char.{code}
use mathlib.Core.Path.{◌≡◌, refl, ap₂, ◌∙◌}
use mathlib.Core.Bool.{Bool, true, false, cond, ◌&&◌, ◌||◌}
use mathlib.Core.List.{List}
use native.Mathlib.Numerals.{add-one}
use native.Mathlib.Omega.{arith}
use lib.Bits.{bit_or}
use lib.Dec.{eqb, ltb, leb}
use lib.ListN.{length, take, drop, get_or}
use borrow.Author.Tests.{leb-true, lt-ltb, le-leb}
use Rattle.basics.proofs.Lists.{drop_next}
use Rattle.swar.specs.Number.{number_of}
use Rattle.swar.specs.Lanes.{lanes}
use Rattle.swar.proofs.Numbers.{Bytes}
use Rattle.swar.specs.Marks.{mark, ascii_between, before_mark}
use Rattle.swar.proofs.Trailing.{before_run}
use Rattle.swar.proofs.Marks.{mark_small, marks_or}
use Rattle.spans.specs.Plain.{special, PlainRun}

-- what is marked
abbrev found : ℕ → ℕ → Bool
found x b = (ascii_between 0 (code "\r") b || eqb b x) || ltb 127 b

found_none : (x b : ℕ) → mark (found x) b ≡ 0 → special x b ≡ false
found_none x b = go (leb b (code "\r")) refl (eqb b x) (ltb 127 b)
  where
    last : (t u : Bool) → t && (u && false) ≡ false
    last true true = refl
    last true false = refl
    last false u = refl

    go : (t : Bool) → leb b (code "\r") ≡ t → (u v : Bool) → ◌≡◌ {A = ℕ} (cond (((ltb b 0x80 && (leb 0 b && t)) || u) || v) 0x80 0) 0 → (t || v) || u ≡ false
    go true l u v e =
        let ascii : ltb b 0x80 ≡ true = lt-ltb b 0x80 (omega (arith, leb-true b (code "\r") l)) in
        let least : leb 0 b ≡ true = le-leb 0 b (omega arith) in
        absurd (omega (arith, rw (ascii, least) at e))
    go false l true v e = absurd (omega (arith, rw (last (ltb b 0x80) (leb 0 b)) at e))
    go false l false true e = absurd (omega (arith, rw (last (ltb b 0x80) (leb 0 b)) at e))
    go false l false false e = refl

others_each : (x w c s h : ℕ) → c ≡ lanes 8 (mark (ascii_between 0 (code "\r"))) w → s ≡ lanes 8 (mark (λ b. eqb b x)) w → h ≡ lanes 8 (mark (ltb 127)) w
    → bit_or (bit_or c s) h ≡ lanes 8 (mark (found x)) w
others_each x w c s h ec es eh =
    ap₂ bit_or (ap₂ bit_or ec es ∙ marks_or (ascii_between 0 (code "\r")) (λ b. eqb b x) w) eh
    ∙ marks_or (λ b. ascii_between 0 (code "\r") b || eqb b x) (ltb 127) w

-- ---- the bytes before the first mark
module _ (x : ℕ) (s : List ℕ) where
  pub run_none : (at : ℕ) → at ≤ length s → PlainRun x s at 0
  run_none at h = record { fits = omega arith; plain = refl }

  run_more : (at n : ℕ) → at < length s → special x (get_or s at 0) ≡ false → PlainRun x s (suc at) n → PlainRun x s at (suc n)
  run_more at n h e r = record { fits = omega arith; plain = rw (drop_next s at 0 h, e, add-one at) r.plain }

  pub run_of_eight : Bytes s → (at w c t h : ℕ) → w ≡ number_of (take 8 (drop at s)) → c ≡ lanes 8 (mark (ascii_between 0 (code "\r"))) w
      → t ≡ lanes 8 (mark (λ b. eqb b x)) w → h ≡ lanes 8 (mark (ltb 127)) w → at + 8 ≤ length s
      → PlainRun x s at (before_mark 8 (bit_or (bit_or c t) h))
  run_of_eight bytes at w c t h e ec et eh =
      rw (others_each x w c t h ec et eh, e)
      (before_run (mark (found x)) (mark_small (found x)) s bytes (λ n p k. p + n ≤ length s → PlainRun x s p k)
      (λ p fit. run_none p (omega arith)) (λ n p _ fit. run_none p (omega arith))
      (λ n p k z run fit. run_more p k (omega arith) (found_none x (get_or s p 0) z) (run (omega arith))) 8 at)
