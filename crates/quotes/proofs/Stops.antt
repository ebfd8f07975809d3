-- Eight bytes are marked where one of them may not be written as itself, and before the first mark stands the run of those that may.
use Prim.Native.Nat.{ℕ, suc, ◌+◌, ◌≤◌, ◌<◌, min}
use mathlib.Core.Path.{◌≡◌, refl, ap₂, ◌∙◌}
use mathlib.Core.Bool.{Bool, true, false, cond, not, ◌||◌}
use mathlib.Core.List.{List}
use mathlib.Core.Logic.{inl, inr}
use native.Mathlib.Decide.{dec_lt}
use native.Mathlib.Numerals.{add-one}
use native.Mathlib.Omega.{arith}
use lib.Bits.{bit_or}
use lib.Dec.{eqb, ltb}
use lib.ListN.{length, take, drop, get_or}
use borrow.Author.Tests.{lt-ltb, le-ltb}
use Rattle.basics.proofs.Choice.{either}
use Rattle.swar.specs.Number.{number_of}
use Rattle.swar.specs.Lanes.{lanes}
use Rattle.swar.proofs.Numbers.{Bytes}
use Rattle.swar.specs.Marks.{mark, before_mark}
use Rattle.swar.proofs.Each.{lanes_same}
use Rattle.swar.proofs.Marks.{marks_or}
use Rattle.swar.proofs.Runs as runs
use Rattle.quotes.specs.Plain.{is_plain_byte, plain_len}
use Rattle.quotes.specs.Steps.{stop_mark}
use Rattle.quotes.proofs.PlainRuns.{plain_next, plain_stop, plain_over}

-- a byte that is one of four is no plain one
module _ (quote : ℕ) where
  abbrev found : ℕ → Bool
  found b = ((eqb b quote || eqb b 10) || eqb b 92) || ltb 0x7F b

  found_stops : (b : ℕ) → ◌≡◌ {A = ℕ} (cond (found b) 0x80 0) (stop_mark quote b)
  unfolding stop_mark is_plain_byte
  found_stops b = rw high (four (eqb b quote) (eqb b 10) (eqb b 92) (ltb b 0x80))
    where
      high : ltb 0x7F b ≡ not (ltb b 0x80)
      high = elim (dec_lt b 0x80) [ yes h ↦ rw (lt-ltb b 0x80 h, le-ltb 127 b (omega arith)) refl | no h ↦ rw (le-ltb b 0x80 (omega arith), lt-ltb 127 b (omega arith)) refl ]

      four : (t u v w : Bool) → ◌≡◌ {A = ℕ} (cond (((t || u) || v) || not w) 0x80 0) (cond (cond t false (cond u false (cond v false w))) 0 0x80)
      four true u v w = refl
      four false true v w = refl
      four false false true w = refl
      four false false false true = refl
      four false false false false = refl

  pub stops_each : (w q f b h : ℕ) → q ≡ lanes 8 (mark (λ b. eqb b quote)) w → f ≡ lanes 8 (mark (λ b. eqb b 10)) w → b ≡ lanes 8 (mark (λ b. eqb b 92)) w
      → h ≡ lanes 8 (mark (ltb 0x7F)) w → bit_or (bit_or (bit_or q f) b) h ≡ lanes 8 (stop_mark quote) w
  stops_each w q f b h eq ef eb eh =
      let two = ap₂ bit_or eq ef ∙ marks_or (λ b. eqb b quote) (λ b. eqb b 10) w in
      let three = ap₂ bit_or two eb ∙ marks_or (λ b. eqb b quote || eqb b 10) (λ b. eqb b 92) w in
      ap₂ bit_or three eh
      ∙ marks_or (λ b. (eqb b quote || eqb b 10) || eqb b 92) (ltb 0x7F) w
      ∙ lanes_same (mark found) (stop_mark quote) 8 w (λ b _. found_stops b)

-- ---- the run at a place
module _ (quote : ℕ) (s : List ℕ) where
  run_next : (p : ℕ) → p < length s → is_plain_byte quote (get_or s p 0) ≡ true → plain_len quote (drop p s) ≡ suc (plain_len quote (drop (suc p) s))
  run_next p h e = rw (plain_next quote s p h e, add-one p) refl

  -- as far as n bytes go
  pub run_marked : Bytes s → (n p : ℕ) → p + n ≤ length s
      → before_mark n (lanes n (stop_mark quote) (number_of (take n (drop p s)))) ≡ min n (plain_len quote (drop p s))
  unfolding stop_mark
  run_marked = runs.run_marked (λ p. plain_len quote (drop p s)) (is_plain_byte quote) s (length s) run_next (plain_stop quote s)

  -- k bytes on
  pub run_skip : (k p : ℕ) → k ≤ plain_len quote (drop p s) → plain_len quote (drop p s) ≡ k + plain_len quote (drop (p + k) s)
  run_skip = runs.run_skip (λ p. plain_len quote (drop p s)) next
    where
      next : (p : ℕ) → 0 < plain_len quote (drop p s) → plain_len quote (drop p s) ≡ suc (plain_len quote (drop (suc p) s))
      next p l =
          elim (dec_lt p (length s)) [
            | yes h ↦ elim (either (is_plain_byte quote (get_or s p 0))) [ inl e ↦ run_next p h e | inr e ↦ absurd (omega (arith, plain_stop quote s p h e)) ]
            | no h ↦ absurd (omega (arith, plain_over quote s p (omega arith)))
          ]
