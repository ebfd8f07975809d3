-- `class::sets_mark` meets its contract: each kind is computed.
use Prim.Native.Nat.{ℕ, zero, suc, ◌+◌, ◌<◌, ◌≤◌, ◌/◌, ◌%◌, ◌^◌}
use mathlib.Core.Path.{◌≡◌, ap, ◌∙◌}
use mathlib.Core.Bool.{Bool, cond, beq}
use native.Mathlib.Omega.{arith}
use lib.Dec.{eqb}
use lib.Bits.{bit_and}
use borrow.Author.Rules.{rules}
use Rattle.basics.proofs.Choice.{same_test}
use Rattle.kinds.specs.Table.{sets_mark}
use Rattle.kinds.proofs.Ranges.{every_within}
use Rattle.kinds.proofs.class.sets_mark.Goals as goal
use Rattle.kinds.proofs.class.sets_mark.Goals.{then-kind-lt64, else-kind-lt64}

-- the number that has a bit for each of the n kinds from `from` on
abbrev marks : ℕ → ℕ → ℕ
marks from zero = 0
marks from (suc n) = marks from n + cond (sets_mark (from + n)) (2 ^ n) 0

-- a kind's bit of such a number
abbrev bit : ℕ → ℕ → Bool
bit m k = eqb (bit_and (m / 2 ^ (k % 64)) 1) 1

low : (k : ℕ) → k < 64 → bit (marks 0 64) k ≡ sets_mark k
low k h = same_test _ _ (every_within (λ k. beq (bit (marks 0 64) k) (sets_mark k)) 0 64 tt k (search rules) h)

high : (k : ℕ) → 64 ≤ k → k < 128 → bit (marks 64 64) k ≡ sets_mark k
high k l h = same_test _ _ (every_within (λ k. beq (bit (marks 64 64) k) (sets_mark k)) 64 64 tt k l h)

pub returns : goal.returns
returns c =
    let k = c.args.kind in
    let l = c.if-kind-gt127.false in
    elim c.if-kind-lt64.branch [
      | then-kind-lt64 w ↦ ap (λ m. bit m k) w.marks-is ∙ low k w.if-kind-lt64.true
      | else-kind-lt64 w ↦ ap (λ m. bit m k) w.marks-is ∙ high k w.if-kind-lt64.false (omega (arith, l))
    ]
