-- `words::near_run` meets its contract: the bytes below the first mark are the run's, and with no mark all eight.
use Prim.Native.Nat.{ℕ, ◌*◌, ◌%◌, ◌^◌, ◌<◌, min}
use mathlib.Core.Path.{◌≡◌, sym, ap, ◌∙◌}
use mathlib.Core.List.{List}
use native.Mathlib.Omega.{arith}
use borrow.Author.Rules.{rules}
use lib.Dec.{lit<}
use lib.ListN.{take, drop}
use lib.Pow.{shl_exact, pow_pos}
use Rattle.swar.specs.Number.{number_of}
use Rattle.swar.proofs.Numbers.{bytes_drop, number_mod}
use Rattle.swar.specs.Marks.{before_mark}
use Rattle.swar.proofs.Trailing.{before_all, before_lt}
use Rattle.utf8.specs.Chars.{chars}
use Rattle.words.specs.Word.{word_len}
use Rattle.words.specs.Near.{near_run}
use Rattle.words.specs.declared.Near.{Near}
use Rattle.words.proofs.Marks.{run_zeros}
use Rattle.words.proofs.near_run.Goals as goal
use Rattle.words.proofs.near_run.Goals.{After-others-marks, Else-marks-eq0}

-- the zeros below the first mark tell the run's length
run : (c : After-others-marks)
    → before_mark 8 c.others-marks.result
    ≡ min 8 (word_len (chars (drop c.args.at c.args.src.now)))
run c =
    let a = c.args in
    run_zeros a.src.now (λ i. (c.type_inv.src i).fits) a.at _ _ c.eight-bytes.ensures c.others-marks.ensures

near : (s : List ℕ) (p len number : ℕ) → len ≡ min 8 (word_len (chars (drop p s))) → number ≡ number_of (take len (drop p s))
    → ◌≡◌ {A = Near} (record { len = len; number = number }) (near_run s p)
near s p len number e f =
    ap (λ n. record { len = len; number = n }) f ∙ ap (λ l. record { len = l; number = number_of (take l (drop p s)) }) e

pub returns-then-marks-eq0 : goal.returns-then-marks-eq0
returns-then-marks-eq0 c =
    let a = c.args in
    let all : 8 ≡ before_mark 8 c.others-marks.result = rw c.if-marks-eq0.true (sym (before_all 8)) in
    near a.src.now a.at 8 c.eight-bytes.result (all ∙ run (goal.at.returns-then-marks-eq0 c).After-others-marks) c.eight-bytes.ensures

-- there is a mark, below the top
below : (c : Else-marks-eq0) → before_mark 8 c.others-marks.result < 8
below c = before_lt c.others-marks.result (search rules) (search rules)

pub overflow_mul-bits : goal.overflow_mul-bits
overflow_mul-bits c = omega (arith, c.before_mark-len.ensures, below (goal.at.overflow_mul-bits c).Else-marks-eq0)

pub overflow_shl-above : goal.overflow_shl-above
overflow_shl-above c = omega (arith, c.before_mark-len.ensures, below (goal.at.overflow_shl-above c).Else-marks-eq0)

shift : (k : ℕ) → k < 64 → (1 * 2 ^ k) % 2 ^ 64 ≡ 2 ^ k
shift k l = shl_exact 1 k 64 (lit< tt) (omega arith) ∙ omega arith

pub nonzero_rem-number : goal.nonzero_rem-number
nonzero_rem-number c = rw (shift _ (overflow_shl-above c)) (pow_pos _)

pub returns : goal.returns
returns c =
    let a = c.args in
    let len = c.before_mark-len.result in
    near a.src.now a.at len _ (c.before_mark-len.ensures ∙ run (goal.at.returns c).After-others-marks)
    (ap (λ x. c.eight-bytes.result % x) (shift _ (overflow_shl-above c))
    ∙ ap (λ x. x % 2 ^ (8 * len)) c.eight-bytes.ensures
    ∙ number_mod (drop a.at a.src.now) len
    (bytes_drop a.at a.src.now (λ i. (c.type_inv.src i).fits)) (omega (arith, c.before_mark-len.ensures, below (goal.at.returns c).Else-marks-eq0)))
