-- `numbers::scan_prefixed` meets its contract: by what the run says, and the byte after it.
use Prim.Native.Nat.{ℕ, ◌+◌}
use mathlib.Core.Path.{◌≡◌, sym, ap, ap₂, ◌∙◌}
use mathlib.Core.Bool.{false, ◌&&◌, ◌||◌}
use lib.Dec.{leb, eqb}
use lib.ListN.{drop}
use mathlib.Core.List.{List}
use Rattle.utf8.specs.Chars.{chars, peek}
use Rattle.digits.specs.Digit.{is_decimal}
use Rattle.digits.proofs.Digits.{base_most}
use Rattle.numbers.specs.Run.{Run, digit_run}
use Rattle.numbers.specs.Steps.{prefix_base, prefix_error}
use Rattle.numbers.specs.Number.{number_at, prefixed, prefixed_digits}
use Rattle.numbers.proofs.Runs.{run_err, run_ok}
use Rattle.numbers.proofs.Numerals.{prefixed_there, prefixed_bad, prefixed_wrong, prefixed_good, no_digit}
use Rattle.numbers.proofs.scan_prefixed.Goals as goal
use Rattle.numbers.proofs.scan_prefixed.Goals.{After-goes_on, After-scan_digits}

-- the run, and the character after it
abbrev run : List ℕ → ℕ → ℕ → Run
run src at base = digit_run base false (chars (drop at src))

abbrev next : List ℕ → ℕ → ℕ → ℕ
next src at base = peek (chars (drop (at + (run src at base).len) src))

-- what the definition says
whole : (c : After-scan_digits) → let a = c.args in let base = prefix_base a.prefix in
    number_at a.at (prefixed base (prefix_error a.prefix) a.spelling (chars (drop a.at a.src.now)))
    ≡ number_at a.at (prefixed_digits base (prefix_error a.prefix) a.spelling (run a.src.now a.at base) (next a.src.now a.at base))
whole c =
    let a = c.args in
    ap (number_at a.at) (prefixed_there a.src.now a.at (prefix_base a.prefix) (prefix_error a.prefix) a.spelling (rw (← c.base.ensures) (base_most c.base.result)))

pub returns-in-Err : goal.returns-in-Err
returns-in-Err c =
    let a = c.args in
    let base = prefix_base a.prefix in
    let q = run_err a.at (run a.src.now a.at base) c.in-Err.field-0 (rw c.base.ensures at c.in-Err.ensures) in
    c.illegal.ensures ∙ rw q.1 (sym (whole (goal.at.returns-in-Err c).After-scan_digits ∙ prefixed_bad base (prefix_error a.prefix) a.spelling a.at (run a.src.now a.at base) (next a.src.now a.at base) q.0))

-- what the code tests is what the definition tests
wrong : (c : After-goes_on) → let a = c.args in let base = prefix_base a.prefix in let d = run a.src.now a.at base in
    c.in-Ok.end ≡ a.at + d.len → eqb c.in-Ok.end a.at || c.goes_on.result ≡ eqb d.len 0 || (leb base 8 && is_decimal (next a.src.now a.at base))
wrong c e =
    let a = c.args in
    let base = prefix_base a.prefix in
    ap₂ ◌||◌ (ap (λ x. eqb x a.at) e ∙ no_digit a.at (run a.src.now a.at base).len)
    (c.goes_on.ensures ∙ ap (λ x. leb base 8 && is_decimal (peek (chars (drop x a.src.now)))) e)

pub returns-then-end-at : goal.returns-then-end-at
returns-then-end-at c =
    let a = c.args in
    let base = prefix_base a.prefix in
    let error = prefix_error a.prefix in
    let d = run a.src.now a.at base in
    let q = run_ok a.at d c.in-Ok.end (rw c.base.ensures at c.in-Ok.ensures) in
    c.illegal-then-end-at.ensures
    ∙ rw (q.1, c.fault.ensures) (sym (whole (goal.at.returns-then-end-at c).After-scan_digits ∙ prefixed_wrong base error a.spelling a.at d (next a.src.now a.at base) q.0 (sym (wrong (goal.at.returns-then-end-at c).After-goes_on q.1) ∙ c.if-end-at.true)))

pub returns-else-end-at : goal.returns-else-end-at
returns-else-end-at c =
    let a = c.args in
    let base = prefix_base a.prefix in
    let error = prefix_error a.prefix in
    let d = run a.src.now a.at base in
    let q = run_ok a.at d c.in-Ok.end (rw c.base.ensures at c.in-Ok.ensures) in
    c.good.ensures
    ∙ rw q.1 (sym (whole (goal.at.returns-else-end-at c).After-scan_digits ∙ prefixed_good base error a.spelling a.at d (next a.src.now a.at base) q.0 (sym (wrong (goal.at.returns-else-end-at c).After-goes_on q.1) ∙ c.if-end-at.false)))
