use mathlib.Core.Path.{◌≡◌, ◌∙◌}
use native.Mathlib.Omega.{arith}
use lib.ListN.{drop}
use Rattle.quotes.specs.Plain.{plain_len}
use Rattle.quotes.specs.Steps.{quote_code}
use Rattle.quotes.proofs.PlainRuns.{plain_left, plain_reach}
use Rattle.quotes.proofs.Stops.{run_skip}
use Rattle.quotes.proofs.plain.plain_end.Goals as goal
use Rattle.quotes.proofs.plain.plain_end.Goals.{After-plain_run, In-loop-n}

pub loop-n-preserved : goal.loop-n-preserved
loop-n-preserved c =
    let a = c.args in
    omega (arith, c.loop-n.invariant, run_skip (quote_code a.quote) a.src.now 8 c.loop-n.p (omega (arith, c.plain_at-n.ensures)))

-- the rest of the run
left : (c : After-plain_run) → c.plain_run.result ≡ plain_len (quote_code c.args.quote) (drop c.loop-n.p c.args.src.now)
left c = c.plain_run.ensures ∙ plain_left (quote_code c.args.quote) c.args.src.now c.loop-n.p c.min.result c.min.ensures

pub overflow_add-result-2 : goal.overflow_add-result-2
overflow_add-result-2 c = omega (arith, left c, plain_reach (quote_code c.args.quote) c.args.src.now c.loop-n.p)

pub returns : goal.returns
returns c = omega (arith, c.loop-n.invariant, left (goal.at.returns c).After-plain_run)
