-- `run::run_simple` meets its contract.
use mathlib.Core.Path.{refl}
use native.Mathlib.Omega.{arith}
use borrow.Author.Rules.{rules}
use Rattle.batch.specs.Many.{token_room}
use Rattle.batch.proofs.Runs.{is_lined, step_over, steps}
use Rattle.batch.proofs.Rounds.{leads_on, safe_ready, state_ready, leads_start}
use Rattle.batch.proofs.run.run_simple.Goals as goal

pub safe_end-safe-requires : goal.safe_end-safe-requires
safe_end-safe-requires c = let a = c.args in safe_ready a.src.now a.list.now a.from.state a.table.now c.requires

pub loop-count-init : goal.loop-count-init
loop-count-init c =
    let a = c.args in
    rw c.start_at-at.ensures (refl, omega arith, leads_start a.src.now a.list.now (token_room a.tokens.now) a.from a.table.now a.tokens.now c.requires)

pub record_line-lines-requires : goal.record_line-lines-requires
record_line-lines-requires c =
    let a = c.args in
    let l = c.loop-count in
    let e = c.in-Some.ensures in
    is_lined a.src.now a.from.state c.safe_end-safe.result c.safe_end-safe.ensures l.table a.list.now l.at l.invariant.1 l.invariant.2.fit c.in-Some.blanks e.0 e.1.0 e.1.1

pub loop-count-preserved : goal.loop-count-preserved
loop-count-preserved c =
    let a = c.args in
    let l = c.loop-count in
    let e = c.in-Some.ensures in
    let w = c.record_line-lines.ensures in
    let room = token_room a.tokens.now in
    let fit = l.invariant.2.fit in (
      search rules,
      step_over a.src.now a.from.state c.safe_end-safe.result c.safe_end-safe.ensures l.table a.list.now l.at l.invariant.1 fit c.in-Some.blanks e.0 e.1.0 e.2 w.0,
      rw c.put_token_at.ensures
          (leads_on room a.src.now l.invariant.2
          (steps a.src.now a.from.state c.safe_end-safe.result c.safe_end-safe.ensures l.table a.list.now l.at l.invariant.1 fit c.in-Some.blanks e.0 e.1.0 e.2 w.0
          room l.count l.tokens (rw c.token_room-room.ensures at c.loop-count-test.true) c.record_line-lines.result w.1)),
    )

pub state_at-requires : goal.state_at-requires
state_at-requires c =
    let a = c.args in
    let l = c.loop-count in
    state_ready a.src.now a.list.now a.from.state l.at l.table l.invariant.2.fit l.invariant.1
