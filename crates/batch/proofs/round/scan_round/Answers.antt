-- `round::scan_round` meets its contract.
use mathlib.Core.Path.{◌≡◌}
use native.Mathlib.Omega.{arith}
use lib.ListN.{length}
use Rattle.batch.specs.Many.{token_room}
use Rattle.batch.proofs.Rounds.{goes_run, ends_run, comes_behind}
use Rattle.batch.proofs.round.scan_round.Goals as goal

pub returns-then-run-token_room : goal.returns-then-run-token_room
returns-then-run-token_room c =
    let same : length c.run_simple-run.new.tokens ≡ length c.args.tokens.now = omega arith in
    ends_run (token_room c.args.tokens.now) c.args.src.now c.run_simple-run.ensures c.requires.1 (rw (c.token_room.ensures, same) at c.if-run-token_room.true)

pub returns : goal.returns
returns c =
    let run = c.run_simple-run.ensures in
    let within = run.within (omega arith) in
    let same : length c.run_simple-run.new.tokens ≡ length c.args.tokens.now = omega arith in
    let room = token_room c.args.tokens.now in
    comes_behind room c.args.src.now (goes_run room c.args.src.now run (omega (arith, within, rw (c.token_room.ensures, same) at c.if-run-token_room.false))) c.scan_next.result _ _ _ _ (rw same at c.scan_next.ensures)
