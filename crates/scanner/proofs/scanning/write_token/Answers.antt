-- `scanning::write_token` meets its contract: each call writes one buffer of the definition, and the state is that of the table then.
use native.Mathlib.Omega.{arith}
use Rattle.scanner.proofs.Committed.{state_ready, error_ready, left_is}
use Rattle.scanner.proofs.scanning.write_token.Goals as goal

pub state_after-after-requires : goal.state_after-after-requires
state_after-after-requires c =
    state_ready _ _ _ _ _ _ _ _ _ c.requires c.record_starts.ensures (omega (arith, c.well_formed.1.1.1.1.1.0.1))

pub record_error-requires : goal.record_error-requires
record_error-requires c =
    error_ready _ _ _ _ _ _ _ _ _ c.requires c.record_starts.ensures c.state_after-after.ensures

pub returns : goal.returns
returns c =
    let s = c.args in (
      left_is s.src.now s.state s.pass.blanks.end s.pass.token s.pass.chars s.starts s.table.now s.list.now s.area.now
          c.record_starts.ensures c.state_after-after.ensures c.record_error.ensures c.write_area.ensures,
      c.state_after-after.ensures,
    )
