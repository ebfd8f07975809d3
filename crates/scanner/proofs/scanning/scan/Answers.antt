-- `scanning::scan` meets its contract: where the state does not fit, the scan is refused.
use mathlib.Core.Path.{sym, ◌∙◌}
use Rattle.scanner.proofs.Scans.{scan_unfit}
use Rattle.scanner.proofs.scanning.scan.Goals as goal

pub returns-then-not-fits : goal.returns-then-not-fits
returns-then-not-fits c =
    let a = c.args in
    sym (scan_unfit a.src.now a.state a.table.now a.list.now a.area.now (sym c.fits.ensures ∙ c.if-not-fits.true))
