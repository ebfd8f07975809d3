-- `scanning::starts_read` meets its contract: before the size each line feed starts a line.
use Rattle.scanner.proofs.Pass.{starts_feeds}
use Rattle.scanner.proofs.scanning.starts_read.Goals as goal

pub returns-then-state-read : goal.returns-then-state-read
returns-then-state-read c = let p = c.requires in starts_feeds _ _ _ _ _ p.0 p.1 c.if-state-read.true
