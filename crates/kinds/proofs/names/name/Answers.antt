-- A number from the length of the table on is that of no kind.
use native.Mathlib.Omega.{arith}
use Rattle.kinds.specs.Table.{table, specials, operators, keywords}
use Rattle.kinds.proofs.Table.{no_name}
use Rattle.kinds.proofs.names.name.Goals as goal

pub returns-in-Err : goal.returns-in-Err
unfolding table specials operators keywords
returns-in-Err c = no_name c.args.kind (omega arith) (omega arith)
