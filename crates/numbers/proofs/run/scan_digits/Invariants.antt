-- `numbers::run::scan_digits` meets its contract. The loop's invariant: the run is the one that goes on from here.
use Prim.Native.Nat.{◌≤◌, max}
use mathlib.Core.Path.{◌≡◌}
use mathlib.Core.Bool.{false}
use lib.ListN.{length, drop}
use Rattle.utf8.specs.Chars.{chars}
use Rattle.digits.specs.Base.{base_number}
use Rattle.numbers.specs.Run.{digit_run}
use Rattle.numbers.specs.Steps.{digits_at}
use Rattle.numbers.proofs.run.scan_digits.Given as goal

abbrev pub invariant-loop-p : goal.invariant-loop-p
invariant-loop-p l = record {
  same : digits_at l.at (digit_run (base_number l.base) false (chars (drop l.at l.src))) ≡ digits_at l.p (digit_run (base_number l.base) l.under (chars (drop l.p l.src)));
  inside : l.p ≤ max l.at (length l.src);
}
