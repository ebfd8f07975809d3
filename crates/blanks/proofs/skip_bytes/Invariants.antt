-- `blanks::skip_bytes` meets its contract. The loop's invariant: what was skipped and what is still skipped make the whole.
use Prim.Native.Nat.{◌≤◌, max}
use mathlib.Core.Path.{◌≡◌}
use lib.ListN.{length, drop}
use Rattle.utf8.specs.Chars.{chars}
use Rattle.blanks.specs.Blank.{skip, skipped_at}
use Rattle.blanks.proofs.Blanks.{joined}
use Rattle.blanks.proofs.skip_bytes.Given as goal

abbrev pub invariant-loop-end : goal.invariant-loop-end
invariant-loop-end l = record {
  few : l.lfs ≤ l.end;
  inside : l.end ≤ max l.at (length l.src);
  same : skipped_at l.at (skip l.mark (chars (drop l.at l.src))) ≡ joined l.end l.lfs l.line (skip l.mark (chars (drop l.end l.src)));
}
