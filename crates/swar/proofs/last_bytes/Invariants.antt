-- The invariant: the number is that of the bytes from i on.
use Prim.Native.Nat.{◌≤◌, min}
use mathlib.Core.Path.{◌≡◌}
use lib.ListN.{length, drop}
use Rattle.swar.specs.Number.{number_of}
use Rattle.swar.proofs.last_bytes.Given as goal

abbrev pub invariant-loop-i : goal.invariant-loop-i
invariant-loop-i l = (min l.at (length l.s) ≤ l.i) × (l.number ≡ number_of (drop l.i l.s))
