-- `lines::write_starts` meets its contract. The loop's invariant: what is left of the characters gives the starts still to be written.
use Prim.Native.Nat.{◌-◌, ◌<◌}
use mathlib.Core.Path.{◌≡◌}
use lib.ListN.{length, take, drop}
use lib.Seq.{sets}
use Rattle.utf8.specs.Chars.{chars}
use Rattle.lines.specs.Starts.{starts_read}
use Rattle.lines.proofs.write_starts.Given as goal

abbrev pub invariant-loop-o : goal.invariant-loop-o
invariant-loop-o l =
    (length l.table ≡ length l.initial.table)
    × (l.o < l.end → l.end < l.size)
    × (sets l.initial.table l.lines (starts_read l.size l.offset (take l.count (chars (drop l.at l.src)))) ≡ sets l.table l.n (starts_read l.size l.o (take (l.end - l.o) (chars (drop l.p l.src)))))
