-- `lines::count::count_starts` meets its contract. The loop's invariant: what was counted and the starts that what is left gives are the whole.
use Prim.Native.Nat.{◌+◌, ◌-◌, ◌≤◌, ◌<◌}
use mathlib.Core.Path.{◌≡◌}
use lib.ListN.{length, take, drop}
use Rattle.utf8.specs.Chars.{chars}
use Rattle.lines.specs.Starts.{starts_read}
use Rattle.lines.proofs.count.count_starts.Given as goal

abbrev pub invariant-loop-o : goal.invariant-loop-o
invariant-loop-o l =
    (l.n ≤ l._o)
    × (l._o < l.end → l.end < l.size)
    × (length (starts_read l.size l.offset (take l.count (chars (drop l.at l.src)))) ≡ l.n + length (starts_read l.size l._o (take (l.end - l._o) (chars (drop l.p l.src)))))
