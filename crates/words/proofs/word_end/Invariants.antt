-- `words::word_end` meets its contract. The loop's invariant: the run ends where it would from here.
use Prim.Native.Nat.{◌+◌, ◌-◌}
use mathlib.Core.Path.{◌≡◌}
use lib.ListN.{length, drop}
use Rattle.utf8.specs.Chars.{chars}
use Rattle.words.specs.Word.{word_len}
use Rattle.words.proofs.word_end.Given as goal

abbrev pub invariant-loop-n : goal.invariant-loop-n
invariant-loop-n l = l.at + word_len (chars (drop l.at l.src)) ≡ l.p + word_len (chars (drop l.p l.src))

abbrev pub decreases-loop-n : goal.decreases-loop-n
decreases-loop-n l = length l.src - l.p
