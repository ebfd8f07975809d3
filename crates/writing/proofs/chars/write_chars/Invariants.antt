-- `writing::chars::write_chars` meets its contract. The loop's invariant: the text of what is left is to be written from the present place on.
use Prim.Native.Nat.{ℕ, ◌-◌}
use mathlib.Core.Path.{◌≡◌}
use mathlib.Core.List.{List, ◌++◌}
use lib.Seq.{sets}
use Rattle.writing.proofs.Texts.{text_at}
use Rattle.writing.proofs.chars.write_chars.Given as goal

abbrev pub invariant-loop-k : goal.invariant-loop-k
invariant-loop-k l = (rest : List ℕ) → sets l.initial.area l.to (text_at l.crs l.count l.src l.at ++ rest) ≡ sets l.area l.n (text_at l.crs (l.count - l._k) l.src l.p ++ rest)
