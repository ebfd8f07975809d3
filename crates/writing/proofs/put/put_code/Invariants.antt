-- `writing::put::put_code` meets its contract. The loop's invariant: what is left of the bytes is to be written from the present place on.
use Prim.Native.Nat.{ℕ}
use mathlib.Core.Path.{◌≡◌}
use mathlib.Core.List.{List, ◌++◌}
use lib.ListN.{drop}
use lib.Seq.{sets}
use Rattle.utf8.specs.Chars.{encode}
use Rattle.writing.proofs.put.put_code.Given as goal

abbrev pub invariant-loop-k : goal.invariant-loop-k
invariant-loop-k l = (rest : List ℕ) → sets l.initial.area l.to (encode l.code ++ rest) ≡ sets l.area l.n (drop l.k (encode l.code) ++ rest)
