-- `writing::number::write_number` meets its contract. The loop's invariant: the text of what is left is to be written from the present place on.
use mathlib.Core.Path.{◌≡◌}
use lib.ListN.{drop}
use lib.Seq.{sets}
use Rattle.numbers.specs.Spelling.{number_text}
use Rattle.writing.specs.Spelled.{spelled_from}
use Rattle.writing.proofs.number.write_number.Given as goal

abbrev pub invariant-loop-k : goal.invariant-loop-k
invariant-loop-k l = sets l.initial.area l.to (number_text l.spelling l.b-items) ≡ sets l.area l.n (spelled_from l.spelling l.k (drop l.k l.b-items))
