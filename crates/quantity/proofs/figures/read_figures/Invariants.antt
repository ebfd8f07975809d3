-- `quantity::figures::read_figures` meets its contract. The loop's invariant: the digits passed are m with zeros after it, and m does not end in a zero.
use Prim.Native.Nat.{◌*◌, ◌^◌, ◌≤◌}
use mathlib.Core.Path.{◌≡◌}
use lib.ListN.{drop}
use Rattle.digits.specs.Base.{base_number}
use Rattle.quantity.specs.Text.{digits_from, digits_of}
use Rattle.quantity.specs.Figures.{Bare}
use Rattle.quantity.proofs.figures.read_figures.Given as goal

abbrev pub invariant-loop-b : goal.invariant-loop-b
invariant-loop-b l = record {
  few : l.zeros ≤ l.b-index;
  bare : Bare (base_number l.base) l.m;
  same : digits_of (base_number l.base) l.text ≡ digits_from (base_number l.base) (l.m * base_number l.base ^ l.zeros) (drop l.b-index l.text);
}
