-- The table with the letters and the digits so far.
use Prim.Native.Nat.{◌-◌, ◌≤◌}
use mathlib.Core.Path.{◌≡◌}
use Rattle.batch.proofs.Firsts.{capitals, smalls, digits}
use Rattle.batch.proofs.tables.firsts.Given as goal

abbrev pub invariant-loop-capital : goal.invariant-loop-capital
invariant-loop-capital l = (65 ≤ l.capital) × (l.capital ≤ 91) × (l.table ≡ capitals (l.capital - 65))

abbrev pub invariant-loop-small : goal.invariant-loop-small
invariant-loop-small l = (97 ≤ l.small) × (l.small ≤ 123) × (l.table ≡ smalls (l.small - 97))

abbrev pub invariant-loop-digit : goal.invariant-loop-digit
invariant-loop-digit l = (48 ≤ l.digit) × (l.digit ≤ 58) × (l.table ≡ digits (l.digit - 48))
