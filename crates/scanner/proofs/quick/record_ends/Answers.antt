-- `quick::record_ends` meets its contract: what the blanks record, and what the token does after it.
use Prim.Native.Nat.{ℕ, ◌-◌}
use mathlib.Core.Path.{◌≡◌, ◌∙◌}
use mathlib.Core.List.{List}
use native.Mathlib.Omega.{arith}
use lib.Seq.{sets}
use Rattle.scanner.specs.Steps.{starts_from}
use Rattle.scanner.proofs.Pass.{sets_none}
use Rattle.scanner.proofs.Ends.{end_one}
use Rattle.scanner.proofs.quick.record_ends.Goals as goal
use Rattle.scanner.proofs.quick.record_ends.Goals.{Joined-blanks-gt0, else-blanks-gt0, then-blanks-gt0}

-- the line starts of the blanks
abbrev starts : Joined-blanks-gt0 → List ℕ
starts c =
    let a = c.args in
    starts_from a.src.now a.state (a.pass.blanks.end - a.state.place)

-- past the first test they are written
blanks : (c : Joined-blanks-gt0)
    → c.if-blanks-gt0.table ≡ sets c.args.table.now c.args.state.lines (starts c)
blanks c =
    elim c.if-blanks-gt0.branch [ then-blanks-gt0 w ↦ w.table-is ∙ w.write_starts.ensures | else-blanks-gt0 w ↦ w.table-is ∙ sets_none c.args.table.now c.args.state.lines (starts c) (omega (arith, w.if-blanks-gt0.false, c.requires.1)) ]

pub returns-then-pass-gt0 : goal.returns-then-pass-gt0
returns-then-pass-gt0 c =
    end_one c.args.table.now c.args.state.lines (starts (goal.at.returns-then-pass-gt0 c).Joined-blanks-gt0) (blanks (goal.at.returns-then-pass-gt0 c).Joined-blanks-gt0) c.args.pass.token c.args.offset c.requires.1 c.if-pass-gt0.true
