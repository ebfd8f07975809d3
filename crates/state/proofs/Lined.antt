-- The tests of a state and its table, as the code makes them: those that the table answers are made once.
use Prim.Native.Nat.{ℕ}
use mathlib.Core.Path.{◌≡◌, refl, sym, ap, ◌∙◌}
use mathlib.Core.Bool.{Bool, true, false, cond, ◌&&◌, and-false}
use mathlib.Core.List.{List}
use native.Mathlib.Omega.{arith}
use lib.Dec.{eqb, ltb, leb}
use borrow.Author.Tests.{eqb-true, ltb-false, le-leb, eq-eqb}
use Rattle.basics.proofs.Choice.{and_split}
use Rattle.position.specs.Lines.{line_start, line_in}
use Rattle.position.specs.Place.{in_range, has_line, fitting}
use Rattle.position.proofs.Place.{Fit, fit}
use Rattle.state.specs.declared.state.State.{State}
use Rattle.state.specs.Fits.{file_of, may_be_last, fits_line, fits_alone, fits_table, fits_lines}

module _ (s : State) (table : List ℕ) where
  module _ (i : leb s.offset s.place && leb s.offset s.size ≡ true) (f : fitting (file_of s) table ≡ true) where
    file : Fit (file_of s) table
    file = fit (file_of s) table f

    ranged : in_range (file_of s) ≡ true
    unfolding in_range
    ranged = le-leb _ _ file.top

    -- the tests that are left
    left : fits_lines s table ≡ fits_line s && eqb (line_start table s.lines) s.line.start
    left = rw (i, le-leb _ _ file.some, ranged, f)

    -- the last start of one line is its first
    pub lined_last : may_be_last s ≡ true → eqb (line_start table s.lines) s.line.start ≡ fits_lines s table
    lined_last e = sym (left ∙ rw e (go (eqb (line_start table s.lines) s.line.start) refl (ltb 1 s.lines) refl))
      where
        go : (t : Bool) → eqb (line_start table s.lines) s.line.start ≡ t → (m : Bool) → ltb 1 s.lines ≡ m → cond m true (eqb s.line.start 0) && t ≡ t
        go false q m l = and-false (cond m true (eqb s.line.start 0))
        go true q true l = refl
        go true q false l =
            let one : s.lines ≡ 1 = omega (arith, ltb-false 1 s.lines l, file.some) in
            let zero : s.line.start ≡ 0 = sym (eqb-true _ _ q) ∙ ap (line_start table) one ∙ file.first in
            rw (eq-eqb _ _ zero)

-- a state that fits its table has the last line
pub lined_line : (s : State) (table : List ℕ) → fits_lines s table ≡ true → s.line ≡ line_in table s.lines
lined_line s table e =
    let a = and_split (fits_alone s) (fits_table s table) e in
    let alone = leb s.offset s.place && leb s.offset s.size && has_line (file_of s) && in_range (file_of s) in
    let own = and_split alone (fits_line s) a.0 in
    let m = and_split (may_be_last s) _ own.1 in
    let number = eqb-true s.line.number s.lines (and_split (eqb s.line.number s.lines) _ m.0).0 in
    let start = eqb-true (line_start table s.lines) s.line.start (and_split (fitting (file_of s) table) _ a.1).1 in
    λ i. record { number = number i; start = sym start i }
