-- A state that fits alone fits some table: `fits_alone` asks all that the state alone can tell.
use Prim.Native.Nat.{ℕ, zero, suc, pred, ◌-◌, ◌≤◌}
use mathlib.Core.Path.{◌≡◌, refl, ap, ◌∙◌}
use mathlib.Core.Bool.{true, ◌&&◌}
use mathlib.Core.List.{List, [], ◌∷◌, ◌++◌}
use native.Mathlib.Omega.{arith}
use lib.Dec.{eqb, leb}
use lib.ListN.{length, get_or, replicate, length-append}
use lib.Seq.{get_or_at}
use borrow.Author.Tests.{leb-true, eqb-true, le-ltb, eq-eqb}
use Rattle.basics.proofs.Choice.{and_split}
use Rattle.position.specs.Lines.{line_start}
use Rattle.position.specs.Place.{in_range, has_line}
use Rattle.position.proofs.Place.{fit_true}
use Rattle.state.specs.declared.state.State.{State}
use Rattle.state.specs.Fits.{file_of, fits_line, fits_alone, fits_table}

-- a table of so many starts, all of them 0 but the last
stand_in : ℕ → ℕ → List ℕ
stand_in lines start = replicate (pred lines) 0 ++ (start ∷ [])

length_zeros : (n : ℕ) → length {A = ℕ} (replicate n 0) ≡ n
length_zeros zero = refl
length_zeros (suc n) = ap suc (length_zeros n)

module _ (lines start : ℕ) (some : 1 ≤ lines) where
  stand_in_length : length (stand_in lines start) ≡ lines
  unfolding stand_in
  stand_in_length = length-append (replicate (pred lines) 0) (start ∷ []) ∙ omega (arith, length_zeros (pred lines))

  stand_in_last : line_start (stand_in lines start) lines ≡ start
  unfolding stand_in
  stand_in_last = get_or_at (replicate (pred lines) 0) start [] 0 (lines - 1) (omega (arith, length_zeros (pred lines)))

stand_in_first : (lines start : ℕ) → 1 ≤ lines → (lines ≡ 1 → start ≡ 0) → get_or (stand_in lines start) 0 0 ≡ 0
unfolding stand_in
stand_in_first zero start h z = absurd (omega arith)
stand_in_first (suc zero) start h z = z refl
stand_in_first (suc (suc n)) start h z = refl

pub alone_fits : (s : State) → fits_alone s ≡ true → (table : List ℕ) × (fits_table s table ≡ true)
unfolding in_range
alone_fits s e =
    let own = and_split (leb s.offset s.place && leb s.offset s.size && has_line (file_of s) && in_range (file_of s)) (fits_line s) e in
    let g = and_split (leb s.offset s.place && leb s.offset s.size && has_line (file_of s)) (in_range (file_of s)) own.0 in
    let some = leb-true 1 s.lines (and_split (leb s.offset s.place && leb s.offset s.size) (has_line (file_of s)) g.0).1 in
    let l = and_split (eqb s.line.number s.lines && leb s.line.start s.offset) _ own.1 in
    let first : s.lines ≡ 1 → s.line.start ≡ 0 = λ n. eqb-true _ _ (rw (le-ltb 1 s.lines (omega arith)) at l.1) in
    let table = stand_in s.lines s.line.start in
    let fitted =
    fit_true (file_of s) table (record {
      top = leb-true _ _ g.1;
      some = some;
      held = omega (arith, stand_in_length s.lines s.line.start some);
      first = stand_in_first s.lines s.line.start some first;
    }) in
    (table, rw (fitted, eq-eqb _ _ (stand_in_last s.lines s.line.start some)))
