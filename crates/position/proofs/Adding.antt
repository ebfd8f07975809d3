-- What adding a line start comes to, case by case, and what it keeps.
use Prim.Native.Nat.{ℕ, ◌+◌, ◌≤◌, ◌<◌}
use mathlib.Core.Path.{◌≡◌, refl, ◌∙◌}
use mathlib.Core.Bool.{true, false, cond, and-false}
use mathlib.Core.List.{List, [], ◌∷◌, ◌++◌}
use mathlib.Core.Logic.{⊎_elim}
use native.Mathlib.Numerals.{add-one}
use native.Mathlib.Omega.{arith}
use lib.Dec.{eqb}
use lib.ListN.{length, set, take, length-set}
use lib.Seq.{take-suc-set, take-set-le, get_or-set_other}
use borrow.Author.Tests.{lt-ltb, le-ltb, eq-eqb, ne_eqb, ltb-true, eqb-true, eqb-false}
use Rattle.basics.proofs.Choice.{either, and_split}
use Rattle.refusal.specs.Outcome.{refused, gave}
use Rattle.refusal.proofs.Outcomes.{refused_gave}
use Rattle.position.specs.declared.File.{File}
use Rattle.position.specs.Lines.{line_start, StrictlyRising}
use Rattle.position.specs.Place.{fitting, starts}
use Rattle.position.specs.Adding.{AddLineLeft, starting, add_line}
use Rattle.position.proofs.Lines.{rising_snoc}
use Rattle.position.proofs.Place.{Fit, fit, last_start}

-- whether an offset is a start to be recorded
module _ (f : File) (table : List ℕ) (o : ℕ) where
  pub starting_low : o ≤ line_start table f.lines → starting f table o ≡ false
  unfolding starting
  starting_low h = rw (le-ltb _ _ h)

  pub starting_past : f.size ≤ o → starting f table o ≡ false
  unfolding starting
  starting_past h = rw (le-ltb _ _ h, and-false)

  pub starting_here : line_start table f.lines < o → o < f.size → starting f table o ≡ true
  unfolding starting
  starting_here h g = rw (lt-ltb _ _ h, lt-ltb _ _ g)

  pub starting_above : starting f table o ≡ true → line_start table f.lines < o
  unfolding starting
  starting_above e = ltb-true _ _ (and_split _ _ e).0

-- what adding it comes to
module _ (f : File) (table : List ℕ) (o : ℕ) where
  pub add_unfit : fitting f table ≡ false → add_line f table o ≡ record { table = table; outcome = refused 6 }
  unfolding add_line
  add_unfit e = rw e

  module _ (e : fitting f table ≡ true) where
    pub add_none : starting f table o ≡ false → add_line f table o ≡ record { table = table; outcome = gave f.lines }
    unfolding add_line
    add_none s = rw (e, s)

    pub add_full : starting f table o ≡ true → f.lines ≡ length table → add_line f table o ≡ record { table = table; outcome = refused 7 }
    unfolding add_line
    add_full s h = rw (e, s, eq-eqb _ _ h)

    pub add_one_more : starting f table o ≡ true → (f.lines ≡ length table → ⊥) → add_line f table o ≡ record { table = set table f.lines o; outcome = gave (f.lines + 1) }
    unfolding add_line
    add_one_more s h = rw (e, s, ne_eqb _ _ h)

-- the three cases: refused and nothing changed, nothing to record, one start more
pub data Adds (f : File) (table : List ℕ) (o : ℕ) : AddLineLeft → Type 0 where
  left : (n : ℕ) → Adds f table o (record { table = table; outcome = refused n })
  same : Fit f table → starting f table o ≡ false → Adds f table o (record { table = table; outcome = gave f.lines })
  more : Fit f table → starting f table o ≡ true → f.lines < length table
      → Adds f table o (record { table = set table f.lines o; outcome = gave (f.lines + 1) })

pub adds : (f : File) (table : List ℕ) (o : ℕ) → Adds f table o (add_line f table o)
adds f table o =
    ⊎_elim fitted (λ (e : fitting f table ≡ false). rw (add_unfit f table o e) (left 6)) (either (fitting f table))
  where
    room : fitting f table ≡ true → starting f table o ≡ true → Adds f table o (add_line f table o)
    room e s =
        ⊎_elim (λ (z : eqb f.lines (length table) ≡ true). rw (add_full f table o e s (eqb-true _ _ z)) (left 7))
        (λ (z : eqb f.lines (length table) ≡ false).
        let ne = eqb-false f.lines (length table) z in
        rw (add_one_more f table o e s ne) (more (fit f table e) s (omega (arith, fit f table e))))
        (either (eqb f.lines (length table)))

    fitted : fitting f table ≡ true → Adds f table o (add_line f table o)
    fitted e =
        ⊎_elim (room e) (λ (s : starting f table o ≡ false). rw (add_none f table o e s) (same (fit f table e) s))
        (either (starting f table o))

-- ---- what is kept

-- the file, with n lines
abbrev pub with_lines : File → ℕ → File
with_lines f n = record { base = f.base; size = f.size; lines = n }

-- one start more comes after the others
pub set_starts : (f : File) (table : List ℕ) (o : ℕ) → f.lines < length table → take (f.lines + 1) (set table f.lines o) ≡ starts f table ++ (o ∷ [])
set_starts f table o h = rw (add-one, take-suc-set)

module _ {f : File} {table : List ℕ} {o : ℕ} where
  kept_length : {x : AddLineLeft} → Adds f table o x → length x.table ≡ length table
  kept_length (left m) = refl
  kept_length (same k s) = refl
  kept_length (more k s room) = length-set table f.lines o

  kept_starts : {x : AddLineLeft} → Adds f table o x → take f.lines x.table ≡ starts f table
  kept_starts (left m) = refl
  kept_starts (same k s) = refl
  kept_starts (more k s room) = take-set-le f.lines table f.lines o (omega arith)

  module _ {n : ℕ} where
    fit_after : {x : AddLineLeft} → Adds f table o x → x.outcome ≡ gave n → Fit (with_lines f n) x.table
    fit_after (left m) e = refused_gave e
    fit_after (same k s) e =
        let z : f.lines ≡ n = cc in
        record { top = k.top; some = omega (arith, k.some); held = omega (arith, k.held); first = k.first }
    fit_after (more k s room) e =
        let z : f.lines + 1 ≡ n = cc in
        record {
          top = k.top;
          some = omega arith;
          held = simp length-set (omega arith);
          first = get_or-set_other table f.lines 0 o 0 (λ q. omega (arith, k.some)) ∙ k.first;
        }

    starts_after : {x : AddLineLeft} → Adds f table o x → x.outcome ≡ gave n → take n x.table ≡ cond (starting f table o) (starts f table ++ (o ∷ [])) (starts f table)
    starts_after (left m) e = refused_gave e
    starts_after (same k s) e = let z : n ≡ f.lines = cc in rw (z, s)
    starts_after (more k s room) e = let z : n ≡ f.lines + 1 = cc in rw (z, s, set_starts f table o room)

    rising_after : {x : AddLineLeft} → StrictlyRising (starts f table) → Adds f table o x → x.outcome ≡ gave n → StrictlyRising (take n x.table)
    rising_after r (left m) e = refused_gave e
    rising_after r (same k s) e = let z : n ≡ f.lines = cc in rw z r
    rising_after r (more k s room) e =
        let z : n ≡ f.lines + 1 = cc in
        rw (z, set_starts f table o room) (rising_snoc (starts f table) o r (rw (last_start f table k) (starting_above f table o s)))

module _ (f : File) (table : List ℕ) (o : ℕ) where
  -- the table stays as long as it was, and so do the starts that it had
  pub add_length : length (add_line f table o).table ≡ length table
  add_length = kept_length (adds f table o)

  pub add_keeps : take f.lines (add_line f table o).table ≡ starts f table
  add_keeps = kept_starts (adds f table o)

  -- where n lines are given
  module _ (n : ℕ) (e : (add_line f table o).outcome ≡ gave n) where
    -- the file with so many lines fits the table
    pub add_fit : Fit (with_lines f n) (add_line f table o).table
    add_fit = fit_after (adds f table o) e

    -- the starts are those that were there, and the offset if it is one
    pub add_starts : take n (add_line f table o).table ≡ cond (starting f table o) (starts f table ++ (o ∷ [])) (starts f table)
    add_starts = starts_after (adds f table o) e

    -- rising starts rise on
    pub add_rising : StrictlyRising (starts f table) → StrictlyRising (take n (add_line f table o).table)
    add_rising r = rising_after r (adds f table o) e
