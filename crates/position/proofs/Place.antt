-- What a file and its table have where they fit.
use Prim.Native.Nat.{ℕ, ◌+◌, ◌-◌, ◌≤◌}
use mathlib.Core.Path.{◌≡◌, ◌∙◌}
use mathlib.Core.Bool.{true}
use mathlib.Core.List.{List}
use native.Mathlib.Omega.{arith}
use lib.ListN.{length, get_or}
use lib.Seq.{get_or-take, length-take-le}
use borrow.Author.Tests.{leb-true, eqb-true, le-leb, eq-eqb}
use Rattle.basics.proofs.Choice.{and_split}
use Rattle.position.specs.declared.File.{File}
use Rattle.position.specs.Lines.{line_start}
use Rattle.position.specs.Place.{max_position, in_range, fitting, starts}
use Rattle.position.proofs.Lines.{FromZero}

pub record Fit (f : File) (table : List ℕ) : Type 0 where
  pub top : f.base + f.size ≤ max_position
  pub some : 1 ≤ f.lines
  pub held : f.lines ≤ length table
  pub first : get_or table 0 0 ≡ 0

pub fit : (f : File) (table : List ℕ) → fitting f table ≡ true → Fit f table
unfolding fitting in_range
fit f table e =
    let a = and_split _ _ e in
    let b = and_split _ _ a.0 in
    let d = and_split _ _ b.0 in
    record {
      top = leb-true _ _ d.0;
      some = leb-true _ _ d.1;
      held = leb-true _ _ b.1;
      first = eqb-true _ _ a.1;
    }

pub fit_true : (f : File) (table : List ℕ) → Fit f table → fitting f table ≡ true
unfolding fitting in_range
fit_true f table k = rw (le-leb _ _ k.top, le-leb _ _ k.some, le-leb _ _ k.held, eq-eqb _ _ k.first)

module _ (f : File) (table : List ℕ) (k : Fit f table) where
  pub starts_length : length (starts f table) ≡ f.lines
  starts_length = length-take-le f.lines table k.held

  pub from_zero : FromZero (starts f table)
  from_zero = record {
    some = omega (arith, starts_length, k.some);
    first = get_or-take f.lines table 0 0 k.some ∙ k.first;
  }

  -- the last start, in the table and among the starts
  pub last_start : line_start (starts f table) (length (starts f table)) ≡ line_start table f.lines
  last_start = rw (starts_length, get_or-take f.lines table (f.lines - 1) 0 (omega (arith, k.some)))
