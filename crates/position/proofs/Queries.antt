-- What each query comes to, case by case.
use Prim.Native.Nat.{ℕ, ◌+◌, ◌-◌, ◌≤◌, ◌<◌}
use Rattle.std.specs.Prelude.{Option, Some, None, Ok, Err, SomeIff, ok_or}
use mathlib.Core.Path.{◌≡◌, sym, ◌∙◌}
use mathlib.Core.Bool.{true, false}
use mathlib.Core.List.{List}
use native.Mathlib.Omega.{arith}
use lib.Seq.{get_or-take}
use borrow.Author.Tests.{le-leb, lt-leb}
use Rattle.basics.proofs.Choice.{in_between, below_it, above_it}
use Rattle.refusal.specs.declared.Refusal.{Refusal}
use Rattle.refusal.specs.declared.Refusal.TheVariants.{NoPosition}
use Rattle.refusal.specs.Outcome.{refused, gave}
use Rattle.position.specs.declared.File.{File}
use Rattle.position.specs.Lines.{line_of, line_start, start_of, column_of, position_at}
use Rattle.position.specs.Place.{in_range, fitting, starts}
use Rattle.position.specs.Queries.{pos_of, position_of, line_start_of}
use Rattle.position.proofs.Lines.{line_count, line_one, start_below}
use Rattle.position.proofs.Place.{Fit, fit, from_zero, starts_length}

module _ (f : File) (o : ℕ) where
  pub pos_unplaced : in_range f ≡ false → pos_of f o ≡ refused 6
  unfolding pos_of
  pos_unplaced e = rw e

  pub pos_outside : in_range f ≡ true → f.size < o → pos_of f o ≡ refused 4
  unfolding pos_of
  pos_outside e h = rw (e, lt-leb _ _ h)

  pub pos_gave : in_range f ≡ true → o ≤ f.size → pos_of f o ≡ gave (f.base + o)
  unfolding pos_of
  pos_gave e h = rw (e, le-leb _ _ h)

module _ (f : File) (table : List ℕ) (p : ℕ) where
  pub position_unfit : fitting f table ≡ false → position_of f table p ≡ refused 6
  unfolding position_of
  position_unfit e = rw e

  module _ (e : fitting f table ≡ true) where
    pub position_below : p < f.base → position_of f table p ≡ refused 4
    unfolding position_of
    position_below h = rw (e, below_it _ _ (f.base + f.size) h)

    pub position_above : f.base + f.size < p → position_of f table p ≡ refused 4
    unfolding position_of
    position_above h = rw (e, above_it f.base p (f.base + f.size) (omega arith) h)

    pub position_gave : f.base ≤ p → p ≤ f.base + f.size → position_of f table p ≡ gave (position_at (starts f table) (p - f.base))
    unfolding position_of
    position_gave h g = rw (e, in_between _ _ _ h g)

module _ (f : File) (table : List ℕ) (line o : ℕ) where
  pub start_unfit : fitting f table ≡ false → line_start_of f table line o ≡ refused 6
  unfolding line_start_of
  start_unfit e = rw e

  module _ (e : fitting f table ≡ true) where
    pub start_unread : f.size < o → line_start_of f table line o ≡ refused 6
    unfolding line_start_of
    start_unread h = rw (e, lt-leb _ _ h)

    module _ (h : o ≤ f.size) where
      pub start_zero : line ≡ 0 → line_start_of f table line o ≡ refused 5
      unfolding line_start_of
      start_zero z = rw (e, le-leb _ _ h, below_it 1 line f.lines (omega arith))

      module _ (some : 1 ≤ line) where
        pub start_past : f.lines < line → line_start_of f table line o ≡ refused 5
        unfolding line_start_of
        start_past g = rw (e, le-leb _ _ h, above_it 1 line f.lines some g)

        module _ (held : line ≤ f.lines) where
          pub start_above : o < line_start table line → line_start_of f table line o ≡ refused 6
          unfolding line_start_of
          start_above g = rw (e, le-leb _ _ h, in_between 1 line f.lines some held, lt-leb _ _ g)

          pub start_gave : line_start table line ≤ o → line_start_of f table line o ≡ gave (f.base + line_start table line)
          unfolding line_start_of
          start_gave g = rw (e, le-leb _ _ h, in_between 1 line f.lines some held, le-leb _ _ g)

-- a position less a base, where it is not below the base
module _ (base p : ℕ) where
  pub less_base : (o : Option ℕ) {x : ℕ} → SomeIff o (base ≤ p) (p - base) → ok_or o NoPosition ≡ Ok x → (base ≤ p) × (x ≡ p - base)
  less_base None s e = absurd (grind arith)
  less_base (Some y) {x = x} s e = let z : y ≡ x = grind arith in (s.0, sym z ∙ s.1)

  pub below_base : (o : Option ℕ) {refusal : Refusal} → SomeIff o (base ≤ p) (p - base) → ok_or o NoPosition ≡ Err refusal → (p < base) × (refusal ≡ NoPosition)
  below_base None s e = (grind (arith, s), grind arith)
  below_base (Some y) s e = absurd (grind arith)

-- a line that the table holds, which starts at or before the offset
pub record Found (f : File) (table : List ℕ) (o line : ℕ) : Type 0 where
  pub some : 1 ≤ line
  pub held : line ≤ f.lines
  pub low : line_start table line ≤ o

-- an offset's line is one
module _ (f : File) (table : List ℕ) (k : Fit f table) (o : ℕ) where
  line_held : line_of (starts f table) o ≤ f.lines
  line_held = omega (arith, line_count (starts f table) o, starts_length f table k)

  line_some : 1 ≤ line_of (starts f table) o
  line_some = line_one (starts f table) o (from_zero f table k)

  start_read : line_start table (line_of (starts f table) o) ≡ start_of (starts f table) o
  unfolding start_of
  start_read = sym (get_or-take f.lines table (line_of (starts f table) o - 1) 0 (omega (arith, line_held, line_some)))

  pub found : {line : ℕ} → line ≡ line_of (starts f table) o → Found f table o line
  found e =
      record {
        some = rw e line_some;
        held = rw e line_held;
        low = rw (e, start_read) (start_below (starts f table) o (from_zero f table k));
      }

-- the place of a position, with its line found and the start read from the table
pub position_read : (f : File) (table : List ℕ) (p : ℕ) {line : ℕ} → fitting f table ≡ true → f.base ≤ p → p - f.base ≤ f.size → line ≡ line_of (starts f table) (p - f.base)
    → position_of f table p ≡ gave (record { offset = p - f.base; line = line; column = p - f.base - line_start table line + 1 })
unfolding column_of
position_read f table p e h g k = position_gave f table p e h (omega arith) ∙ rw (k, start_read f table (fit f table e) (p - f.base))
