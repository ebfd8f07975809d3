-- Opening a text.
use Rattle.std.specs.Prelude.{ℕ, Bool, cond, not, ◌&&◌, List, ltb, leb, length, set, Result, Ok, Err}
use Rattle.std.proofs.Math.Option.{Option, some, none}
use Rattle.utf8.specs.Chars.{chars, well_formed, bytes_before}
use Rattle.refusal.specs.Outcome.{Outcome, refused, gave, refusal_number}
use Rattle.refusal.specs.Refusals.{NOT_UTF8, TOO_LONG, BAD_SIZE, TABLE_FULL}
use Rattle.position.specs.Place.{in_range}
use Rattle.state.specs.declared.state.State.{State}
use Rattle.state.specs.State.{fresh}
use Rattle.opening.specs.declared.Opened.{Opened}
use Rattle.opening.specs.declared.NotOpened.{NotOpened}
use Rattle.opening.specs.declared.NotOpened.TheVariants.{NotUtf8, Refused}

-- "at most 1,048,576 bytes"
abbrev pub max_source : ℕ
max_source = 1048576

-- "answers the first state and n"
pub record Begun : Type 0 where
  pub state : State
  pub chars : ℕ

-- what opening leaves in the table, what it comes to, and the place that refusal 1, and it alone,
-- carries
pub record Opening : Type 0 where
  pub table : List ℕ
  pub outcome : Outcome Begun
  pub place : Option ℕ

abbrev pub open_refused : ℕ → Option ℕ → List ℕ → Opening
open_refused number place table = record { table = table; outcome = refused number; place = place }

-- "The size is at least n; base + size is at most 4,294,967,295."
abbrev pub sized : ℕ → ℕ → ℕ → Bool
sized n base size = leb n size && in_range (record { base = base; size = size; lines = 1 })

-- "Opening checks 2, 1, 3, 7": the last two, for a text of n characters
abbrev pub begun_of : ℕ → ℕ → ℕ → List ℕ → Opening
begun_of n base size table =
    cond (not (sized n base size)) (open_refused BAD_SIZE none table)
    (cond (ltb (length table) 1) (open_refused TABLE_FULL none table)
    (record { table = set table 0 0; outcome = gave (record { state = fresh base size; chars = n }); place = none }))

-- all four
unfoldable pub open_of : List ℕ → ℕ → ℕ → List ℕ → Opening
open_of src base size table =
    cond (ltb max_source (length src)) (open_refused TOO_LONG none table)
    (cond (not (well_formed src)) (open_refused NOT_UTF8 (some (bytes_before (chars src))) table)
    (begun_of (length (chars src)) base size table))

-- what each answer of opening comes to, with the table as it is left
abbrev pub opening_of : List ℕ → Result Opened NotOpened → Opening
opening_of table (Ok opened) =
    record { table = table; outcome = gave (record { state = opened.state; chars = opened.chars }); place = none }
opening_of table (Err (NotUtf8 place)) = open_refused NOT_UTF8 (some place) table
opening_of table (Err (Refused refusal)) = open_refused (refusal_number refusal) none table
