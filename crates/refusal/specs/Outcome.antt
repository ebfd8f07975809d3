-- What a call comes to: a refusal by number, or what it gave.
use Rattle.std.specs.Prelude.{ℕ, Result, Ok, Err}
use Rattle.refusal.specs.declared.Refusal.{Refusal}
use Rattle.refusal.specs.declared.Refusal.TheVariants.{NotUtf8, TooLong, BadSize, NoPosition, NoLine, DoesNotFit, TableFull, ListFull, AreaFull, NoNumber, NoPair}
use Rattle.refusal.specs.Refusals.{NOT_UTF8, TOO_LONG, BAD_SIZE, NO_POSITION, NO_LINE, DOES_NOT_FIT, TABLE_FULL, LIST_FULL, AREA_FULL, NO_NUMBER, NO_PAIR}

pub data Outcome (A : Type 0) : Type 0 where
  refused : ℕ → Outcome A
  gave : A → Outcome A

-- the number of each refusal
abbrev pub refusal_number : Refusal → ℕ
refusal_number NotUtf8 = NOT_UTF8
refusal_number TooLong = TOO_LONG
refusal_number BadSize = BAD_SIZE
refusal_number NoPosition = NO_POSITION
refusal_number NoLine = NO_LINE
refusal_number DoesNotFit = DOES_NOT_FIT
refusal_number TableFull = TABLE_FULL
refusal_number ListFull = LIST_FULL
refusal_number AreaFull = AREA_FULL
refusal_number NoNumber = NO_NUMBER
refusal_number NoPair = NO_PAIR

-- what an answer of the code comes to
abbrev pub outcome_of : {A : Type 0} → Result A Refusal → Outcome A
outcome_of (Ok x) = gave x
outcome_of (Err refusal) = refused (refusal_number refusal)
