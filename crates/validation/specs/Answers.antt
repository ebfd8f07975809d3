-- What the check of a text comes to.
use Rattle.std.specs.Prelude.{ℕ, cond, List, length, Result, Ok, Err}
use Rattle.std.proofs.Math.Option.{Option, none, some}
use Rattle.refusal.specs.Outcome.{Outcome, refused, gave}
use Rattle.refusal.specs.Refusals.{NOT_UTF8}
use Rattle.validation.specs.declared.NotUtf8.{NotUtf8}
use Rattle.utf8.specs.Chars.{chars, well_formed, bytes_before}

-- the number of characters or the refusal, and the place that the refusal carries
pub record Checking : Type 0 where
  pub outcome : Outcome ℕ
  pub place : Option ℕ

abbrev pub valid : ℕ → Checking
valid count = record { outcome = gave count; place = none }

abbrev pub not_utf8 : ℕ → Checking
not_utf8 place = record { outcome = refused NOT_UTF8; place = some place }

-- what each answer says
abbrev pub checking_of : Result ℕ NotUtf8 → Checking
checking_of (Ok count) = valid count
checking_of (Err bad) = not_utf8 bad.place

-- of a well-formed text the number of its characters, of any other the place of the first byte that
-- belongs to no well-formed character
abbrev pub checked_of : List ℕ → Checking
checked_of s = cond (well_formed s) (valid (length (chars s))) (not_utf8 (bytes_before (chars s)))
