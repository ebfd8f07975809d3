-- Steps of the code. No public contract cites this file.
use Rattle.std.specs.Prelude.{Result, Ok, Err}
use Rattle.refusal.specs.declared.Refusal.{Refusal}
use Rattle.opening.specs.declared.Opened.{Opened}
use Rattle.opening.specs.declared.NotOpened.{NotOpened}
use Rattle.opening.specs.declared.NotOpened.TheVariants.{Refused}

-- an answer that may be refused, as one of opening
abbrev pub or_refused : Result Opened Refusal → Result Opened NotOpened
or_refused (Ok opened) = Ok opened
or_refused (Err refusal) = Err (Refused refusal)
