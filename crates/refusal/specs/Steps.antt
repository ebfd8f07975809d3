-- Steps of the code. No public contract cites this file.
use Rattle.std.specs.Prelude.{Bool, cond, Result, Ok, Err}
use Rattle.refusal.specs.declared.Refusal.{Refusal}
use Rattle.refusal.specs.declared.Refusal.TheVariants.{DoesNotFit}

-- an answer that a test gives, or refuses because something does not fit
abbrev pub where_fits : {A : Type 0} → Bool → A → Result A Refusal
where_fits fits x = cond fits (Ok x) (Err DoesNotFit)
