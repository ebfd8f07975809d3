-- What each answer of this crate comes to.
use Rattle.std.specs.Prelude.{Result, Ok, Err, Some, None, Option as Optional}
use Rattle.std.proofs.Math.Option.{Option, none, some}
use Rattle.refusal.specs.declared.Refusal.{Refusal}
use Rattle.refusal.specs.Outcome.{Outcome, refused, gave, refusal_number}
use Rattle.errors.specs.declared.layout.Error.{Error}

-- the code's options are the definition's
abbrev pub got : Result (Optional Error) Refusal → Outcome (Option Error)
got (Ok (Some e)) = gave (some e)
got (Ok None) = gave none
got (Err refusal) = refused (refusal_number refusal)
