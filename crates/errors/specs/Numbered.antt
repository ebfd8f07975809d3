-- The fault with a number.
use Rattle.std.specs.Prelude.{ℕ, ◌≡◌, ◌⊎◌, ◌<◌, Result, MatchResult}
use Rattle.errors.specs.declared.fault.UnknownFault.{UnknownFault}
use Rattle.errors.specs.declared.fault.Fault.{Fault}
use Rattle.errors.specs.Numbers.{UNKNOWN_TOKEN}
use Rattle.errors.specs.Faults.{fault_number}

-- the fault with this number, or the number itself where it is that of no fault
abbrev pub Numbered : ℕ → Result Fault UnknownFault → Type 0
Numbered number r = MatchResult r (λ fault. fault_number fault ≡ number) (λ unknown. (unknown.0 ≡ number) × ((number ≡ 0) ⊎ (UNKNOWN_TOKEN < number)))
