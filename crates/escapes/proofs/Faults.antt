-- The number of a fault is none of no error.
use mathlib.Core.Path.{◌≡◌, refl}
use mathlib.Core.Bool.{false}
use lib.Dec.{eqb}
use Rattle.errors.specs.declared.fault.Fault.{Fault}
use Rattle.errors.specs.declared.fault.Fault.TheVariants.{BadBinary, BadOctal, BadHexadecimal, MisplacedUnderscore, BadExponent, OpenRawString, OpenComment, OpenQuote, UnknownEscape, CutEscape, BadEscape, NoCodePoint, NotOneCharacter, UnknownToken}
use Rattle.errors.specs.Faults.{fault_number}

pub fault_some : (fault : Fault) → eqb (fault_number fault) 0 ≡ false
fault_some BadBinary = refl
fault_some BadOctal = refl
fault_some BadHexadecimal = refl
fault_some MisplacedUnderscore = refl
fault_some BadExponent = refl
fault_some OpenRawString = refl
fault_some OpenComment = refl
fault_some OpenQuote = refl
fault_some UnknownEscape = refl
fault_some CutEscape = refl
fault_some BadEscape = refl
fault_some NoCodePoint = refl
fault_some NotOneCharacter = refl
fault_some UnknownToken = refl
