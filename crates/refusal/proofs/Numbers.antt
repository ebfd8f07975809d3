-- The number of a refusal: it is what a cast gives, and never 0.
use Prim.Native.Nat.{◌+◌}
use mathlib.Core.Path.{◌≡◌, refl}
use native.Mathlib.Omega.{arith}
use denote.Enum.Declared.{tag_of}
use Rattle.refusal.specs.contracts.Refusal.{the_type}
use Rattle.refusal.specs.declared.Refusal.{Refusal}
use Rattle.refusal.specs.declared.Refusal.TheVariants.{NotUtf8, TooLong, BadSize, NoPosition, NoLine, DoesNotFit, TableFull, ListFull, AreaFull, NoNumber, NoPair}
use Rattle.refusal.specs.Outcome.{refusal_number}

pub refusal_tag : (refusal : Refusal) → tag_of the_type refusal + 1 ≡ refusal_number refusal
refusal_tag NotUtf8 = refl
refusal_tag TooLong = refl
refusal_tag BadSize = refl
refusal_tag NoPosition = refl
refusal_tag NoLine = refl
refusal_tag DoesNotFit = refl
refusal_tag TableFull = refl
refusal_tag ListFull = refl
refusal_tag AreaFull = refl
refusal_tag NoNumber = refl
refusal_tag NoPair = refl

pub refusal_some : (refusal : Refusal) → refusal_number refusal ≡ 0 → ⊥
refusal_some refusal e = omega (arith, refusal_tag refusal, e)
