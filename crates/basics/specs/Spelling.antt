-- The codes of a spelling that is written in quotes; of an ASCII spelling these are its bytes.
use Rattle.std.specs.Prelude.{ℕ, List, [], ◌∷◌}
use Prim.Native.Char.{code}
use Prim.Native.String.{String}
use Prim.Native.String as Str

abbrev pub spelled : String → List ℕ
spelled Str.[] = []
spelled (Str.◌∷◌ c s) = code c ∷ spelled s
