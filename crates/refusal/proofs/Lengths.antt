-- Two slices that are tested and not too short are long enough.
use Prim.Native.Nat.{ℕ, ◌≤◌}
use mathlib.Core.Path.{◌≡◌, refl, sym, ◌∙◌}
use mathlib.Core.Bool.{Bool, true, false, ◌||◌, true≢false}
use borrow.Author.Tests.{ltb-false}
use lib.Dec.{ltb}
use Rattle.refusal.specs.Short.{too_short}

neither : (s t : Bool) → s || t ≡ false → (s ≡ false) × (t ≡ false)
neither true t h = absurd (true≢false h)
neither false t h = (refl, h)

pub long_enough : {t : Bool} (a n b m : ℕ) → t ≡ too_short a n b m → t ≡ false → (n ≤ a) × (m ≤ b)
unfolding too_short
long_enough a n b m e h =
    let f = neither (ltb a n) (ltb b m) (sym e ∙ h) in
    (ltb-false a n f.0, ltb-false b m f.1)
