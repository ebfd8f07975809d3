-- Tests of bytes in a number: what marks its bytes, and how many come before the first mark.
use Rattle.std.specs.Prelude.{ℕ, zero, suc, ◌/◌, ◌%◌, Bool, ◌&&◌, cond, List, eqb, ltb, get_or}
use Rattle.basics.specs.Between.{between}

-- a byte's mark, where a test holds of it
abbrev pub mark : (ℕ → Bool) → ℕ → ℕ
mark t b = cond (t b) 0x80 0

-- is a byte ASCII, and between two others?
abbrev pub ascii_between : ℕ → ℕ → ℕ → Bool
ascii_between first last b = ltb b 0x80 && between first b last

-- how many of the n lowest bytes of a number come before the first that is not 0
unfoldable pub before_mark : ℕ → ℕ → ℕ
before_mark zero w = 0
before_mark (suc n) w = cond (eqb (w % 256) 0) (suc (before_mark n (w / 256))) 0

-- how many of the n bytes from a place on are x, before the first other; after its end a text is
-- taken to have zeros
unfoldable pub run_of : ℕ → ℕ → List ℕ → ℕ → ℕ
run_of x zero s at = 0
run_of x (suc n) s at = cond (eqb (get_or s at 0) x) (suc (run_of x n s (suc at))) 0
