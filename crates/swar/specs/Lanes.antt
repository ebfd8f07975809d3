-- A function of bytes on each byte of a number.
use Rattle.std.specs.Prelude.{ℕ, zero, suc, ◌+◌, ◌*◌, ◌/◌, ◌%◌}

-- f of each of the n lowest bytes of a number, each in its byte's place
unfoldable pub lanes : ℕ → (ℕ → ℕ) → ℕ → ℕ
lanes zero f w = 0
lanes (suc n) f w = lanes n f (w / 256) * 256 + f (w % 256)
