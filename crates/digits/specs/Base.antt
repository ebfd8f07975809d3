-- The bases of numbers.
use Rattle.std.specs.Prelude.{ℕ}
use Rattle.digits.specs.declared.Base.{Base}
use Rattle.digits.specs.declared.Base.TheVariants.{Binary, Octal, Decimal, Hexadecimal}

abbrev pub base_number : Base → ℕ
base_number Binary = 2
base_number Octal = 8
base_number Decimal = 10
base_number Hexadecimal = 16
