-- Steps of the code. No public contract cites this file.
-- What the digits of an escape and the entries of its tables come to.
use Rattle.std.specs.Prelude.{ℕ, cond, Option, Some, None, Result, Ok, Err, eqb}
use Rattle.errors.specs.declared.fault.Fault.{Fault}
use Rattle.errors.specs.Faults.{fault_number}
use Rattle.escapes.specs.declared.escape_digits.EscapeDigits.{EscapeDigits}
use Rattle.escapes.specs.EscapeDigits.{Digits}

-- the value of digits, 0 where they are too few, and the number of the error, 0 where they are not
abbrev pub value_in : Result ℕ Fault → ℕ
value_in (Ok value) = value
value_in (Err fault) = 0

abbrev pub error_in : Result ℕ Fault → ℕ
error_in (Ok value) = 0
error_in (Err fault) = fault_number fault

abbrev pub digits_by : ℕ → Result ℕ Fault → Digits
digits_by len value = record { value = value_in value; len = len; error = error_in value }

abbrev pub digits_said : EscapeDigits → Digits
digits_said n = digits_by n.len n.value

-- digits, without the value of those that are too few
abbrev pub whole : Digits → Digits
whole n = record { value = cond (eqb n.error 0) n.value 0; len = n.len; error = n.error }

-- an entry of a table, where 0 stands for none
abbrev pub entry : ℕ → Option ℕ
entry n = cond (eqb n 0) None (Some n)
