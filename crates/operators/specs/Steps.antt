-- Steps of the code. No public contract cites this file.
use Rattle.std.specs.Prelude.{ℕ, cond, ◌&&◌, eqb}
use Prim.Native.Char.{code}
use Rattle.kinds.specs.Kinds.{LSS, LEQ, SHL, SHL_ASSIGN, ARROW, AND, AND_ASSIGN, AND_NOT, AND_NOT_ASSIGN, LAND, GTR, GEQ, SHR, SHR_ASSIGN, PERIOD, ELLIPSIS}
use Rattle.operators.specs.Longest.{OperatorSaid, op}

-- the operator where the first byte is known, by the second b: = or nothing
abbrev pub switch2 : ℕ → ℕ → ℕ → OperatorSaid
switch2 b one assign = cond (eqb b (code "=")) (op assign 2) (op one 1)

-- =, another byte ch or nothing
abbrev pub switch3 : ℕ → ℕ → ℕ → ℕ → ℕ → OperatorSaid
switch3 b one assign ch two = cond (eqb b (code "=")) (op assign 2) (cond (eqb b ch) (op two 2) (op one 1))

-- a byte ch, with = or nothing as the third c, or what else it may be
abbrev pub switch4 : ℕ → ℕ → ℕ → ℕ → ℕ → OperatorSaid → OperatorSaid
switch4 b c ch two assign other = cond (eqb b ch) (cond (eqb c (code "=")) (op assign 3) (op two 2)) other

-- after <
abbrev pub less_by : ℕ → ℕ → OperatorSaid
less_by b c = switch4 b c (code "<") SHL SHL_ASSIGN (switch3 b LSS LEQ (code "-") ARROW)

-- after >
abbrev pub greater_by : ℕ → ℕ → OperatorSaid
greater_by b c = switch4 b c (code ">") SHR SHR_ASSIGN (switch2 b GTR GEQ)

-- after &
abbrev pub and_by : ℕ → ℕ → OperatorSaid
and_by b c = switch4 b c (code "^") AND_NOT AND_NOT_ASSIGN (switch3 b AND AND_ASSIGN (code "&") LAND)

-- after a point
abbrev pub period_by : ℕ → ℕ → OperatorSaid
period_by b c = cond (eqb b (code ".") && eqb c (code ".")) (op ELLIPSIS 3) (op PERIOD 1)
