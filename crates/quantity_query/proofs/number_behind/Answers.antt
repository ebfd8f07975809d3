-- `quantity_query::number_behind` meets its contract: a number that is no kind is neither INT nor FLOAT.
use native.Mathlib.Omega.{arith}
use borrow.Author.Tests.{ne_eqb}
use Rattle.kinds.specs.Kinds.{INT, FLOAT}
use Rattle.quantity_query.specs.Given.{is_given}
use Rattle.quantity_query.specs.Number.{number_behind}
use Rattle.quantity_query.proofs.number_behind.Goals as goal

pub returns-in_default-2 : goal.returns-in_default-2
unfolding number_behind is_given
returns-in_default-2 c =
    let large = c.in_default.ensures.1 in
    rw (ne_eqb c.args.kind INT (λ e. omega (arith, e, large)), ne_eqb c.args.kind FLOAT (λ e. omega (arith, e, large)))
