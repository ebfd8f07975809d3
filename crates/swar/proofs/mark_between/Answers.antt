use borrow.Author.Rules.{rules}
use Rattle.swar.proofs.Marks.{between_each}
use Rattle.swar.proofs.mark_between.Goals as goal

pub returns : goal.returns
returns c =
    let a = c.args in
    rw (c.repeated-from.ensures, c.repeated-to.ensures) (between_each a.first a.last c.min.result c.min-2.result c.min.ensures c.min-2.ensures a.eight (search rules))
