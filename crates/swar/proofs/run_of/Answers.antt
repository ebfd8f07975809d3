use borrow.Author.Rules.{rules}
use mathlib.Core.Path.{ap, ◌∙◌}
use lib.Bits.{bit_xor}
use Rattle.swar.specs.Marks.{before_mark}
use Rattle.swar.proofs.Runs.{run_same}
use Rattle.swar.proofs.run_of.Goals as goal

pub returns : goal.returns
returns c =
    let a = c.args in
    c.before_mark.ensures ∙ ap (λ m. before_mark 8 (bit_xor c.eight.result m)) c.repeated.ensures
    ∙ run_same a.byte a.s.now (search rules) (λ i. (c.type_inv.s i).fits) a.at c.eight.result (search rules) c.eight.ensures
