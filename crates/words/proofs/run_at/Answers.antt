-- `words::run_at` meets its contract.
use mathlib.Core.Path.{◌∙◌}
use Rattle.words.proofs.Marks.{run_zeros}
use Rattle.words.proofs.run_at.Goals as goal

pub returns : goal.returns
returns c =
    let a = c.args in
    c.before_mark.ensures ∙ run_zeros a.src.now (λ i. (c.type_inv.src i).fits) a.at _ _ c.eight.ensures c.others.ensures
