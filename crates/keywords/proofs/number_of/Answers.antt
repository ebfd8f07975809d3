-- A mask cuts out the first n of eight bytes.
use mathlib.Core.Path.{ap₂, ◌∙◌}
use borrow.Author.Rules.{rules}
use lib.Bits.{bit_and}
use Rattle.swar.proofs.Numbers.{number_mask}
use Rattle.keywords.proofs.number_of.Goals as goal

pub returns : goal.returns
returns c =
    ap₂ bit_and c.eight.ensures c.ones.ensures
    ∙ number_mask c.args.text.now c.args.n (λ i. (c.type_inv.text i).fits) (search rules)
