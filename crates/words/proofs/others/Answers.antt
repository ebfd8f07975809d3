-- `words::others` meets its contract: each byte is marked by itself.
use borrow.Author.Rules.{rules}
use Rattle.words.proofs.Marks.{others_each}
use Rattle.words.proofs.others.Goals as goal

pub returns : goal.returns
returns c =
    others_each c.args.eight c.mark_between-letters.result c.mark_between-digits.result c.mark_byte.result (search rules) c.mark_between-letters.ensures c.mark_between-digits.ensures c.mark_byte.ensures
