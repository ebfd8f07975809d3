-- `word::long_word` meets its contract: the word that the two searches tell.
use native.Mathlib.Omega.{arith}
use Rattle.kinds.proofs.Tags.{kind_tag}
use Rattle.batch.proofs.Giving.{gives_word}
use Rattle.batch.proofs.word.long_word.Goals as goal

pub returns : goal.returns
returns c =
    let a = c.args.start in
    let kind = c.ident_token-kind.result in
    gives_word a.src.now a.at a.safe a.position (omega (arith, a.early, a.inside)) c.requires kind c.word_end-end.result
    c.word_end-end.ensures c.ident_token-kind.ensures (omega (arith, c.if-start-end.false)) (rw (kind_tag kind) at c.give_word.ensures)
