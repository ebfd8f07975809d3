-- `scanning::commit` meets its contract: the token, what is written, and the state after it.
use Rattle.scanner.proofs.Committed.{position_fits, commit_is}
use Rattle.scanner.proofs.scanning.commit.Goals as goal

pub position_at-requires : goal.position_at-requires
position_at-requires c =
    let k = c.requires in
    (k.behind, position_fits _ _ _ _ _ _ _ _ _ k)

pub returns : goal.returns
returns c =
    let a = c.args in
    commit_is a.src.now a.state a.pass.blanks.end a.pass.token a.pass.chars a.starts a.table.now a.list.now a.area.now
    c.write_token-after.ensures.0
    (rw (c.token_of-token.ensures, c.position_at.ensures, c.write_token-after.ensures.1))
