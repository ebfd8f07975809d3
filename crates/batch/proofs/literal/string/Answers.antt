-- `literal::string` meets its contract: a run of plain characters before the closing quote is the whole body.
use native.Mathlib.Omega.{arith}
use Rattle.batch.proofs.StringTokens.{gives_string}
use Rattle.batch.proofs.literal.string.Goals as goal

pub returns : goal.returns
returns c =
    let a = c.args.start in
    let near = c.if-start-close.false in
    gives_string a.src.now a.at c.plain_string-close.result c.requires c.plain_string-close.ensures (omega (arith, near, a.inside)) c.if-start-close-ne34.false
    a.position a.safe near (rw c.string_token.ensures)
