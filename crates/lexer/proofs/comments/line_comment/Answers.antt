-- `lexer::comments::line_comment` meets its contract: by whether the line feed is read.
use native.Mathlib.Omega.{arith}
use Rattle.lexer.proofs.SpannedTokens.{line_room, line_bytes, line_closed, line_open}
use Rattle.lexer.proofs.comments.line_comment.Goals as goal

pub spanned-x-requires : goal.spanned-x-requires
spanned-x-requires c =
    let b = c.line_body-b in
    line_room c.args.src.now c.args.at c.requires.0 c.args.mark b.result c.requires.1 b.ensures (omega (arith, c.well_formed.0.1))

pub returns-then-b : goal.returns-then-b
returns-then-b c =
    let b = c.line_body-b in
    rw c.spanned-x.ensures
    (line_closed c.args.src.now c.args.at c.requires.0 c.args.mark b.result c.requires.1 b.ensures c.if-b.true)

pub overflow_add-text : goal.overflow_add-text
overflow_add-text c =
    let b = c.line_body-b in
    rw c.spanned-x.ensures
    (omega (arith, line_bytes c.args.src.now c.args.at c.requires.0 c.args.mark b.result c.requires.1 b.ensures, c.well_formed.0.1))

pub returns : goal.returns
returns c =
    let b = c.line_body-b in
    rw c.spanned-x.ensures
    (line_open c.args.src.now c.args.at c.requires.0 c.args.mark b.result c.requires.1 b.ensures c.if-b.false)
