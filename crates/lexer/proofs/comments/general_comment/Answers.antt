-- `lexer::comments::general_comment` meets its contract: by whether the comment is closed.
use native.Mathlib.Omega.{arith}
use Rattle.std.specs.Prelude.{Some, None}
use Rattle.errors.specs.declared.fault.Fault.TheVariants.{OpenComment}
use Rattle.lexer.proofs.SpannedTokens.{general_room, general_said}
use Rattle.lexer.proofs.comments.general_comment.Goals as goal

pub spanned-x-requires : goal.spanned-x-requires
spanned-x-requires c =
    let b = c.block_body-b in
    general_room c.args.src.now c.args.at c.requires.0 c.args.mark b.result c.requires.1 b.ensures (omega (arith, c.well_formed.0.1))

pub returns-then-b : goal.returns-then-b
returns-then-b c =
    let b = c.block_body-b in
    rw c.spanned-x.ensures
    (general_said c.args.src.now c.args.at c.requires.0 c.args.mark b.result c.requires.1 b.ensures None (rw c.if-b.true))

pub returns : goal.returns
returns c =
    let b = c.block_body-b in
    rw c.spanned-x.ensures
    (general_said c.args.src.now c.args.at c.requires.0 c.args.mark b.result c.requires.1 b.ensures (Some OpenComment) (rw c.if-b.false))
