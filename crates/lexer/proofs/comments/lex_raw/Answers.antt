-- `lexer::comments::lex_raw` meets its contract: by whether the string is closed.
use native.Mathlib.Omega.{arith}
use Rattle.lexer.proofs.SpannedTokens.{raw_room, raw_two, raw_closed, raw_one, raw_open}
use Rattle.lexer.proofs.comments.lex_raw.Goals as goal
use Rattle.lexer.proofs.comments.lex_raw.Goals.{then-b, else-b}

pub spanned-x-requires : goal.spanned-x-requires
spanned-x-requires c =
    raw_room c.args.src.now c.args.at c.requires c.raw_body-b.result c.raw_body-b.ensures (omega (arith, c.well_formed.0.1))

pub overflow_sub-value : goal.overflow_sub-value
overflow_sub-value c =
    let b = c.raw_body-b in
    elim c.if-b.branch [
      | then-b w ↦ rw (c.spanned-x.ensures, w.quotes-is) (raw_two c.args.src.now c.args.at c.requires b.result b.ensures w.if-b.true)
      | else-b w ↦ rw (c.spanned-x.ensures, w.quotes-is) (raw_one c.args.src.now c.args.at c.requires b.result b.ensures)
    ]

pub returns : goal.returns
returns c =
    let b = c.raw_body-b in
    elim c.if-b.branch [
      | then-b w ↦ rw (c.spanned-x.ensures, w.quotes-is) (raw_closed c.args.src.now c.args.at c.requires b.result b.ensures w.if-b.true)
      | else-b w ↦ rw (c.spanned-x.ensures, w.quotes-is) (raw_open c.args.src.now c.args.at c.requires b.result b.ensures w.if-b.false)
    ]
