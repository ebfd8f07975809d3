-- `simple::give_simple` meets its contract: by what the first byte tells.
use mathlib.Core.Path.{sym}
use Rattle.batch.proofs.SimpleTokens.{letter_first, digit_first, quote_first, point_first, feed_first}
use Rattle.batch.proofs.simple.give_simple.Goals as goal

pub word-requires : goal.word-requires
word-requires c = let a = c.args.start in letter_first _ (a.bytes a.at) (sym c.in-Letter.ensures)

pub point-requires : goal.point-requires
point-requires c = let a = c.args.start in point_first _ (a.bytes a.at) (sym c.in-Point.ensures)

pub semicolon-requires : goal.semicolon-requires
semicolon-requires c = let a = c.args.start in feed_first _ (a.bytes a.at) (sym c.in-LineFeed.ensures)

pub decimal-requires : goal.decimal-requires
decimal-requires c = let a = c.args.start in digit_first _ (a.bytes a.at) (sym c.in-Digit.ensures)

pub string-requires : goal.string-requires
string-requires c = let a = c.args.start in quote_first _ (a.bytes a.at) (sym c.in-Quote.ensures)
