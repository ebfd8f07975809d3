-- `utf8::char_at` meets its contract: past the end, at an ASCII byte, and by the first four bytes.
use mathlib.Core.Path.{sym, ◌∙◌}
use native.Mathlib.Omega.{arith}
use borrow.Author.Tests.{le-ltb}
use Rattle.utf8.proofs.First.{char_at_ascii, char_at_bytes}
use Rattle.utf8.specs.Chars.{char_at}
use Rattle.utf8.proofs.char_at.Goals as goal

pub returns-then-s-at : goal.returns-then-s-at
unfolding char_at
returns-then-s-at c = simp (le-ltb _ _ c.if-s-at.true)

pub returns-then-a-lt128 : goal.returns-then-a-lt128
returns-then-a-lt128 c =
    let x = c.args in
    sym (char_at_ascii x.s.now x.at (omega arith) c.if-a-lt128.true)

pub returns : goal.returns
returns c =
    let x = c.args in
    c.decode.ensures
    ∙ rw (c.byte-3.ensures, c.byte-2.ensures, c.byte.ensures) (sym (char_at_bytes x.s.now x.at (omega arith)))
