-- `lexer::comments::lex_comment` meets its contract: by the second byte, and whether the comment ends its line under a set mark.
use Prim.Native.Nat.{◌+◌}
use mathlib.Core.Path.{◌≡◌, sym, ◌∙◌}
use mathlib.Core.Bool.{◌&&◌, false, and-false}
use mathlib.Core.Logic.{⊎_elim}
use native.Mathlib.Omega.{arith}
use lib.ListN.{get_or, drop}
use Rattle.utf8.specs.Chars.{chars}
use Rattle.spans.specs.Line.{ends_line}
use Rattle.lexer.proofs.SpannedTokens.{comment_inserted, comment_kept}
use Rattle.lexer.proofs.comments.lex_comment.Goals as goal
use Rattle.lexer.proofs.comments.lex_comment.Goals.{Else-second-eq47, else-mark-2-via-then-mark-2+else-ends_line, else-mark-2-via-else-mark-2}

pub returns-then-mark : goal.returns-then-mark
returns-then-mark c =
    rw c.inserted_semicolon.ensures
    (comment_inserted c.args.src.now c.args.at 47 (omega arith) (omega arith) c.requires.0 (c.requires.1 ∙ c.if-second-eq47.true) c.args.mark
    (rw c.if-mark.true))

pub returns-then-second-eq47 : goal.returns-then-second-eq47
returns-then-second-eq47 c =
    c.line_comment.ensures
    ∙ comment_kept c.args.src.now c.args.at 47 (omega arith) (omega arith) c.requires.0 (c.requires.1 ∙ c.if-second-eq47.true) c.args.mark
    (rw c.if-mark.false)

-- the byte after the slash is a star
star : (c : Else-second-eq47) → get_or c.args.src.now (c.args.at + 1) 0 ≡ 42
star c = c.requires.1 ∙ ⊎_elim (λ e. absurd (c.if-second-eq47.false e)) (λ e. e) c.requires.2

pub returns-then-ends_line : goal.returns-then-ends_line
returns-then-ends_line c =
    rw c.inserted_semicolon-then-ends_line.ensures
    (comment_inserted c.args.src.now c.args.at 42 (omega arith) (omega arith) c.requires.0 (star (goal.at.returns-then-ends_line c).Else-second-eq47) c.args.mark
    (rw c.if-mark-2.true (sym c.ends_line.ensures ∙ c.if-ends_line.true)))

-- with no mark, or where the comment does not end its line
pub returns : goal.returns
returns c =
    let a = c.args in
    let kept : a.mark && ends_line false (chars (drop (a.at + 2) a.src.now)) ≡ false =
    elim c.else-mark-2.branch [
      | else-mark-2-via-then-mark-2+else-ends_line w ↦ rw (sym w.ends_line.ensures ∙ w.if-ends_line.false) (and-false a.mark)
      | else-mark-2-via-else-mark-2 w ↦ rw w.if-mark-2.false
    ] in
    c.general_comment.ensures
    ∙ comment_kept a.src.now a.at 42 (omega arith) (omega arith) c.requires.0 (star (goal.at.returns c).Else-second-eq47) a.mark kept
