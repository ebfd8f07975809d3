-- `spans::line::ends_line` meets its contract: by where and how the search stopped.
use mathlib.Core.Path.{sym, ap, ◌∙◌}
use Rattle.spans.proofs.Lines.{line_ends, ends_line_of}
use Rattle.spans.proofs.line.ends_line.Goals as goal

pub returns-in-Closed : goal.returns-in-Closed
returns-in-Closed c =
    let a = c.args in
    c.blank_to_end.ensures ∙ sym (ends_line_of a.src.now a.at ∙ ap (line_ends a.src.now) (sym c.comment_end-stop.ensures ∙ c.in-Closed.is))

pub returns-in-End : goal.returns-in-End
returns-in-End c =
    let a = c.args in
    sym (ends_line_of a.src.now a.at ∙ ap (line_ends a.src.now) (sym c.comment_end-stop.ensures ∙ c.in-End.is))
