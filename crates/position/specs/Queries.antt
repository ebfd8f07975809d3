-- The position of an offset, the place of a position and the start of a line, each with the
-- refusals that a query checks: DOES-NOT-FIT, then NO-POSITION or NO-LINE.
use Rattle.std.specs.Prelude.{ℕ, ◌+◌, ◌-◌, cond, ◌&&◌, List, leb}
use Rattle.basics.specs.Between.{between}
use Rattle.refusal.specs.Outcome.{Outcome, refused, gave}
use Rattle.refusal.specs.Refusals.{NO_POSITION, NO_LINE, DOES_NOT_FIT}
use Rattle.position.specs.declared.File.{File}
use Rattle.position.specs.declared.Position.{Position}
use Rattle.position.specs.Lines.{line_start, position_at}
use Rattle.position.specs.Place.{in_range, fitting, starts}

-- base + offset, of an offset up to the size
unfoldable pub pos_of : File → ℕ → Outcome ℕ
pos_of f o = cond (in_range f) (cond (leb o f.size) (gave (f.base + o)) (refused NO_POSITION)) (refused DOES_NOT_FIT)

-- the place of a position between base and base + size
unfoldable pub position_of : File → List ℕ → ℕ → Outcome Position
position_of f table p =
    cond (fitting f table)
    (cond (between f.base p (f.base + f.size)) (gave (position_at (starts f table) (p - f.base))) (refused NO_POSITION))
    (refused DOES_NOT_FIT)

-- the position at which a line starts, if that is not above the offset o, up to which the text has
-- been read
unfoldable pub line_start_of : File → List ℕ → ℕ → ℕ → Outcome ℕ
line_start_of f table line o =
    cond (fitting f table && leb o f.size)
    (cond (between 1 line f.lines)
    (cond (leb (line_start table line) o) (gave (f.base + line_start table line)) (refused DOES_NOT_FIT))
    (refused NO_LINE))
    (refused DOES_NOT_FIT)
