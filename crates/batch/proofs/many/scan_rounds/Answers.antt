-- `many::scan_rounds` meets its contract: rounds go on while each gives some token.
use Prim.Native.Nat.{◌/◌}
use mathlib.Core.Path.{ap, subst}
use borrow.Author.Rules.{rules}
use Rattle.std.specs.declared.ops.ControlFlow.TheVariants.{Break}
use Rattle.parts.specs.Layout.{token_width}
use Rattle.batch.specs.Run.{Comes}
use Rattle.batch.proofs.Rounds.{goes_behind, end_lined, end_all}
use Rattle.batch.proofs.many.scan_rounds.Goals as goal

pub loop-next-preserved : goal.loop-next-preserved
loop-next-preserved c =
    let i = c.loop-next.invariant in
    (search rules, goes_behind _ c.args.src.now i.1 (rw i.0 at c.in-Continue.ensures.0))

pub ended-requires : goal.ended-requires
ended-requires c = end_lined _ c.args.src.now _ _ _ _ _ c.in-Break.end _ _ _ _ c.in-Break.ensures

pub returns-in-Break : goal.returns-in-Break
returns-in-Break c =
    let a = c.args in
    let i = c.loop-next.invariant in
    let same = ap (λ n. n / token_width) i.0 in
    rw c.ended.ensures
    (end_all a.src.now a.first a.table.now a.list.now a.area.now a.tokens.now c.requires.1 i.1 c.in-Break.end _ _ _ _
    (subst (λ n. Comes n a.src.now c.loop-next.round c.loop-next.table c.loop-next.list c.loop-next.area c.loop-next.tokens (Break c.in-Break.end) c.scan_round.new.table c.scan_round.new.list c.scan_round.new.area c.scan_round.new.tokens) same c.in-Break.ensures))
