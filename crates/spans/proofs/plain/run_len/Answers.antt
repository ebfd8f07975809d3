-- `spans::plain::run_len` meets its contract: each byte is marked by itself.
use mathlib.Core.Path.{sym, ◌∙◌}
use native.Mathlib.Omega.{arith}
use borrow.Author.Tests.{leb-true}
use Rattle.spans.proofs.Marks.{run_of_eight}
use Rattle.spans.proofs.plain.run_len.Goals as goal

pub returns : goal.returns
returns c =
    let a = c.args in
    let fit = leb-true _ _ (sym c.has_eight.ensures ∙ c.if-not-has_eight.false) in (
      rw c.before_mark.ensures (run_of_eight a.stop a.src.now (λ i. (c.type_inv.src i).fits) a.at c.eight-eight.result c.mark_between-controls.result c.mark_byte.result c.mark_high.result
          c.eight-eight.ensures c.mark_between-controls.ensures c.mark_byte.ensures c.mark_high.ensures fit),
      λ h. omega (arith, fit),
    )
