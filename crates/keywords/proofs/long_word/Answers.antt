-- There are two long keywords, and no others.
use mathlib.Core.Bool.{false≢true}
use mathlib.Core.Path.{sym, ◌∙◌}
use Rattle.std.proofs.lemmas.Slice.Eq.{slice_eq-Decides}
use Rattle.std.proofs.lemmas.Bool.Decides.{Decides-eqb}
use Rattle.keywords.proofs.Words.{long_unknown, interface_named, fallthrough_named}
use Rattle.keywords.proofs.long_word.Goals as goal

pub returns-then-eq : goal.returns-then-eq
returns-then-eq c =
    interface_named _ ((slice_eq-Decides Decides-eqb _ _ _ c.eq.ensures).0 c.if-eq.true ∙ c.as_slice.ensures)

pub returns-then-eq-2 : goal.returns-then-eq-2
returns-then-eq-2 c =
    fallthrough_named _ ((slice_eq-Decides Decides-eqb _ _ _ c.eq-2.ensures).0 c.if-eq-2.true ∙ c.as_slice-2.ensures)

pub returns : goal.returns
returns c =
    long_unknown _ c.requires
    (λ e. absurd (false≢true (sym c.if-eq.false ∙ (slice_eq-Decides Decides-eqb _ _ _ c.eq.ensures).1 (e ∙ sym c.as_slice.ensures))))
    (λ e. absurd (false≢true (sym c.if-eq-2.false ∙ (slice_eq-Decides Decides-eqb _ _ _ c.eq-2.ensures).1 (e ∙ sym c.as_slice-2.ensures))))
