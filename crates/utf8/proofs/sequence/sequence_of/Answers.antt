-- `utf8::sequence_of` meets its contract: the announced length says which row of the table is left, and each call answers one of its tests.
use mathlib.Core.Path.{refl, sym, ◌∙◌}
use native.Mathlib.Omega.{arith}
use Rattle.utf8.proofs.Bytes.{picks, lead, sequence_one, sequence_at_zero, sequence_at_two, sequence_at_three, sequence_at_four}
use Rattle.utf8.proofs.sequence.sequence_of.Goals as goal

pub returns-then-n-eq1 : goal.returns-then-n-eq1
returns-then-n-eq1 c = sym (sequence_one _ _ _ _ ((lead c.args.a).one (sym c.sequence_len-n.ensures ∙ c.if-n-eq1.true)))

pub returns-then-n-eq2 : goal.returns-then-n-eq2
returns-then-n-eq2 c =
    let x = c.args in
    c.choose-then-n-eq2.ensures ∙ picks c.within.ensures (c.choose.ensures ∙ picks c.follows.ensures refl)
    ∙ sym (sequence_at_two x.a x.b x.c x.d (sym c.sequence_len-n.ensures ∙ c.if-n-eq2.true))

pub returns-then-n-eq3 : goal.returns-then-n-eq3
returns-then-n-eq3 c =
    let x = c.args in
    c.choose-then-n-eq3-2.ensures ∙ picks c.second_of.ensures (c.choose-then-n-eq3.ensures ∙ picks c.follows-then-n-eq3.ensures refl)
    ∙ sym (sequence_at_three x.a x.b x.c x.d (sym c.sequence_len-n.ensures ∙ c.if-n-eq3.true))

pub returns-then-n-eq4 : goal.returns-then-n-eq4
returns-then-n-eq4 c =
    let x = c.args in
    c.choose-then-n-eq4-4.ensures ∙ picks c.within-then-n-eq4.ensures (c.choose-then-n-eq4-3.ensures ∙ picks c.second_of-then-n-eq4.ensures
    (c.choose-then-n-eq4-2.ensures ∙ picks c.follows-then-n-eq4.ensures (c.choose-then-n-eq4.ensures ∙ picks c.follows-then-n-eq4-2.ensures refl)))
    ∙ sym (sequence_at_four x.a x.b x.c x.d (sym c.sequence_len-n.ensures ∙ c.if-n-eq4.true))

pub returns : goal.returns
returns c =
    let x = c.args in
    let l = lead x.a in
    let m = l.most in
    let q = c.sequence_len-n.ensures in
    sym (sequence_at_zero x.a x.b x.c x.d (omega arith))
