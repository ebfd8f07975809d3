-- `numbers::scan_number` meets its contract: by the kind, and the byte after the number.
use mathlib.Core.Path.{sym, ap, ◌∙◌}
use mathlib.Core.Path.{◌≡◌}
use lib.ListN.{get_or}
use lib.Dec.{eqb}
use borrow.Author.Tests.{eqb-true, eqb-false}
use Rattle.kinds.specs.Kinds.{ILLEGAL}
use Rattle.kinds.specs.Number.{kind_number}
use Rattle.kinds.specs.declared.kind.Kind.TheVariants.{Illegal}
use Rattle.kinds.proofs.Tags.{same_kinds}
use Rattle.numbers.specs.Number.{NumberSaid}
use Rattle.numbers.proofs.Placed.{number_illegal, number_imaginary, number_other}
use Rattle.numbers.proofs.scan_number.Goals as goal
use Rattle.numbers.proofs.scan_number.Goals.{After-eq}

-- what the code tests of the kind
kind_test : (c : After-eq) → c.eq.result ≡ eqb (kind_number c.scan_number_without_i-n.result.kind) ILLEGAL
kind_test c = c.eq.ensures ∙ same_kinds c.scan_number_without_i-n.result.kind Illegal

pub returns-then-eq : goal.returns-then-eq
returns-then-eq c =
    let r = c.scan_number_without_i-n in
    let a = c.args in
    let k = ap (λ (x : NumberSaid). x.kind) r.ensures in
    let t = eqb-true (kind_number r.result.kind) ILLEGAL (sym (kind_test (goal.at.returns-then-eq c).After-eq) ∙ c.if-eq.true) in
    r.ensures ∙ sym (number_illegal a.src.now a.at (sym k ∙ t))

pub returns-then-byte-eq105 : goal.returns-then-byte-eq105
returns-then-byte-eq105 c =
    let r = c.scan_number_without_i-n in
    let a = c.args in
    let k = ap (λ (x : NumberSaid). x.kind) r.ensures in
    let e = ap (λ (x : NumberSaid). x.end) r.ensures in
    let s = ap (λ (x : NumberSaid). x.spelling) r.ensures in
    let f = eqb-false (kind_number r.result.kind) ILLEGAL (sym (kind_test (goal.at.returns-then-byte-eq105 c).After-eq) ∙ c.if-eq.false) in
    let b = sym (ap (λ p. get_or a.src.now p 0) e) ∙ sym c.byte.ensures ∙ c.if-byte-eq105.true in
    c.good.ensures ∙ rw (e, s) (sym (number_imaginary a.src.now a.at (λ z. f (k ∙ z)) b))

pub returns : goal.returns
returns c =
    let r = c.scan_number_without_i-n in
    let a = c.args in
    let k = ap (λ (x : NumberSaid). x.kind) r.ensures in
    let e = ap (λ (x : NumberSaid). x.end) r.ensures in
    let f = eqb-false (kind_number r.result.kind) ILLEGAL (sym (kind_test (goal.at.returns c).After-eq) ∙ c.if-eq.false) in
    r.ensures
    ∙ sym (number_other a.src.now a.at (λ z. f (k ∙ z))
    (λ z. c.if-byte-eq105.false (c.byte.ensures ∙ ap (λ p. get_or a.src.now p 0) e ∙ z)))
