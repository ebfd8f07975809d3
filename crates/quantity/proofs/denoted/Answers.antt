-- `quantity::denoted` meets its contract: by the base.
use mathlib.Core.Path.{◌≡◌, refl, sym, ap, ◌∙◌}
use mathlib.Core.Bool.{false}
use lib.Dec.{eqb}
use Rattle.digits.specs.declared.Base.{Base}
use Rattle.digits.specs.declared.Base.TheVariants.{Binary, Octal, Decimal, Hexadecimal}
use Rattle.quantity.specs.Text.{digits_of, base_of, denoted}
use Rattle.digits.specs.Base.{base_number}
use Rattle.quantity.specs.Whole.{capped}
use Rattle.quantity.proofs.Values.{whole_denotes}
use Rattle.quantity.proofs.denoted.Goals as goal

-- any base but ten
not_ten : (b : Base) → (b ≡ Decimal → ⊥) → eqb (base_number b) 10 ≡ false
not_ten Binary k = refl
not_ten Octal k = refl
not_ten Decimal k = absurd (k refl)
not_ten Hexadecimal k = refl

pub returns-in-Decimal : goal.returns-in-Decimal
unfolding denoted
returns-in-Decimal c =
    let ten : base_of c.args.text.now ≡ 10 = sym c.base_of.ensures ∙ ap base_number c.in-Decimal.is in
    rw ten c.decimal.ensures

pub returns-in_default : goal.returns-in_default
unfolding denoted
returns-in_default c =
    let text = c.args.text.now in
    let other : eqb (base_of text) 10 ≡ false = ap (λ n. eqb n 10) (sym c.base_of.ensures) ∙ not_ten c.base_of.result c.in_default.not-Decimal in
    rw other
    (c.as_whole.ensures _ _ (c.whole_number.ensures ∙ ap (λ n. capped (digits_of n text)) c.base_of.ensures) (whole_denotes (base_of text) text))
