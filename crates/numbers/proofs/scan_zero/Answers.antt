-- `numbers::scan_zero` meets its contract: each arm is a case of the definition.
use Prim.Native.Nat.{ℕ, ◌+◌, ◌<◌}
use Prim.Native.Char.{code}
use mathlib.Core.Path.{◌≡◌, refl, sym, ap, ◌∙◌}
use lib.Dec.{lit<}
use lib.ListN.{drop}
use borrow.Author.Tests.{ne_eqb}
use Rattle.utf8.specs.Chars.{chars}
use Rattle.errors.specs.Numbers.{BAD_BINARY, BAD_OCTAL, BAD_HEXADECIMAL}
use Rattle.numbers.specs.declared.Spelling.{Spelling}
use Rattle.numbers.specs.declared.Spelling.TheVariants.{AsRead, LowerPrefix}
use Rattle.numbers.specs.Number.{after_chars, prefixed, zero_by, is_bare_octal, bare_zero, leading_zero, number_at}
use Rattle.digits.proofs.First.{rest_all}
use Rattle.numbers.proofs.Numerals.{zero_is, zero_prefix, bare_octal, bare_decimal}
use borrow.Author.Rules.{rules}
use Rattle.numbers.proofs.scan_zero.Goals as goal
use Rattle.numbers.proofs.scan_zero.Goals.{After-byte-b, After-is_bare_octal}

-- the byte after the 0 is a prefix's letter x
with_prefix : (c : After-byte-b) (x : ℕ) → c.byte-b.result ≡ x → 0 < x → x < 0x80 → (base error : ℕ) (sp : Spelling)
    → let a = c.args in
    let r = chars (drop a.at a.src.now) in
    zero_by x r ≡ after_chars 2 (prefixed base error sp (drop 2 r))
    → number_at (a.at + 2) (prefixed base error sp (chars (drop (a.at + 2) a.src.now))) ≡ number_at a.at (leading_zero r)
with_prefix c x e l h base error sp z =
    let a = c.args in
    let y = sym c.byte-b.ensures ∙ e in
    let zero = c.requires in
    sym (ap (number_at a.at) (zero_is a.src.now a.at zero ∙ ap (λ b. zero_by b (chars (drop a.at a.src.now))) y ∙ z)
    ∙ zero_prefix a.src.now a.at zero x y l h base error sp)

pub returns-in-120 : goal.returns-in-120
returns-in-120 c = c.scan_prefixed.ensures ∙ with_prefix (goal.at.returns-in-120 c).After-byte-b (code "x") c.in-120.is (lit< tt) (lit< tt) 16 BAD_HEXADECIMAL AsRead refl

pub returns-in-88 : goal.returns-in-88
returns-in-88 c = c.scan_prefixed-in-88.ensures ∙ with_prefix (goal.at.returns-in-88 c).After-byte-b (code "X") c.in-88.is (lit< tt) (lit< tt) 16 BAD_HEXADECIMAL LowerPrefix refl

pub returns-in-111 : goal.returns-in-111
returns-in-111 c = c.scan_prefixed-in-111.ensures ∙ with_prefix (goal.at.returns-in-111 c).After-byte-b (code "o") c.in-111.is (lit< tt) (lit< tt) 8 BAD_OCTAL AsRead refl

pub returns-in-79 : goal.returns-in-79
returns-in-79 c = c.scan_prefixed-in-79.ensures ∙ with_prefix (goal.at.returns-in-79 c).After-byte-b (code "O") c.in-79.is (lit< tt) (lit< tt) 8 BAD_OCTAL LowerPrefix refl

pub returns-in-98 : goal.returns-in-98
returns-in-98 c = c.scan_prefixed-in-98.ensures ∙ with_prefix (goal.at.returns-in-98 c).After-byte-b (code "b") c.in-98.is (lit< tt) (lit< tt) 2 BAD_BINARY AsRead refl

pub returns-in-66 : goal.returns-in-66
returns-in-66 c = c.scan_prefixed-in-66.ensures ∙ with_prefix (goal.at.returns-in-66 c).After-byte-b (code "B") c.in-66.is (lit< tt) (lit< tt) 2 BAD_BINARY LowerPrefix refl

-- the byte is none of these
by_default : (c : After-is_bare_octal) → let r = chars (drop c.args.at c.args.src.now) in leading_zero r ≡ bare_zero r
by_default c =
    let b = c.byte-b.result in
    zero_is c.args.src.now c.args.at c.requires
    ∙ rw (← c.byte-b.ensures, ne_eqb b 120 (search rules), ne_eqb b 88 (search rules), ne_eqb b 111 (search rules), ne_eqb b 79 (search rules), ne_eqb b 98 (search rules), ne_eqb b 66 (search rules))

octal_test : (c : After-is_bare_octal) → is_bare_octal (chars (drop c.args.at c.args.src.now)) ≡ c.is_bare_octal.result
octal_test c =
    let a = c.args in
    ap (λ t. is_bare_octal (chars t)) (sym (rest_all a.at a.src.now)) ∙ sym c.is_bare_octal.ensures

pub returns-in_default : goal.returns-in_default
returns-in_default c =
    let a = c.args in
    c.scan_prefixed-in_default.ensures
    ∙ sym (ap (number_at a.at) (by_default (goal.at.returns-in_default c).After-is_bare_octal) ∙ bare_octal a.src.now a.at c.requires (octal_test (goal.at.returns-in_default c).After-is_bare_octal ∙ c.if-is_bare_octal.true))

pub returns-in_default-2 : goal.returns-in_default-2
returns-in_default-2 c =
    let a = c.args in
    c.scan_decimal.ensures
    ∙ sym (ap (number_at a.at) (by_default (goal.at.returns-in_default-2 c).After-is_bare_octal) ∙ bare_decimal a.src.now a.at c.requires (octal_test (goal.at.returns-in_default-2 c).After-is_bare_octal ∙ c.if-is_bare_octal.false))
