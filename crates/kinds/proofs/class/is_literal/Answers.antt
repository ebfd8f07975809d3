-- The kinds of the class are those from IDENT to STRING: at all 256 numbers by computation.
use Prim.Native.Nat.{ℕ, ◌<◌}
use mathlib.Core.Path.{◌≡◌, sym, ◌∙◌}
use borrow.Author.Rules.{rules}
use Rattle.basics.specs.Between.{between}
use Rattle.kinds.specs.Kinds.{IDENT, STRING}
use Rattle.kinds.specs.Table.{is_literal, row_of, table, specials, operators, keywords}
use Rattle.kinds.proofs.Ranges.{same_tests}
use Rattle.kinds.proofs.class.is_literal.Goals as goal

range : (k : ℕ) → k < 256 → is_literal k ≡ between IDENT k STRING
unfolding row_of table specials operators keywords
range k h = same_tests is_literal (λ m. between IDENT m STRING) tt k h

pub returns : goal.returns
returns c =
    let e = rw (c.new.ensures.start, c.new.ensures.end, c.new.ensures.exhausted) at c.contains.ensures.value in
    let d : c.contains.result ≡ between IDENT c.args.kind STRING = search rules in
    d ∙ sym (range _ (search rules))
