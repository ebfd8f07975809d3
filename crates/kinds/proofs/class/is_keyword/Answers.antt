-- The kinds of the class are those from BREAK to VAR: at all 256 numbers by computation.
use Prim.Native.Nat.{ℕ, ◌<◌}
use mathlib.Core.Path.{◌≡◌, sym, ◌∙◌}
use borrow.Author.Rules.{rules}
use Rattle.basics.specs.Between.{between}
use Rattle.kinds.specs.Kinds.{BREAK, VAR}
use Rattle.kinds.specs.Table.{is_keyword, row_of, table, specials, operators, keywords}
use Rattle.kinds.proofs.Ranges.{same_tests}
use Rattle.kinds.proofs.class.is_keyword.Goals as goal

range : (k : ℕ) → k < 256 → is_keyword k ≡ between BREAK k VAR
unfolding row_of table specials operators keywords
range k h = same_tests is_keyword (λ m. between BREAK m VAR) tt k h

pub returns : goal.returns
returns c =
    let e = rw (c.new.ensures.start, c.new.ensures.end, c.new.ensures.exhausted) at c.contains.ensures.value in
    let d : c.contains.result ≡ between BREAK c.args.kind VAR = search rules in
    d ∙ sym (range _ (search rules))
