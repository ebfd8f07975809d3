-- `lexer::quoted::lex_string` meets its contract: by whether the body is closed.
use Prim.Native.Nat.{suc, ◌^◌, ◌≤◌, ◌<◌}
use mathlib.Core.Path.{refl, sym, ap, ◌∙◌}
use mathlib.Core.Bool.{not}
use mathlib.Core.Logic.{inl}
use native.Mathlib.Omega.{arith}
use Rattle.quotes.specs.Body.{quoted_said}
use Rattle.lexer.proofs.QuotedTokens.{literal_room, string_open, string_closed}
use Rattle.lexer.proofs.quoted.lex_string.Goals as goal
use Rattle.lexer.proofs.quoted.lex_string.Goals.{After-string_body-q}

room : (c : After-string_body-q) → (c.args.at ≤ c.string_body-q.result.end) × (suc c.string_body-q.result.content.chars < 2 ^ 64)
room c =
    literal_room 34 (inl refl) c.args.src.now c.args.at c.requires (quoted_said c.string_body-q.result) c.string_body-q.ensures
    (omega (arith, c.well_formed.0.1))

pub literal-requires : goal.literal-requires
literal-requires c = room (goal.at.literal-requires c).After-string_body-q

pub returns-then-is_some : goal.returns-then-is_some
returns-then-is_some c =
    let q = c.string_body-q in
    rw c.literal.ensures
    (string_open c.args.src.now c.args.at c.requires (quoted_said q.result) q.ensures (ap not (sym c.is_some.ensures ∙ c.if-is_some.true)) q.result.error refl)

pub literal-x-requires : goal.literal-x-requires
literal-x-requires c = room (goal.at.literal-x-requires c).After-string_body-q

pub returns : goal.returns
returns c =
    let q = c.string_body-q in
    rw c.literal-x.ensures
    (string_closed c.args.src.now c.args.at c.requires (quoted_said q.result) q.ensures (ap not (sym c.is_some.ensures ∙ c.if-is_some.false)))
