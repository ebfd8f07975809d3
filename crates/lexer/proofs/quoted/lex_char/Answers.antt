-- `lexer::quoted::lex_char` meets its contract: by whether the body is closed, and has one character.
use Prim.Native.Nat.{suc, ◌^◌, ◌≤◌, ◌<◌}
use mathlib.Core.Path.{refl, sym, ap, ◌∙◌}
use mathlib.Core.Bool.{not}
use mathlib.Core.Logic.{inr}
use native.Mathlib.Omega.{arith}
use Rattle.quotes.specs.Body.{quoted_said}
use Rattle.lexer.proofs.QuotedTokens.{literal_room, char_open, char_none, char_one}
use Rattle.lexer.proofs.quoted.lex_char.Goals as goal
use Rattle.lexer.proofs.quoted.lex_char.Goals.{After-char_body-q}

room : (c : After-char_body-q) → (c.args.at ≤ c.char_body-q.result.end) × (suc c.char_body-q.result.content.chars < 2 ^ 64)
room c =
    literal_room 39 (inr refl) c.args.src.now c.args.at c.requires (quoted_said c.char_body-q.result) c.char_body-q.ensures
    (omega (arith, c.well_formed.0.1))

pub literal-requires : goal.literal-requires
literal-requires c = room (goal.at.literal-requires c).After-char_body-q

pub returns-then-is_some : goal.returns-then-is_some
returns-then-is_some c =
    let q = c.char_body-q in
    rw c.literal.ensures
    (char_open c.args.src.now c.args.at c.requires (quoted_said q.result) q.ensures (ap not (sym c.is_some.ensures ∙ c.if-is_some.true)) q.result.error refl)

pub literal-requires-then-q-ne1 : goal.literal-requires-then-q-ne1
literal-requires-then-q-ne1 c = room (goal.at.literal-requires-then-q-ne1 c).After-char_body-q

pub returns-then-q-ne1 : goal.returns-then-q-ne1
returns-then-q-ne1 c =
    let q = c.char_body-q in
    rw c.literal-then-q-ne1.ensures
    (char_none c.args.src.now c.args.at c.requires (quoted_said q.result) q.ensures (ap not (sym c.is_some.ensures ∙ c.if-is_some.false)) c.if-q-ne1.true)

pub literal-requires-2 : goal.literal-requires-2
literal-requires-2 c = room (goal.at.literal-requires-2 c).After-char_body-q

pub returns : goal.returns
returns c =
    let q = c.char_body-q in
    rw c.literal-2.ensures
    (char_one c.args.src.now c.args.at c.requires (quoted_said q.result) q.ensures (ap not (sym c.is_some.ensures ∙ c.if-is_some.false)) c.if-q-ne1.false)
