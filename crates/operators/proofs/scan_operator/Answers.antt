-- `operators::scan_operator` meets its contract: an arm for each first code of the table; its rows are computed.
use Prim.Native.Nat.{ℕ, ◌+◌}
use Prim.Native.Char.{code}
use mathlib.Core.Path.{◌≡◌, refl, ap, ap₂, ◌∙◌}
use mathlib.Core.List.{List, [], ◌∷◌}
use lib.ListN.{get_or, drop}
use Rattle.basics.specs.Spelling.{spelled}
use Rattle.utf8.specs.Chars.{chars}
use Rattle.kinds.specs.Kinds.{ADD, ADD_ASSIGN, ASSIGN, COLON, COMMA, DEC, DEFINE, EQL, INC, LBRACE, LBRACK, LOR, LPAREN, MUL, MUL_ASSIGN, NEQ, NOT, OR, OR_ASSIGN, QUO, QUO_ASSIGN, RBRACE, RBRACK, REM, REM_ASSIGN, RPAREN, SEMICOLON, SUB, SUB_ASSIGN, XOR, XOR_ASSIGN}
use Rattle.kinds.specs.Table.{operators}
use Rattle.operators.specs.Longest.{OperatorSaid, op, no_operator, operator_of}
use Rattle.operators.specs.Steps.{switch2, switch3, less_by, greater_by, and_by, period_by}
use Rattle.operators.proofs.Leading.{among}
use Rattle.operators.proofs.Rows.{row, NotIn, one_is, switch2_is, switch2_last_is, switch3_is, less_is, greater_is, and_is, period_is, none_is, end_is}
use borrow.Author.Rules.{rules}
use Rattle.operators.proofs.scan_operator.Goals as goal
use Rattle.operators.proofs.scan_operator.Goals.{After-byte-b}

pub returns-then-src-at : goal.returns-then-src-at
returns-then-src-at c = let a = c.args in c.op.ensures ∙ end_is a.src.now a.at c.if-src-at.true

-- the first codes of the arms, the last arm first
abbrev firsts : List ℕ
firsts = spelled ";}]),{[(.&><:=!^%/*|-+"

-- ---- the laws of the first byte, where the next one was read
module _ (c : After-byte-b) where
  abbrev text : List ℕ
  text = c.args.src.now

  abbrev place : ℕ
  place = c.args.at

  abbrev found : OperatorSaid
  found = operator_of (chars (drop place text))

  module _ (a : ℕ) (e : get_or text place 0 ≡ a) where
    one_here : (k : ℕ) → among a operators ≡ row k (a ∷ []) ∷ [] → op k 1 ≡ found
    one_here = one_is text place a e

    switch2_here : (k l : ℕ) → among a operators ≡ row k (a ∷ []) ∷ row l (a ∷ code "=" ∷ []) ∷ [] → switch2 c.byte-b.result k l ≡ found
    switch2_here k l w = ap (λ b. switch2 b k l) c.byte-b.ensures ∙ switch2_is text place a e k l w

    switch2_last_here : (k l : ℕ) → among a operators ≡ row l (a ∷ code "=" ∷ []) ∷ row k (a ∷ []) ∷ [] → switch2 c.byte-b.result k l ≡ found
    switch2_last_here k l w = ap (λ b. switch2 b k l) c.byte-b.ensures ∙ switch2_last_is text place a e k l w

    switch3_here : (k l m x : ℕ) → among a operators ≡ row k (a ∷ []) ∷ row l (a ∷ code "=" ∷ []) ∷ row m (a ∷ x ∷ []) ∷ []
        → switch3 c.byte-b.result k l x m ≡ found
    switch3_here k l m x w = ap (λ b. switch3 b k l x m) c.byte-b.ensures ∙ switch3_is text place a e k l m x w

  less_here : (x : ℕ) → x ≡ get_or text (place + 1 + 1) 0 → get_or text place 0 ≡ code "<" → less_by c.byte-b.result x ≡ found
  less_here x t e = ap₂ less_by c.byte-b.ensures t ∙ less_is text place e

  greater_here : (x : ℕ) → x ≡ get_or text (place + 1 + 1) 0 → get_or text place 0 ≡ code ">" → greater_by c.byte-b.result x ≡ found
  greater_here x t e = ap₂ greater_by c.byte-b.ensures t ∙ greater_is text place e

  and_here : (x : ℕ) → x ≡ get_or text (place + 1 + 1) 0 → get_or text place 0 ≡ code "&" → and_by c.byte-b.result x ≡ found
  and_here x t e = ap₂ and_by c.byte-b.ensures t ∙ and_is text place e

  period_here : (x : ℕ) → x ≡ get_or text (place + 1 + 1) 0 → get_or text place 0 ≡ code "." → period_by c.byte-b.result x ≡ found
  period_here x t e = ap₂ period_by c.byte-b.ensures t ∙ period_is text place e

  none_here : NotIn (get_or text place 0) firsts → no_operator ≡ found
  unfolding operators
  none_here = none_is firsts tt text place

pub returns-in-43 : goal.returns-in-43
unfolding operators
returns-in-43 c = c.scan_switch3.ensures ∙ switch3_here (goal.at.returns-in-43 c).After-byte-b (code "+") c.in-43.is ADD ADD_ASSIGN INC (code "+") refl

pub returns-in-45 : goal.returns-in-45
unfolding operators
returns-in-45 c = c.scan_switch3-in-45.ensures ∙ switch3_here (goal.at.returns-in-45 c).After-byte-b (code "-") c.in-45.is SUB SUB_ASSIGN DEC (code "-") refl

pub returns-in-124 : goal.returns-in-124
unfolding operators
returns-in-124 c = c.scan_switch3-in-124.ensures ∙ switch3_here (goal.at.returns-in-124 c).After-byte-b (code "|") c.in-124.is OR OR_ASSIGN LOR (code "|") refl

pub returns-in-42 : goal.returns-in-42
unfolding operators
returns-in-42 c = c.scan_switch2.ensures ∙ switch2_here (goal.at.returns-in-42 c).After-byte-b (code "*") c.in-42.is MUL MUL_ASSIGN refl

pub returns-in-47 : goal.returns-in-47
unfolding operators
returns-in-47 c = c.scan_switch2-in-47.ensures ∙ switch2_here (goal.at.returns-in-47 c).After-byte-b (code "/") c.in-47.is QUO QUO_ASSIGN refl

pub returns-in-37 : goal.returns-in-37
unfolding operators
returns-in-37 c = c.scan_switch2-in-37.ensures ∙ switch2_here (goal.at.returns-in-37 c).After-byte-b (code "%") c.in-37.is REM REM_ASSIGN refl

pub returns-in-94 : goal.returns-in-94
unfolding operators
returns-in-94 c = c.scan_switch2-in-94.ensures ∙ switch2_here (goal.at.returns-in-94 c).After-byte-b (code "^") c.in-94.is XOR XOR_ASSIGN refl

pub returns-in-33 : goal.returns-in-33
unfolding operators
returns-in-33 c = c.scan_switch2-in-33.ensures ∙ switch2_here (goal.at.returns-in-33 c).After-byte-b (code "!") c.in-33.is NOT NEQ refl

pub returns-in-61 : goal.returns-in-61
unfolding operators
returns-in-61 c = c.scan_switch2-in-61.ensures ∙ switch2_last_here (goal.at.returns-in-61 c).After-byte-b (code "=") c.in-61.is ASSIGN EQL refl

pub returns-in-58 : goal.returns-in-58
unfolding operators
returns-in-58 c = c.scan_switch2-in-58.ensures ∙ switch2_last_here (goal.at.returns-in-58 c).After-byte-b (code ":") c.in-58.is COLON DEFINE refl

pub returns-in-60 : goal.returns-in-60
returns-in-60 c = c.scan_less.ensures ∙ less_here (goal.at.returns-in-60 c).After-byte-b _ c.byte.ensures c.in-60.is

pub returns-in-62 : goal.returns-in-62
returns-in-62 c = c.scan_greater.ensures ∙ greater_here (goal.at.returns-in-62 c).After-byte-b _ c.byte-in-62.ensures c.in-62.is

pub returns-in-38 : goal.returns-in-38
returns-in-38 c = c.scan_and.ensures ∙ and_here (goal.at.returns-in-38 c).After-byte-b _ c.byte-in-38.ensures c.in-38.is

pub returns-in-46 : goal.returns-in-46
returns-in-46 c = c.scan_period.ensures ∙ period_here (goal.at.returns-in-46 c).After-byte-b _ c.byte-in-46.ensures c.in-46.is

pub returns-in-40 : goal.returns-in-40
unfolding operators
returns-in-40 c = c.op-in-40.ensures ∙ one_here (goal.at.returns-in-40 c).After-byte-b (code "(") c.in-40.is LPAREN refl

pub returns-in-91 : goal.returns-in-91
unfolding operators
returns-in-91 c = c.op-in-91.ensures ∙ one_here (goal.at.returns-in-91 c).After-byte-b (code "[") c.in-91.is LBRACK refl

pub returns-in-123 : goal.returns-in-123
unfolding operators
returns-in-123 c = c.op-in-123.ensures ∙ one_here (goal.at.returns-in-123 c).After-byte-b (code "{") c.in-123.is LBRACE refl

pub returns-in-44 : goal.returns-in-44
unfolding operators
returns-in-44 c = c.op-in-44.ensures ∙ one_here (goal.at.returns-in-44 c).After-byte-b (code ",") c.in-44.is COMMA refl

pub returns-in-41 : goal.returns-in-41
unfolding operators
returns-in-41 c = c.op-in-41.ensures ∙ one_here (goal.at.returns-in-41 c).After-byte-b (code ")") c.in-41.is RPAREN refl

pub returns-in-93 : goal.returns-in-93
unfolding operators
returns-in-93 c = c.op-in-93.ensures ∙ one_here (goal.at.returns-in-93 c).After-byte-b (code "]") c.in-93.is RBRACK refl

pub returns-in-125 : goal.returns-in-125
unfolding operators
returns-in-125 c = c.op-in-125.ensures ∙ one_here (goal.at.returns-in-125 c).After-byte-b (code "}") c.in-125.is RBRACE refl

pub returns-in-59 : goal.returns-in-59
unfolding operators
returns-in-59 c = c.op-in-59.ensures ∙ one_here (goal.at.returns-in-59 c).After-byte-b (code ";") c.in-59.is SEMICOLON refl

pub returns-in_default : goal.returns-in_default
returns-in_default c = c.op-in_default.ensures ∙ none_here (goal.at.returns-in_default c).After-byte-b (search rules)
