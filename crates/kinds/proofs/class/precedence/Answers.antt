-- The arms are ranges of kinds; on each the definition has one value, by computation.
use mathlib.Core.Path.{◌≡◌, sym}
use Prim.Native.Nat.{ℕ, ◌≤◌, ◌<◌, ◌+◌}
use native.Mathlib.Omega.{arith}
use native.Mathlib.Decide.{dec_lt}
use lib.Dec.{T, eqb}
use Rattle.basics.proofs.Every.{below}
use Rattle.kinds.specs.Kinds.{NONE, ADD, MUL, OR, SHL, ADD_ASSIGN, LAND, LOR, ARROW, EQL, ASSIGN, NEQ, DEFINE}
use Rattle.kinds.specs.Precedence.{precedence_of}
use Rattle.kinds.proofs.Ranges.{value_within}
use Rattle.kinds.proofs.Tags.{kind_tag}
use Rattle.kinds.proofs.class.precedence.Goals as goal

level : (v lo n : ℕ) → T (below (λ j. eqb v (precedence_of (lo + j))) n) → (k : ℕ) → lo ≤ k → k < lo + n → v ≡ precedence_of k
level = value_within precedence_of

-- between the operations and the comparisons only LAND and LOR have a level
middle : (k : ℕ) → ADD_ASSIGN ≤ k → k < EQL → (k ≡ LAND → ⊥) → (k ≡ LOR → ⊥) → 0 ≡ precedence_of k
unfolding precedence_of
middle k l h a b =
    elim (dec_lt k LAND) [
      | yes u ↦ level 0 ADD_ASSIGN 11 tt k l u
      | no u ↦ level 0 ARROW 3 tt k (omega arith) h
    ]

pub returns-in-Ok-Lor : goal.returns-in-Ok-Lor
unfolding precedence_of
returns-in-Ok-Lor c = let e = rw c.in-Ok-Lor.field-0-is at c.in-Ok-Lor.ensures in rw (sym e)

pub returns-in-Ok-Land : goal.returns-in-Ok-Land
unfolding precedence_of
returns-in-Ok-Land c = let e = rw c.in-Ok-Land.field-0-is at c.in-Ok-Land.ensures in rw (sym e)

pub returns-in-Ok-Eql : goal.returns-in-Ok-Eql
unfolding precedence_of
returns-in-Ok-Eql c =
    let t = kind_tag c.in-Ok-Eql.field-0 in
    let e = c.in-Ok-Eql.ensures in
    elim (dec_lt c.args.kind ASSIGN) [
      | yes u ↦ level 3 EQL 3 tt c.args.kind (omega arith) u
      | no u ↦ level 3 NEQ 3 tt c.args.kind (omega arith) (omega arith)
    ]

pub returns-in-Ok-Add : goal.returns-in-Ok-Add
unfolding precedence_of
returns-in-Ok-Add c =
    let t = kind_tag c.in-Ok-Add.field-0 in
    let e = c.in-Ok-Add.ensures in
    elim (dec_lt c.args.kind MUL) [
      | yes u ↦ level 4 ADD 2 tt c.args.kind (omega arith) u
      | no u ↦ level 4 OR 2 tt c.args.kind (omega arith) (omega arith)
    ]

pub returns-in-Ok-Mul : goal.returns-in-Ok-Mul
unfolding precedence_of
returns-in-Ok-Mul c =
    let t = kind_tag c.in-Ok-Mul.field-0 in
    let e = c.in-Ok-Mul.ensures in
    elim (dec_lt c.args.kind OR) [
      | yes u ↦ level 5 MUL 4 tt c.args.kind (omega arith) u
      | no u ↦ level 5 SHL 3 tt c.args.kind (omega arith) (omega arith)
    ]

pub returns-in_default : goal.returns-in_default
unfolding precedence_of
returns-in_default c =
    let k = c.args.kind in
    let t = kind_tag c.in_default.field-0 in
    let e = rw c.in_default.is at c.try_from.ensures in
    elim (dec_lt k ADD) [
      | yes u ↦ level 0 NONE 10 tt k (omega arith) u
      | no u ↦ elim (dec_lt k EQL) [
        | yes v ↦ middle k (grind arith) v (λ q. grind arith) (λ q. grind arith)
        | no v ↦ elim (dec_lt k NEQ) [
          | yes w ↦ level 0 ASSIGN 2 tt k (grind arith) w
          | no w ↦ level 0 DEFINE 211 tt k (grind arith) (omega arith)
        ]
      ]
    ]

pub returns-in_default-2 : goal.returns-in_default-2
unfolding precedence_of
returns-in_default-2 c =
    let e = rw c.in_default.is at c.try_from.ensures in
    level 0 DEFINE 211 tt c.args.kind (omega arith) (omega arith)
