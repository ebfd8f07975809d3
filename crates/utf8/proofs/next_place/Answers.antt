-- `utf8::next_place` meets its contract: a byte of ASCII is a character, and past the end nothing is read.
use Prim.Native.Nat.{ℕ, ◌+◌, ◌≤◌}
use mathlib.Core.Path.{◌≡◌, ap, ◌∙◌}
use mathlib.Core.List.{List}
use native.Mathlib.Omega.{arith}
use native.Mathlib.Decide.{dec_lt}
use borrow.Author.Tests.{le-ltb}
use lib.ListN.{length}
use Rattle.utf8.specs.declared.Char.{Char}
use Rattle.utf8.specs.Chars.{char_at, ended}
use Rattle.utf8.proofs.First.{char_at_ascii, there_fits}
use Rattle.utf8.proofs.next_place.Goals as goal
use Rattle.utf8.proofs.next_place.Goals.{Then-at-s}

pub returns-then-s-at-lt128 : goal.returns-then-s-at-lt128
returns-then-s-at-lt128 c =
    let a = c.args in
    rw (char_at_ascii a.s.now a.at (goal.at.returns-then-s-at-lt128 c).Then-at-s.if-at-s.true c.if-s-at-lt128.true)

char_at_end : (s : List ℕ) (p : ℕ) → length s ≤ p → char_at s p ≡ ended
unfolding char_at
char_at_end s p h = simp (le-ltb _ _ h)

none_read : (s : List ℕ) (p : ℕ) (c : Char) → length s ≤ p → c ≡ char_at s p → c.width ≡ 0
none_read s p c h e = ap (λ (x : Char). x.width) (e ∙ char_at_end s p h)

pub overflow_add-result-2 : goal.overflow_add-result-2
overflow_add-result-2 c =
    let r = c.char_at in
    let x = c.args in
    elim (dec_lt x.at (length x.s.now)) [
      | yes h ↦ omega (arith, there_fits x.s.now x.at r.result h r.ensures)
      | no h ↦ omega (arith, none_read x.s.now x.at r.result (omega arith) r.ensures)
    ]

pub returns : goal.returns
returns c = ap (λ (x : Char). c.args.at + x.width) c.char_at.ensures
