use Prim.Native.Nat.{ℕ, ◌/◌, ◌^◌}
use mathlib.Core.Path.{◌≡◌, sym, ap, ◌∙◌}
use mathlib.Core.Bool.{Bool, not}
use native.Mathlib.Omega.{arith}
use borrow.Author.Tests.{not-true, not-false, eq-eqb, ne_eqb}
use lib.Bits.{bit_and}
use lib.Dec.{eqb}
use lib.ListN.{get_or, drop}
use Rattle.utf8.specs.Chars.{chars}
use Rattle.blanks.specs.Blank.{is_blank, skip}
use Rattle.blanks.proofs.Blanks.{joined_start, blank_above, bits, bits_say, step_end, step_none, step_space, step_feed}
use Rattle.blanks.proofs.skip_bytes.Goals as goal
use Rattle.blanks.proofs.skip_bytes.Goals.{Else-b-gt32, else-mark, then-mark, then-b-eq10, else-b-eq10}

pub loop-end-init : goal.loop-end-init
loop-end-init c =
    let a = c.args in
    record { few = omega arith; inside = omega arith; same = joined_start a.at (skip a.mark (chars (drop a.at a.src.now))) }

pub returns-then-b-gt32 : goal.returns-then-b-gt32
returns-then-b-gt32 c =
    let a = c.args in
    sym (c.loop-end.invariant.same ∙ step_none a.mark a.src.now c.loop-end.end c.loop-end.lfs c.loop-end.line (blank_above a.mark _ c.if-b-gt32.true))

-- the number whose bits are tested
number : (c : Else-b-gt32) → c.if-mark.blanks ≡ bits c.args.mark
number c = elim c.if-mark.branch [ then-mark w ↦ rw (w.blanks-is, w.if-mark.true) | else-mark w ↦ rw (w.blanks-is, w.if-mark.false) ]

-- and the bit that was tested says whether the byte is blank
module _ (c : Else-b-gt32) where
  abbrev mark : Bool
  mark = c.args.mark

  abbrev byte : ℕ
  byte = get_or c.args.src.now c.loop-end.end 0

  bit : eqb (bit_and (c.if-mark.blanks / 2 ^ byte) 1) 0 ≡ not (is_blank mark byte)
  bit = ap (λ x. eqb (bit_and (x / 2 ^ byte) 1) 0) (number c) ∙ bits_say mark byte (omega arith)

pub returns-then-blanks-b-eq0 : goal.returns-then-blanks-b-eq0
returns-then-blanks-b-eq0 c =
    let a = c.args in
    sym (c.loop-end.invariant.same ∙ step_none a.mark a.src.now c.loop-end.end c.loop-end.lfs c.loop-end.line (not-true _ (sym (bit (goal.at.returns-then-blanks-b-eq0 c).Else-b-gt32) ∙ eq-eqb _ _ c.if-blanks-b-eq0.true)))

pub loop-end-preserved : goal.loop-end-preserved
loop-end-preserved c =
    let l = c.loop-end in
    let s = c.args.src.now in
    let e = goal.at.loop-end-preserved c in
    let blank = not-false _ (sym (bit e.Else-b-gt32) ∙ ne_eqb _ _ c.if-blanks-b-eq0.false) in
    elim c.if-b-eq10.branch [
      | then-b-eq10 w ↦ record {
        few = omega (arith, l.invariant.few, w.lfs-is);
        inside = omega arith;
        same = rw (w.lfs-is, w.line-is) (l.invariant.same ∙ step_feed c.args.mark s l.end l.lfs l.line blank w.if-b-eq10.true);
      }
      | else-b-eq10 w ↦ record {
        few = omega (arith, l.invariant.few, w.lfs-is);
        inside = omega arith;
        same = rw (w.lfs-is, w.line-is) (l.invariant.same ∙ step_space c.args.mark s l.end l.lfs l.line blank w.if-b-eq10.false);
      }
    ]

pub returns : goal.returns
returns c =
    let l = c.loop-end in
    let e : c.max-end.result ≡ l.end = omega (arith, c.max-end.ensures, l.invariant.inside, l.auto.end, c.loop-end-test.false) in
    rw e (sym (l.invariant.same ∙ step_end c.args.mark c.args.src.now l.end l.lfs l.line c.loop-end-test.false))
