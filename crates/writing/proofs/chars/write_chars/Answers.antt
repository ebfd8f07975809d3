use Prim.Native.Nat.{ℕ, ◌+◌, ◌-◌, ◌≤◌, ◌<◌}
use mathlib.Core.Path.{◌≡◌, ap, ◌∙◌}
use mathlib.Core.List.{◌++◌, append_assoc}
use native.Mathlib.Omega.{arith}
use lib.Seq.{sets}
use Rattle.utf8.specs.Chars.{encode}
use Rattle.utf8.proofs.First.{there_fits}
use Rattle.writing.proofs.Areas.{left_as_with_rest}
use Rattle.writing.proofs.Texts.{text_at, text_none, text_end, text_kept, text_dropped}
use Rattle.writing.proofs.chars.write_chars.Goals as goal
use Rattle.writing.proofs.chars.write_chars.Goals.{then-crs-is_cr, else-crs-is_cr}

pub returns-then-src-p : goal.returns-then-src-p
returns-then-src-p c =
    let a = c.args in
    left_as_with_rest c.loop-k.area c.loop-k.n (text_end a.crs (a.count - c.loop-k._k) a.src.now c.loop-k.p c.if-src-p.true) c.loop-k.invariant

pub overflow_add-p : goal.overflow_add-p
overflow_add-p c =
    let x = c.char_at-c in
    omega (arith, there_fits _ _ x.result c.if-src-p.false x.ensures, c.well_formed.0.1)

-- one character less is left
less : (count k : ℕ) → count - k - 1 ≡ count - (k + 1)
less count k = omega arith

pub loop-k-preserved : goal.loop-k-preserved
loop-k-preserved c =
    let a = c.args in
    let l = c.loop-k in
    let x = c.char_at-c in
    let some : 0 < a.count - l._k = omega arith in
    elim c.if-crs-is_cr.branch [
      | then-crs-is_cr w ↦
          let e = text_kept a.crs (a.count - l._k) a.src.now l.p x.result some c.if-src-p.false x.ensures w.if-crs-is_cr.true in
          let after = text_at a.crs (a.count - (l._k + 1)) a.src.now (l.p + x.result.width) in
          rw (w.area-is, w.n-is)
          (λ rest. left_as_with_rest l.area l.n (rw less at e) l.invariant rest ∙ ap (sets l.area l.n) (append_assoc (encode x.result.code) after rest) ∙ w.put_code-n.ensures (after ++ rest))
      | else-crs-is_cr w ↦
          let e = text_dropped a.crs (a.count - l._k) a.src.now l.p x.result some c.if-src-p.false x.ensures w.if-crs-is_cr.false in
          rw (w.area-is, w.n-is) (left_as_with_rest l.area l.n (rw less at e) l.invariant)
    ]

pub returns : goal.returns
returns c =
    let a = c.args in
    let none : a.count - c.loop-k._k ≤ 0 = omega arith in
    left_as_with_rest c.loop-k.area c.loop-k.n (text_none a.crs (a.count - c.loop-k._k) a.src.now c.loop-k.p none) c.loop-k.invariant
