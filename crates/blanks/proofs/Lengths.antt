-- Laws of how many blanks are skipped: they are a run, its bound, and more text after it.
use Prim.Native.Nat.{ℕ, suc, ◌+◌, ◌≤◌}
use mathlib.Core.Path.{◌≡◌, refl, sym, ap}
use mathlib.Core.Bool.{Bool, true, false, cond}
use mathlib.Core.List.{List, [], ◌∷◌, ◌++◌}
use mathlib.Core.Logic.{◌≢◌}
use native.Mathlib.Omega.{arith}
use native.Mathlib.Nat.{zero-add}
use lib.ListN.{length, take, drop, length-drop}
use Rattle.basics.proofs.Choice.{cond_ind}
use Rattle.utf8.specs.declared.Char.{Char}
use Rattle.utf8.specs.Chars.{chars, widths}
use Rattle.utf8.proofs.Ends.{Ends}
use Rattle.utf8.proofs.Runs.{Run, run_bound, run_widths, run_place, run_local}
use Rattle.blanks.specs.Blank.{is_space, is_blank, Skip, nothing, before, skip}
use Rattle.blanks.proofs.Blanks.{blank_high}

-- blanks are the longest run of characters that are blank
pub skip_run : (mark : Bool) → Run (is_blank mark) (λ r. (skip mark r).len)
unfolding skip
skip_run mark = record { none = refl; next = λ c r. cond_ind (λ (x : Skip). x.len ≡ cond (is_blank mark c.code) (suc (skip mark r).len) 0) (is_blank mark c.code) _ _ (λ e. rw e) (λ e. rw e) }

pub skip_bound : (mark : Bool) (r : List Char) → (skip mark r).len ≤ length r
skip_bound mark r = run_bound (skip_run mark) r

-- blanks take a byte each, and the place after them is that many bytes on
pub skip_widths : (mark : Bool) (s : List ℕ) (p : ℕ) → widths (take (skip mark (chars (drop p s))).len (chars (drop p s))) ≡ (skip mark (chars (drop p s))).len
skip_widths mark = run_widths (skip_run mark) (blank_high mark)

pub skip_place : (mark : Bool) (s : List ℕ) (p : ℕ) → drop (skip mark (chars (drop p s))).len (chars (drop p s)) ≡ chars (drop (p + (skip mark (chars (drop p s))).len) s)
skip_place mark = run_place (skip_run mark) (blank_high mark)

cons_nil : (c : Char) (r : List Char) → c ∷ r ≢ []
cons_nil c r e = let z : ◌≡◌ {A = ℕ} 0 1 = cc in omega arith

-- under the mark blanks stop at the last line feed at the latest
pub mark_stops : (r : List Char) → Ends r → drop (skip true r).len r ≢ []
mark_stops r h e =
    let l = (run_local (skip_run true) (unfold is_blank is_space in refl) r [] h).1 in
    omega (arith, l, length-drop (skip true r).len r, ap length e)

-- blanks that do not reach the end are the same with more after it
pub skip_inside : (mark : Bool) (r t : List Char) → drop (skip mark r).len r ≢ [] → skip mark (r ++ t) ≡ skip mark r
unfolding skip
skip_inside mark [] t h = absurd (h refl)
skip_inside mark (c ∷ r) t h = go (is_blank mark c.code) (skip_inside mark r t) h
  where
    go : (b : Bool) → (drop (skip mark r).len r ≢ [] → skip mark (r ++ t) ≡ skip mark r) → drop (cond b (before c.code (skip mark r)) nothing).len (c ∷ r) ≢ []
        → cond b (before c.code (skip mark (r ++ t))) nothing ≡ cond b (before c.code (skip mark r)) nothing
    go true ih k = ap (before c.code) (ih k)
    go false ih k = refl

-- those that do go on
pub skip_over : (mark : Bool) (r t : List Char) → drop (skip mark r).len r ≡ [] → (skip mark (r ++ t)).len ≡ length r + (skip mark t).len
unfolding skip
skip_over mark [] t h = sym (zero-add (skip mark t).len)
skip_over mark (c ∷ r) t h = go (is_blank mark c.code) (skip_over mark r t) h
  where
    go : (b : Bool) → (drop (skip mark r).len r ≡ [] → (skip mark (r ++ t)).len ≡ length r + (skip mark t).len) → drop (cond b (before c.code (skip mark r)) nothing).len (c ∷ r) ≡ []
        → (cond b (before c.code (skip mark (r ++ t))) nothing).len ≡ suc (length r) + (skip mark t).len
    go true ih k = omega (arith, ih k)
    go false ih k = absurd (cons_nil c r k)
