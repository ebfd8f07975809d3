-- Laws of the line and the column of an offset.
use Prim.Native.Nat.{ℕ, zero, suc, ◌+◌, ◌-◌, ◌≤◌, ◌<◌}
use Rattle.std.specs.Prelude.{Some, None, unwrap_or}
use Rattle.std.specs.List.{position_or_len}
use mathlib.Core.Path.{◌≡◌, refl, ◌∙◌}
use mathlib.Core.Bool.{true, false, cond, not}
use mathlib.Core.List.{List, [], ◌∷◌, ◌++◌}
use mathlib.Core.Logic.{⊎_elim}
use native.Mathlib.Nat.{le_of_suc-le-suc, not-suc-le-zero}
use native.Mathlib.Omega.{arith}
use lib.Dec.{ltb}
use lib.ListN.{length, get_or, length-append, get_or-append}
use lib.Seq.{get_or-append_seam}
use borrow.Author.Tests.{le-ltb, ltb-true, ltb-false}
use Rattle.basics.proofs.Choice.{cond_ind, either}
use Rattle.position.specs.Lines.{line_of, line_start, start_of, StrictlyRising}

-- ---- bounds

pub line_count : (s : List ℕ) (o : ℕ) → line_of s o ≤ length s
unfolding line_of
line_count [] o = omega arith
line_count (x ∷ s) o = cond_ind (λ n. n ≤ suc (length s)) (ltb o x) 0 (suc (line_of s o)) (λ e. omega arith) (λ e. omega (arith, line_count s o))

-- the line of an offset is where a search for a start above the offset ends
line_position : (s : List ℕ) (o : ℕ) → position_or_len (λ x. ltb o x) s ≡ line_of s o
unfolding line_of
line_position [] o = refl
line_position (x ∷ s) o =
    let e = line_position s o in
    cond_ind (λ n. cond (not (ltb o x)) (1 + position_or_len (λ x. ltb o x) s) 0 ≡ n) (ltb o x) 0 (suc (line_of s o)) (λ t. rw t refl) (λ t. rw (t, e) (omega arith))

pub line_search : (s : List ℕ) (o : ℕ)
    → let n = position_or_len (λ x. ltb o x) s in
    unwrap_or (cond (ltb n (length s)) (Some n) None) (length s) ≡ line_of s o
line_search s o =
    rw (line_position s o)
    (⊎_elim (λ (e : ltb (line_of s o) (length s) ≡ true). rw e)
    (λ (e : ltb (line_of s o) (length s) ≡ false). rw e (omega (arith, ltb-false (line_of s o) (length s) e, line_count s o)))
    (either (ltb (line_of s o) (length s))))

-- each start before the line's end is at most the offset
pub before_line : (s : List ℕ) (o k : ℕ) → k < line_of s o → get_or s k 0 ≤ o
unfolding line_of
before_line [] o k h = absurd (not-suc-le-zero h)
before_line (x ∷ s) o zero h =
    cond_ind (λ n. 0 < n → x ≤ o) (ltb o x) 0 (suc (line_of s o)) (λ e g. absurd (not-suc-le-zero g)) (λ e g. ltb-false o x e) h
before_line (x ∷ s) o (suc k) h =
    cond_ind (λ n. suc k < n → get_or s k 0 ≤ o) (ltb o x) 0 (suc (line_of s o)) (λ e g. absurd (not-suc-le-zero g)) (λ e g. before_line s o k (le_of_suc-le-suc g)) h

-- the starts that a table holds: the first of them is 0
pub record FromZero (s : List ℕ) : Type 0 where
  pub some : 1 ≤ length s
  pub first : get_or s 0 0 ≡ 0

pub line_one : (s : List ℕ) (o : ℕ) → FromZero s → 1 ≤ line_of s o
unfolding line_of
line_one [] o z = absurd (not-suc-le-zero z.some)
line_one (x ∷ s) o z = rw (le-ltb o x (omega (arith, z.first))) (omega arith)

pub start_below : (s : List ℕ) (o : ℕ) → FromZero s → start_of s o ≤ o
unfolding start_of
start_below s o z = before_line s o (line_of s o - 1) (omega (arith, line_one s o z))

pub from_zero_append : (s t : List ℕ) → FromZero s → FromZero (s ++ t)
from_zero_append s t z = record {
  some = rw length-append (omega (arith, z.some));
  first = get_or-append s t 0 0 z.some ∙ z.first;
}

-- ---- starts up to an offset

-- every start is at most m
abbrev pub AtMost : ℕ → List ℕ → Type 0
AtMost m [] = Unit {0}
AtMost m (x ∷ xs) = (x ≤ m) × AtMost m xs

pub at_most_up : {m n : ℕ} (s : List ℕ) → m ≤ n → AtMost m s → AtMost n s
at_most_up [] e h = tt
at_most_up (x ∷ s) e h = (omega arith, at_most_up s e h.1)

pub at_most_append : (m : ℕ) (s t : List ℕ) → AtMost m s → AtMost m t → AtMost m (s ++ t)
at_most_append m [] t h g = g
at_most_append m (x ∷ s) t h g = (h.0, at_most_append m s t h.1 g)

pub line_all : (s : List ℕ) (o : ℕ) → AtMost o s → line_of s o ≡ length s
unfolding line_of
line_all [] o h = refl
line_all (x ∷ s) o h = rw (le-ltb o x h.0, line_all s o h.1)

-- ---- rising starts

pub rising_snoc : (s : List ℕ) (o : ℕ) → StrictlyRising s → line_start s (length s) < o → StrictlyRising (s ++ (o ∷ []))
rising_snoc s o r h k g =
    let more : suc k < length s + 1 = rw length-append at g in
    ⊎_elim
    (λ (e : ltb (suc k) (length s) ≡ true).
    let inside = ltb-true (suc k) (length s) e in
    rw (get_or-append s (o ∷ []) 0 k (omega arith), get_or-append s (o ∷ []) 0 (suc k) inside) (r k inside))
    (λ (e : ltb (suc k) (length s) ≡ false).
    let end : suc k ≡ length s = omega (arith, ltb-false (suc k) (length s) e) in
    let last : k ≡ length s - 1 = omega arith in
    rw (get_or-append s (o ∷ []) 0 k (omega arith), end, get_or-append_seam s o [] 0, last) h)
    (either (ltb (suc k) (length s)))

-- the last of rising starts bounds them all
pub rising_at_most : (s : List ℕ) (m : ℕ) → StrictlyRising s → line_start s (length s) ≤ m → AtMost m s
rising_at_most [] m r h = tt
rising_at_most (x ∷ []) m r h = (h, tt)
rising_at_most (x ∷ y ∷ s) m r h =
    let e : suc (suc (length s)) - 1 ≡ suc (suc (length s) - 1) = omega arith in
    let low = rising_at_most (y ∷ s) m (λ k g. r (suc k) (omega arith)) (rw e at h) in
    (omega (arith, r 0 (omega arith), low.0), low)
