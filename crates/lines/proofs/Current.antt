-- Laws of the current line: it is the last line of the starts recorded so far, and so the table's answer.
use Prim.Native.Nat.{ℕ, suc, ◌+◌, ◌-◌, ◌≤◌}
use mathlib.Core.Path.{◌≡◌, refl, ap, sym, ◌∙◌}
use mathlib.Core.Bool.{Bool, true, false, cond, ◌&&◌}
use mathlib.Core.List.{List, [], ◌∷◌, ◌++◌}
use native.Mathlib.Nat.{add-zero, add-suc, suc-add}
use native.Mathlib.Omega.{arith}
use lib.Dec.{ltb}
use lib.ListN.{length, take, length-append}
use lib.Seq.{sets, length-sets, get_or-take, length-take-le}
use Rattle.basics.proofs.Tests.{same_lt}
use Rattle.utf8.specs.declared.Char.{Char}
use Rattle.utf8.specs.Count.{is_lf}
use Rattle.position.specs.declared.Line.{Line}
use Rattle.position.specs.Lines.{line_of, line_start, line_in, start_of, column_of, is_recorded, StrictlyRising}
use Rattle.position.proofs.Lines.{line_all, rising_at_most}
use Rattle.lines.specs.Starts.{recorded, read_lines}
use Rattle.lines.specs.Current.{next_line, read_line}
use Rattle.lines.specs.LineLaw.{Current, LineLaw}
use Rattle.lines.specs.Joined.{move_line}
use Rattle.lines.proofs.Reading.{last_snoc}
use Rattle.lines.proofs.Written.{sets_take}
use Rattle.lines.proofs.Kept.{read_rising, read_last}

-- the last of the lines
abbrev pub last_line : List ℕ → Line
last_line starts = line_in starts (length starts)

-- ---- reading keeps it the last line
pub last_line_snoc : (starts : List ℕ) (x : ℕ) → last_line (starts ++ (x ∷ [])) ≡ record { number = suc (length starts); start = x }
last_line_snoc starts x =
    let n : length (starts ++ (x ∷ [])) ≡ suc (length starts) = length-append starts (x ∷ []) ∙ omega arith in
    λ i. record { number = n i; start = last_snoc starts x i }

next_last : (size o : ℕ) (c : Char) (starts : List ℕ) → next_line size o c (last_line starts) ≡ last_line (cond (is_lf c) (recorded size (suc o) starts) starts)
next_last size o c starts = go (is_lf c) (is_recorded (line_start starts (length starts)) size (suc o))
  where
    go : (t u : Bool) → cond (t && u) (record { number = suc (length starts); start = suc o }) (last_line starts) ≡ last_line (cond t (cond u (starts ++ (suc o ∷ [])) starts) starts)
    go true true = sym (last_line_snoc starts (suc o))
    go true false = refl
    go false u = refl

pub read_last_line : (size o : ℕ) (cs : List Char) (starts : List ℕ) → read_line size o cs (last_line starts) ≡ last_line (read_lines size o cs starts)
unfolding read_line read_lines
read_last_line size o [] starts = refl
read_last_line size o (c ∷ cs) starts =
    ap (read_line size (suc o) cs) (next_last size o c starts) ∙ read_last_line size (suc o) cs (cond (is_lf c) (recorded size (suc o) starts) starts)

-- ---- in a table
pub take_line : (table : List ℕ) (lines : ℕ) → 1 ≤ lines → lines ≤ length table → last_line (take lines table) ≡ line_in table lines
take_line table lines h g =
    rw (length-take-le lines table g, get_or-take lines table (lines - 1) 0 (omega arith))

-- after starts were written to it
pub sets_line : (table : List ℕ) (lines : ℕ) (new : List ℕ) → 1 ≤ lines → lines + length new ≤ length table
    → last_line (take lines table ++ new) ≡ line_in (sets table lines new) (lines + length new)
sets_line table lines new h g =
    ap last_line (sym (sets_take table lines new g)) ∙ take_line (sets table lines new) (lines + length new) (omega arith) (rw (length-sets table lines new) g)

-- ---- in two parts
pub line_read_append : (size o : ℕ) (a b : List Char) (line : Line) → read_line size o (a ++ b) line ≡ read_line size (o + length a) b (read_line size o a line)
unfolding read_line
line_read_append size o [] b line = rw add-zero
line_read_append size o (c ∷ a) b line = line_read_append size (suc o) a b (next_line size o c line) ∙ rw (add-suc, suc-add)

-- ---- in the second of two joined texts
module _ (n k : ℕ) where
  next_moved : (size o : ℕ) (c : Char) (line : Line) → next_line size (n + o) c (move_line n k line) ≡ move_line n k (next_line (size - n) o c line)
  unfolding move_line
  next_moved size o c line =
      let e : ltb (n + line.start) (suc (n + o)) ≡ ltb line.start (suc o) = same_lt (n + line.start) (suc (n + o)) line.start (suc o) (λ h. omega arith) (λ h. omega arith) in
      let f : ltb (suc (n + o)) size ≡ ltb (suc o) (size - n) = same_lt (suc (n + o)) size (suc o) (size - n) (λ h. omega arith) (λ h. omega arith) in
      rw (e, f) (go (is_lf c && (ltb line.start (suc o) && ltb (suc o) (size - n))))
    where
      go : (t : Bool) → cond t (record { number = suc (k + line.number); start = suc (n + o) }) (move_line n k line) ≡ move_line n k (cond t (record { number = suc line.number; start = suc o }) line)
      go true = rw (add-suc k, add-suc n)
      go false = refl

  pub line_read_moved : (size o : ℕ) (cs : List Char) (line : Line) → read_line size (n + o) cs (move_line n k line) ≡ move_line n k (read_line (size - n) o cs line)
  unfolding read_line
  line_read_moved size o [] line = refl
  line_read_moved size o (c ∷ cs) line =
      rw (next_moved size o c line, ← add-suc n o) (line_read_moved size (suc o) cs (next_line (size - n) o c line))

-- ---- the table's answer
-- of rising starts that are not above an offset, the last line is its line
module _ (starts : List ℕ) (o : ℕ) (r : StrictlyRising starts) (h : line_start starts (length starts) ≤ o) where
  line_last : line_of starts o ≡ length starts
  line_last = line_all starts o (rising_at_most starts o r h)

  pub current_last : Current starts o (last_line starts)
  unfolding column_of start_of
  current_last = record { rising = r; last = h; answer = ap (line_in starts) (sym line_last); column = rw line_last }

-- and no other line is
pub current_is : (starts : List ℕ) (o : ℕ) (line : Line) → Current starts o line → line ≡ last_line starts
current_is starts o line k = k.answer ∙ ap (line_in starts) (line_last starts o k.rising k.last)

pub current_read : (size o : ℕ) (cs : List Char) (starts : List ℕ) (line : Line) → Current starts o line → Current (read_lines size o cs starts) (o + length cs) (read_line size o cs line)
current_read size o cs starts line k =
    rw (current_is starts o line k, read_last_line size o cs starts)
    (current_last (read_lines size o cs starts) (o + length cs) (read_rising size o cs starts k.rising) (read_last size o cs starts k.last))

pub line_law : LineLaw
line_law =
    record {
      opening = current_last (0 ∷ []) 0 (λ k h. absurd (omega arith)) (omega arith);
      character = λ size o c starts line k. let e : o + 1 ≡ suc o = omega arith in rw e at (current_read size o (c ∷ []) starts line k);
    }
