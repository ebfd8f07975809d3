-- Reading in a joined text is reading in its second part, with every start raised.
use Prim.Native.Nat.{ℕ, suc, ◌+◌, ◌-◌, ◌≤◌, ◌<◌}
use Prim.Native.Char.{code}
use mathlib.Core.Path.{◌≡◌, refl, sym, ap, ◌∙◌}
use mathlib.Core.Bool.{Bool, true, false, cond, ◌&&◌}
use mathlib.Core.List.{List, [], ◌∷◌, ◌++◌, map, append_assoc, map-append}
use native.Mathlib.Nat.{add-zero, add-suc, not-suc-le-zero}
use native.Mathlib.Omega.{arith}
use lib.Dec.{ltb}
use lib.ListN.{length, drop, length-append, length-map, get_or-map}
use lib.Seq.{append_snoc, get_or-append-add}
use borrow.Author.Tests.{eq-eqb}
use Rattle.basics.proofs.Choice.{cond_ind}
use Rattle.basics.proofs.Lists.{get_d_any}
use Rattle.basics.proofs.Tests.{same_lt}
use Rattle.utf8.specs.declared.Char.{Char}
use Rattle.utf8.proofs.Ends.{Ends}
use Rattle.utf8.specs.Count.{is_lf, count}
use Rattle.position.specs.Lines.{line_start}
use Rattle.position.proofs.Lines.{FromZero}
use Rattle.lines.specs.Starts.{recorded, read_lines}
use Rattle.lines.specs.Joined.{starts_of, over}
use Rattle.lines.proofs.Reading.{read_append, read_new, read_feed, read_any_size}
use Rattle.lines.proofs.Counts.{starts_last, starts_count_end}
use Rattle.lines.proofs.Kept.{read_last}

recorded_some : (size x : ℕ) (s : List ℕ) → 1 ≤ length s → 1 ≤ length (recorded size x s)
recorded_some size x s h =
    cond_ind (λ r. 1 ≤ length r) (ltb (line_start s (length s)) x && ltb x size) (s ++ (x ∷ [])) s (λ e. rw length-append (omega arith)) (λ e. h)

module _ (n : ℕ) (first : List ℕ) where
  over_snoc : (s : List ℕ) (x : ℕ) → over n first (s ++ (x ∷ [])) ≡ over n first s ++ ((n + x) ∷ [])
  unfolding over
  over_snoc s x =
      ap (λ r. first ++ r) (map-append (λ x. n + x) s (x ∷ [])) ∙ sym (append_assoc first (map (λ x. n + x) s) ((n + x) ∷ []))

  -- the second text's first line starts where the first text ends
  pub over_opening : over n first (0 ∷ []) ≡ first ++ (n ∷ [])
  unfolding over
  over_opening = rw (add-zero n)

  pub over_drop : (s : List ℕ) → FromZero s → over n first s ≡ first ++ (n ∷ []) ++ map (λ x. n + x) (drop 1 s)
  unfolding over
  over_drop [] z = absurd (not-suc-le-zero z.some)
  over_drop (x ∷ s) z =
      let e : n + x ≡ n = omega (arith, z.first) in
      rw e (sym (append_snoc first n (map (λ x. n + x) s)))

  over_last : (s : List ℕ) → 1 ≤ length s → line_start (over n first s) (length (over n first s)) ≡ n + line_start s (length s)
  unfolding over
  over_last s h =
      let m = map (λ x. n + x) s in
      let e : length (first ++ m) - 1 ≡ length first + (length s - 1) = omega (arith, length-append first m, length-map s (λ x. n + x)) in
      rw (e, get_or-append-add first m (length s - 1) 0)
      (get_d_any m (length s - 1) 0 (n + 0) (rw length-map (omega arith)) ∙ get_or-map (λ x. n + x) s (length s - 1) 0)

  over_recorded : (size x : ℕ) (s : List ℕ) → 1 ≤ length s → recorded size (n + x) (over n first s) ≡ over n first (recorded (size - n) x s)
  over_recorded size x s h =
      let e : ltb (line_start (over n first s) (length (over n first s))) (n + x) ≡ ltb (line_start s (length s)) x = rw (over_last s h) (same_lt (n + line_start s (length s)) (n + x) (line_start s (length s)) x (λ k. omega arith) (λ k. omega arith)) in
      let f : ltb (n + x) size ≡ ltb x (size - n) = same_lt (n + x) size x (size - n) (λ k. omega arith) (λ k. omega arith) in
      rw (e, f) (go (ltb (line_start s (length s)) x && ltb x (size - n)))
    where
      go : (t : Bool) → cond t (over n first s ++ ((n + x) ∷ [])) (over n first s) ≡ over n first (cond t (s ++ (x ∷ [])) s)
      go true = sym (over_snoc s x)
      go false = refl

  -- at an offset n characters on, with n characters less after
  pub over_read : (size o : ℕ) (cs : List Char) (s : List ℕ) → 1 ≤ length s → read_lines size (n + o) cs (over n first s) ≡ over n first (read_lines (size - n) o cs s)
  unfolding read_lines
  over_read size o [] s h = refl
  over_read size o (c ∷ cs) s h = rw (← add-suc n o) (go (is_lf c) (over_read size (suc o) cs))
    where
      go : (t : Bool) → ((r : List ℕ) → 1 ≤ length r → read_lines size (n + suc o) cs (over n first r) ≡ over n first (read_lines (size - n) (suc o) cs r))
          → read_lines size (n + suc o) cs (cond t (recorded size (n + suc o) (over n first s)) (over n first s)) ≡ over n first (read_lines (size - n) (suc o) cs (cond t (recorded (size - n) (suc o) s) s))
      go true more = rw (over_recorded size (suc o) s h) (more (recorded (size - n) (suc o) s) (recorded_some (size - n) (suc o) s h))
      go false more = more s h

-- ---- a text that ends in a line feed

-- such a text is other characters and the line feed
ends_ind : (P : List Char → Type 0) → ((a : List Char) (c : Char) → c.code ≡ code "\n" → P (a ++ (c ∷ []))) → (t : List Char) → Ends t → P t
ends_ind P f [] h = absurd h
ends_ind P f (c ∷ []) h = f [] c h
ends_ind P f (c ∷ d ∷ t) h = ends_ind (λ r. P (c ∷ r)) (λ a x e. f (c ∷ a) x e) (d ∷ t) h

module _ (a : List Char) (c : Char) (e : c.code ≡ code "\n") where
  length_snoc : length (a ++ (c ∷ [])) ≡ suc (0 + length a)
  length_snoc = length-append a (c ∷ []) ∙ omega arith

  -- the line feed, which is the last character, gives no start
  own_starts : (size : ℕ) → length a < size → starts_of (a ++ (c ∷ [])) ≡ read_lines size 0 a (0 ∷ [])
  own_starts size h =
      let n = length (a ++ (c ∷ [])) in
      read_new n 0 (a ++ (c ∷ [])) (0 ∷ []) (omega arith)
      ∙ ap (λ r. 0 ∷ r) (starts_last n 0 a c (omega (arith, length_snoc)))
      ∙ sym (read_new n 0 a (0 ∷ []) (omega arith))
      ∙ read_any_size n size 0 a (0 ∷ []) (omega (arith, length_snoc)) (omega arith)

  closed_snoc : (size : ℕ) → length (a ++ (c ∷ [])) < size → read_lines size 0 (a ++ (c ∷ [])) (0 ∷ []) ≡ starts_of (a ++ (c ∷ [])) ++ (length (a ++ (c ∷ [])) ∷ [])
  closed_snoc size h =
      read_append size 0 a (c ∷ []) (0 ∷ [])
      ∙ read_feed size (0 + length a) c (read_lines size 0 a (0 ∷ [])) e (read_last size 0 a (0 ∷ []) (omega arith)) (omega (arith, length_snoc))
      ∙ rw (own_starts size (omega (arith, length_snoc)), length_snoc)

  count_snoc : length (starts_of (a ++ (c ∷ []))) ≡ count is_lf (a ++ (c ∷ []))
  count_snoc =
      let n = length (a ++ (c ∷ [])) in
      let k = rw (eq-eqb c.code (code "\n") e) at (starts_count_end n 0 a c (omega arith)) in
      rw (read_new n 0 (a ++ (c ∷ [])) (0 ∷ []) (omega arith)) (omega (arith, k))

-- within a longer text its line feed adds the start of the next
pub read_closed : (t : List Char) → Ends t → (size : ℕ) → length t < size → read_lines size 0 t (0 ∷ []) ≡ starts_of t ++ (length t ∷ [])
read_closed = ends_ind (λ t. (size : ℕ) → length t < size → read_lines size 0 t (0 ∷ []) ≡ starts_of t ++ (length t ∷ [])) closed_snoc

-- it has as many lines as line feeds
pub closed_count : (t : List Char) → Ends t → length (starts_of t) ≡ count is_lf t
closed_count = ends_ind (λ t. length (starts_of t) ≡ count is_lf t) count_snoc

-- ---- the starts of two texts that are joined
pub read_joined : (a b : List Char) → Ends a → 1 ≤ length b → starts_of (a ++ b) ≡ over (length a) (starts_of a) (starts_of b)
read_joined a b e h =
    let n = length a in
    let size = length (a ++ b) in
    let l : size ≡ n + length b = length-append a b in
    let k : size - n ≡ length b = omega (arith, l) in
    let z : 0 + n ≡ n + 0 = omega arith in
    read_append size 0 a b (0 ∷ [])
    ∙ ap (λ r. read_lines size (0 + n) b r) (read_closed a e size (omega (arith, l)) ∙ sym (over_opening n (starts_of a)))
    ∙ ap (λ m. read_lines size m b (over n (starts_of a) (0 ∷ []))) z
    ∙ over_read n (starts_of a) size 0 b (0 ∷ []) (omega arith)
    ∙ ap (λ m. over n (starts_of a) (read_lines m 0 b (0 ∷ []))) k
