-- A text that is empty or ends in a line feed, by its bytes and by its characters.
use Prim.Native.Nat.{ℕ, zero, suc, pred, ◌+◌, ◌≤◌, ◌<◌}
use mathlib.Core.Path.{◌≡◌, refl, ap}
use mathlib.Core.List.{List, [], ◌∷◌, ◌++◌}
use mathlib.Core.Logic.{◌⊎◌, inl, inr}
use native.Mathlib.Nat.{not-suc-le-zero, le_of_suc-le-suc}
use native.Mathlib.Omega.{arith}
use native.Mathlib.Decide.{dec_lt}
use lib.ListN.{length, get_or, length-append}
use lib.Seq.{get_or_at}
use Rattle.utf8.specs.declared.Char.{Char}
use Rattle.utf8.specs.Chars.{char_of, first_char, chars_from, chars, widths}
use Rattle.utf8.specs.Steps.{decoded}
use Rattle.utf8.proofs.Bytes.{View, none, one, two, three, four, view}
use Rattle.utf8.proofs.First.{first_is, first_least, first_fits}
use Rattle.utf8.proofs.Ends.{Ends}
use Rattle.runs.specs.Joined.{Closed}

-- ---- the characters of a text take its bytes
widths_from : (k : ℕ) (s : List ℕ) → k ≤ length s → k + widths (chars_from k s) ≡ length s
unfolding chars_from
widths_from zero [] h = refl
widths_from (suc k) [] h = absurd (not-suc-le-zero h)
widths_from zero (b ∷ s) h =
    let w = (first_char (b ∷ s)).width in
    let f = first_fits (b ∷ s) (omega arith) in
    let l = first_least (b ∷ s) in
    omega (arith, widths_from (pred w) s (omega (arith, f)), l)
widths_from (suc k) (b ∷ s) h = omega (arith, widths_from k s (le_of_suc-le-suc h))

pub widths_chars : (s : List ℕ) → widths (chars s) ≡ length s
widths_chars s = omega (arith, widths_from 0 s (omega arith))

-- ---- the last byte of a character of more than one is no line feed
last_high : (s : List ℕ) {n : ℕ} → View (get_or s 0 0) (get_or s 1 0) (get_or s 2 0) (get_or s 3 0) n
    → 1 < (char_of n (get_or s 0 0) (get_or s 1 0) (get_or s 2 0) (get_or s 3 0)).width
    → 0x80 ≤ get_or s (pred (char_of n (get_or s 0 0) (get_or s 1 0) (get_or s 2 0) (get_or s 3 0)).width) 0
last_high s none l = absurd (omega arith)
last_high s (one h) l = absurd (omega arith)
last_high s (two h k m n) l = m
last_high s (three h k m n o p) l = o
last_high s (four h k m n o p q r) l = q

first_last_high : (s : List ℕ) → 0 < length s → 1 < (first_char s).width → 0x80 ≤ get_or s (pred (first_char s).width) 0
unfolding decoded
first_last_high s z l = rw (first_is s z) (last_high s (view (get_or s 0 0) (get_or s 1 0) (get_or s 2 0) (get_or s 3 0)) (rw (first_is s z) at l))

first_before_feed : (b : ℕ) (s : List ℕ) → (first_char (b ∷ (s ++ (10 ∷ [])))).width ≤ suc (length s)
first_before_feed b s =
    let u : List ℕ = b ∷ (s ++ (10 ∷ [])) in
    let w = (first_char u).width in
    elim (dec_lt (suc (length s)) w) [
      | yes l ↦
          let f = first_fits u (omega arith) in
          let e : pred w ≡ suc (length s) = omega (arith, f, length-append s (10 ∷ [])) in
          let g = rw (e, get_or_at s 10 [] 0 (length s) refl) at (first_last_high u (omega arith) (omega arith)) in
          absurd (omega (arith, g))
      | no l ↦ omega arith
    ]

-- ---- the last character is the line feed
ends_behind : (c : Char) (r : List Char) → Ends r → Ends (c ∷ r)
ends_behind c [] h = absurd h
ends_behind c (d ∷ r) h = h

ends_feed : Ends (chars_from 0 (10 ∷ []))
unfolding chars_from first_char
ends_feed = refl

ends_from : (k : ℕ) (s : List ℕ) → k ≤ length s → Ends (chars_from k (s ++ (10 ∷ [])))
unfolding chars_from
ends_from zero [] h = ends_feed
ends_from (suc k) [] h = absurd (not-suc-le-zero h)
ends_from zero (b ∷ s) h =
    let w = (first_char (b ∷ (s ++ (10 ∷ [])))).width in
    let f = first_before_feed b s in
    ends_behind (first_char (b ∷ (s ++ (10 ∷ [])))) (chars_from (pred w) (s ++ (10 ∷ []))) (ends_from (pred w) s (omega (arith, f)))
ends_from (suc k) (b ∷ s) h = ends_from k s (le_of_suc-le-suc h)

pub closed_ends : (x : List ℕ) → Closed x → Ends (chars x) ⊎ (chars x ≡ [])
unfolding chars_from
closed_ends x (inl e) = inr (ap chars e)
closed_ends x (inr (before, e)) = inl (rw e (ends_from 0 before (omega arith)))
