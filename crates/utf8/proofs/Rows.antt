-- The length that the tests of `sequence` find is that of the row of the RFC's table that the text begins with.
use Prim.Native.Nat.{ℕ, zero, suc, ◌≤◌, ◌<◌, zero-le}
use mathlib.Core.Path.{◌≡◌, refl, sym, ◌∙◌}
use mathlib.Core.Bool.{true, false, false≢true}
use mathlib.Core.List.{List, [], ◌∷◌}
use mathlib.Core.Logic.{◌≢◌}
use native.Mathlib.Omega.{arith}
use native.Mathlib.Nat.{not-suc-le-zero, le_of_suc-le-suc}
use native.Mathlib.Decide.{dec_lt}
use lib.Dec.{lit≤, lit<}
use lib.ListN.{length, get_or}
use borrow.Author.Tests.{ne_eqb}
use Rattle.utf8.proofs.Bytes.{View, none, one, two, three, four, view, sequence_one, sequence_two, sequence_three, sequence_four}
use Rattle.basics.specs.Between.{between}
use Rattle.basics.proofs.Choice.{and_split, between_true, cond_ind, in_between}
use Rattle.utf8.specs.Table.{Range, ◌to◌, rows, within_row, matched}
use Rattle.utf8.specs.Steps.{low, high, sequence}

-- a byte within its bounds
abbrev In : Range → ℕ → Type 0
In r b = (r.least ≤ b) × (b ≤ r.most)

none_of : Range
none_of = (0 to 0)

-- each byte of a text that begins with a row is within its bounds
fits_at_lem : (rs : List Range) (s : List ℕ) → within_row rs s ≡ true → (i : ℕ) → i < length rs → In (get_or rs i none_of) (get_or s i 0)
fits_at_lem [] s e i h = absurd (not-suc-le-zero h)
fits_at_lem (r ∷ rs) [] e i h = absurd (false≢true e)
fits_at_lem (r ∷ rs) (b ∷ s) e zero h = between_true r.least b r.most (and_split (between r.least b r.most) (within_row rs s) e).0
fits_at_lem (r ∷ rs) (b ∷ s) e (suc i) h = fits_at_lem rs s (and_split (between r.least b r.most) (within_row rs s) e).1 i (le_of_suc-le-suc h)

-- and the other way; a byte past the end counts as 0, which is below the bounds of any second byte
fits_one : (p : Range) (s : List ℕ) → 0 < length s → In p (get_or s 0 0) → within_row (p ∷ []) s ≡ true
fits_one p [] z h = absurd (not-suc-le-zero z)
fits_one p (a ∷ s) z h = rw (in_between p.least a p.most h.0 h.1)

fits_two : (p q : Range) (s : List ℕ) → 0 < q.least → In p (get_or s 0 0) → In q (get_or s 1 0) → within_row (p ∷ q ∷ []) s ≡ true
fits_two p q [] z h k = absurd (omega arith)
fits_two p q (a ∷ []) z h k = absurd (omega arith)
fits_two p q (a ∷ b ∷ s) z h k = rw (in_between p.least a p.most h.0 h.1, in_between q.least b q.most k.0 k.1)

fits_three : (p q r : Range) (s : List ℕ) → 0 < r.least → In p (get_or s 0 0) → In q (get_or s 1 0) → In r (get_or s 2 0) → within_row (p ∷ q ∷ r ∷ []) s ≡ true
fits_three p q r [] z h k l = absurd (omega arith)
fits_three p q r (a ∷ []) z h k l = absurd (omega arith)
fits_three p q r (a ∷ b ∷ []) z h k l = absurd (omega arith)
fits_three p q r (a ∷ b ∷ c ∷ s) z h k l =
    rw (in_between p.least a p.most h.0 h.1, in_between q.least b q.most k.0 k.1, in_between r.least c r.most l.0 l.1)

fits_four : (p q r t : Range) (s : List ℕ) → 0 < t.least → In p (get_or s 0 0) → In q (get_or s 1 0) → In r (get_or s 2 0) → In t (get_or s 3 0) → within_row (p ∷ q ∷ r ∷ t ∷ []) s ≡ true
fits_four p q r t [] z h k l m = absurd (omega arith)
fits_four p q r t (a ∷ []) z h k l m = absurd (omega arith)
fits_four p q r t (a ∷ b ∷ []) z h k l m = absurd (omega arith)
fits_four p q r t (a ∷ b ∷ c ∷ []) z h k l m = absurd (omega arith)
fits_four p q r t (a ∷ b ∷ c ∷ d ∷ s) z h k l m =
    rw (
      in_between p.least a p.most h.0 h.1,
      in_between q.least b q.most k.0 k.1,
      in_between r.least c r.most l.0 l.1,
      in_between t.least d t.most m.0 m.1,
    )

-- the second byte's bounds, by the first byte
low_usual : (a : ℕ) → a ≢ 0xE0 → a ≢ 0xF0 → low a ≡ 0x80
unfolding low
low_usual a p q = simp (ne_eqb a 0xE0 p, ne_eqb a 0xF0 q)

high_usual : (a : ℕ) → a ≢ 0xED → a ≢ 0xF4 → high a ≡ 0xBF
unfolding high
high_usual a p q = simp (ne_eqb a 0xED p, ne_eqb a 0xF4 q)

low_of_e0 : (a : ℕ) → a ≡ 0xE0 → low a ≡ 0xA0
unfolding low
low_of_e0 a e = rw e

low_of_f0 : (a : ℕ) → a ≡ 0xF0 → low a ≡ 0x90
unfolding low
low_of_f0 a e = rw e

high_of_ed : (a : ℕ) → a ≡ 0xED → high a ≡ 0x9F
unfolding high
high_of_ed a e = rw e

high_of_f4 : (a : ℕ) → a ≡ 0xF4 → high a ≡ 0x8F
unfolding high
high_of_f4 a e = rw e

abbrev tl : Range
tl = (0x80 to 0xBF)

module _ (s : List ℕ) where
  abbrev found : ℕ → Type 0
  found n = n ≡ sequence (get_or s 0 0) (get_or s 1 0) (get_or s 2 0) (get_or s 3 0)

  -- a row of three or four bytes, by the bounds of the first two
  three_found : (p q : Range) → 0xE0 ≤ p.least → p.most ≤ 0xEF → (In p (get_or s 0 0) → (low (get_or s 0 0) ≤ q.least) × (q.most ≤ high (get_or s 0 0)))
      → within_row (p ∷ q ∷ tl ∷ []) s ≡ true → found 3
  three_found p q u v w e =
      let h = fits_at_lem (p ∷ q ∷ tl ∷ []) s e 0 (lit< tt) in
      let k = fits_at_lem (p ∷ q ∷ tl ∷ []) s e 1 (lit< tt) in
      let l = fits_at_lem (p ∷ q ∷ tl ∷ []) s e 2 (lit< tt) in
      let z = w h in
      sym (sequence_three (get_or s 0 0) (get_or s 1 0) (get_or s 2 0) (get_or s 3 0) (omega arith) (omega arith) (omega arith) (omega arith) l.0 l.1)

  four_found : (p q : Range) → 0xF0 ≤ p.least → p.most ≤ 0xF4 → (In p (get_or s 0 0) → (low (get_or s 0 0) ≤ q.least) × (q.most ≤ high (get_or s 0 0)))
      → within_row (p ∷ q ∷ tl ∷ tl ∷ []) s ≡ true → found 4
  four_found p q u v w e =
      let h = fits_at_lem (p ∷ q ∷ tl ∷ tl ∷ []) s e 0 (lit< tt) in
      let k = fits_at_lem (p ∷ q ∷ tl ∷ tl ∷ []) s e 1 (lit< tt) in
      let l = fits_at_lem (p ∷ q ∷ tl ∷ tl ∷ []) s e 2 (lit< tt) in
      let m = fits_at_lem (p ∷ q ∷ tl ∷ tl ∷ []) s e 3 (lit< tt) in
      let z = w h in
      sym (sequence_four (get_or s 0 0) (get_or s 1 0) (get_or s 2 0) (get_or s 3 0) (omega arith) (omega arith) (omega arith) (omega arith) l.0 l.1 m.0 m.1)

  none_left : {n : ℕ} → View (get_or s 0 0) (get_or s 1 0) (get_or s 2 0) (get_or s 3 0) n → 0 < length s
      → within_row (0x00 to 0x7F ∷ []) s ≡ false
      → within_row (0xC2 to 0xDF ∷ tl ∷ []) s ≡ false
      → within_row (0xE0 to 0xE0 ∷ 0xA0 to 0xBF ∷ tl ∷ []) s ≡ false
      → within_row (0xE1 to 0xEC ∷ 0x80 to 0xBF ∷ tl ∷ []) s ≡ false
      → within_row (0xED to 0xED ∷ 0x80 to 0x9F ∷ tl ∷ []) s ≡ false
      → within_row (0xEE to 0xEF ∷ 0x80 to 0xBF ∷ tl ∷ []) s ≡ false
      → within_row (0xF0 to 0xF0 ∷ 0x90 to 0xBF ∷ tl ∷ tl ∷ []) s ≡ false
      → within_row (0xF1 to 0xF3 ∷ 0x80 to 0xBF ∷ tl ∷ tl ∷ []) s ≡ false
      → within_row (0xF4 to 0xF4 ∷ 0x80 to 0x8F ∷ tl ∷ tl ∷ []) s ≡ false
      → 0 ≡ n
  none_left none z f1 f2 f3 f4 f5 f6 f7 f8 f9 = refl
  none_left (one h) z f1 f2 f3 f4 f5 f6 f7 f8 f9 = absurd (false≢true (sym f1 ∙ fits_one (0x00 to 0x7F) s z (zero-le, le_of_suc-le-suc h)))
  none_left (two h k l m) z f1 f2 f3 f4 f5 f6 f7 f8 f9 = absurd (false≢true (sym f2 ∙ fits_two (0xC2 to 0xDF) tl s (lit< tt) (h, k) (l, m)))
  none_left (three h k l m n o) z f1 f2 f3 f4 f5 f6 f7 f8 f9 =
      elim (dec_lt (get_or s 0 0) 0xE1) [
        | yes x ↦ absurd (false≢true (sym f3 ∙ fits_three (0xE0 to 0xE0) (0xA0 to 0xBF) tl s (lit< tt) (omega arith, omega arith) (omega (arith, low_of_e0 (get_or s 0 0) (omega arith)), omega (arith, high_usual (get_or s 0 0) (omega arith) (omega arith))) (n, o)))
        | no x ↦ elim (dec_lt (get_or s 0 0) 0xED) [
          | yes y ↦ absurd (false≢true (sym f4 ∙ fits_three (0xE1 to 0xEC) (0x80 to 0xBF) tl s (lit< tt) (omega arith, omega arith) (omega (arith, low_usual (get_or s 0 0) (omega arith) (omega arith)), omega (arith, high_usual (get_or s 0 0) (omega arith) (omega arith))) (n, o)))
          | no y ↦ elim (dec_lt (get_or s 0 0) 0xEE) [
            | yes w ↦ absurd (false≢true (sym f5 ∙ fits_three (0xED to 0xED) (0x80 to 0x9F) tl s (lit< tt) (omega arith, omega arith) (omega (arith, low_usual (get_or s 0 0) (omega arith) (omega arith)), omega (arith, high_of_ed (get_or s 0 0) (omega arith))) (n, o)))
            | no w ↦ absurd (false≢true (sym f6 ∙ fits_three (0xEE to 0xEF) (0x80 to 0xBF) tl s (lit< tt) (omega arith, omega arith) (omega (arith, low_usual (get_or s 0 0) (omega arith) (omega arith)), omega (arith, high_usual (get_or s 0 0) (omega arith) (omega arith))) (n, o)))
          ]
        ]
      ]
  none_left (four h k l m n o p q) z f1 f2 f3 f4 f5 f6 f7 f8 f9 =
      elim (dec_lt (get_or s 0 0) 0xF1) [
        | yes x ↦ absurd (false≢true (sym f7 ∙ fits_four (0xF0 to 0xF0) (0x90 to 0xBF) tl tl s (lit< tt) (omega arith, omega arith) (omega (arith, low_of_f0 (get_or s 0 0) (omega arith)), omega (arith, high_usual (get_or s 0 0) (omega arith) (omega arith))) (n, o) (p, q)))
        | no x ↦ elim (dec_lt (get_or s 0 0) 0xF4) [
          | yes y ↦ absurd (false≢true (sym f8 ∙ fits_four (0xF1 to 0xF3) (0x80 to 0xBF) tl tl s (lit< tt) (omega arith, omega arith) (omega (arith, low_usual (get_or s 0 0) (omega arith) (omega arith)), omega (arith, high_usual (get_or s 0 0) (omega arith) (omega arith))) (n, o) (p, q)))
          | no y ↦ absurd (false≢true (sym f9 ∙ fits_four (0xF4 to 0xF4) (0x80 to 0x8F) tl tl s (lit< tt) (omega arith, omega arith) (omega (arith, low_usual (get_or s 0 0) (omega arith) (omega arith)), omega (arith, high_of_f4 (get_or s 0 0) (omega arith))) (n, o) (p, q)))
        ]
      ]

  -- the row that a text begins with is the one that the tests find
  pub table_says : 0 < length s → matched rows s ≡ sequence (get_or s 0 0) (get_or s 1 0) (get_or s 2 0) (get_or s 3 0)
  table_says z =
      cond_ind found (within_row (0x00 to 0x7F ∷ []) s) _ _ (λ e. let h = fits_at_lem (0x00 to 0x7F ∷ []) s e 0 (lit< tt) in sym (sequence_one (get_or s 0 0) (get_or s 1 0) (get_or s 2 0) (get_or s 3 0) (omega arith)))
      (λ f1. cond_ind found (within_row (0xC2 to 0xDF ∷ tl ∷ []) s) _ _ (λ e. let h = fits_at_lem (0xC2 to 0xDF ∷ tl ∷ []) s e 0 (lit< tt) in let k = fits_at_lem (0xC2 to 0xDF ∷ tl ∷ []) s e 1 (lit< tt) in sym (sequence_two (get_or s 0 0) (get_or s 1 0) (get_or s 2 0) (get_or s 3 0) h.0 h.1 k.0 k.1))
      (λ f2. cond_ind found (within_row (0xE0 to 0xE0 ∷ 0xA0 to 0xBF ∷ tl ∷ []) s) _ _ (λ e. three_found (0xE0 to 0xE0) (0xA0 to 0xBF) (lit≤ tt) (lit≤ tt) (λ h. (omega (arith, low_of_e0 (get_or s 0 0) (omega arith)), omega (arith, high_usual (get_or s 0 0) (omega arith) (omega arith)))) e)
      (λ f3. cond_ind found (within_row (0xE1 to 0xEC ∷ 0x80 to 0xBF ∷ tl ∷ []) s) _ _ (λ e. three_found (0xE1 to 0xEC) (0x80 to 0xBF) (lit≤ tt) (lit≤ tt) (λ h. (omega (arith, low_usual (get_or s 0 0) (omega arith) (omega arith)), omega (arith, high_usual (get_or s 0 0) (omega arith) (omega arith)))) e)
      (λ f4. cond_ind found (within_row (0xED to 0xED ∷ 0x80 to 0x9F ∷ tl ∷ []) s) _ _ (λ e. three_found (0xED to 0xED) (0x80 to 0x9F) (lit≤ tt) (lit≤ tt) (λ h. (omega (arith, low_usual (get_or s 0 0) (omega arith) (omega arith)), omega (arith, high_of_ed (get_or s 0 0) (omega arith)))) e)
      (λ f5. cond_ind found (within_row (0xEE to 0xEF ∷ 0x80 to 0xBF ∷ tl ∷ []) s) _ _ (λ e. three_found (0xEE to 0xEF) (0x80 to 0xBF) (lit≤ tt) (lit≤ tt) (λ h. (omega (arith, low_usual (get_or s 0 0) (omega arith) (omega arith)), omega (arith, high_usual (get_or s 0 0) (omega arith) (omega arith)))) e)
      (λ f6. cond_ind found (within_row (0xF0 to 0xF0 ∷ 0x90 to 0xBF ∷ tl ∷ tl ∷ []) s) _ _ (λ e. four_found (0xF0 to 0xF0) (0x90 to 0xBF) (lit≤ tt) (lit≤ tt) (λ h. (omega (arith, low_of_f0 (get_or s 0 0) (omega arith)), omega (arith, high_usual (get_or s 0 0) (omega arith) (omega arith)))) e)
      (λ f7. cond_ind found (within_row (0xF1 to 0xF3 ∷ 0x80 to 0xBF ∷ tl ∷ tl ∷ []) s) _ _ (λ e. four_found (0xF1 to 0xF3) (0x80 to 0xBF) (lit≤ tt) (lit≤ tt) (λ h. (omega (arith, low_usual (get_or s 0 0) (omega arith) (omega arith)), omega (arith, high_usual (get_or s 0 0) (omega arith) (omega arith)))) e)
      (λ f8. cond_ind found (within_row (0xF4 to 0xF4 ∷ 0x80 to 0x8F ∷ tl ∷ tl ∷ []) s) _ _ (λ e. four_found (0xF4 to 0xF4) (0x80 to 0x8F) (lit≤ tt) (lit≤ tt) (λ h. (omega (arith, low_usual (get_or s 0 0) (omega arith) (omega arith)), omega (arith, high_of_f4 (get_or s 0 0) (omega arith)))) e)
      (λ f9. none_left (view (get_or s 0 0) (get_or s 1 0) (get_or s 2 0) (get_or s 3 0)) z f1 f2 f3 f4 f5 f6 f7 f8 f9)))))))))
