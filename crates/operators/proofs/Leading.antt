-- The longest operator at a place of a text, by its bytes: only the rows count whose spelling starts with the byte there.
use Prim.Native.Nat.{ℕ, ◌+◌, ◌≤◌, ◌<◌}
use mathlib.Core.Path.{◌≡◌, refl, sym}
use mathlib.Core.Bool.{Bool, true, false, cond, ◌&&◌, false≢true}
use mathlib.Core.List.{List, [], ◌∷◌}
use mathlib.Core.Logic.{⊎_elim}
use native.Mathlib.Omega.{arith}
use native.Mathlib.Decide.{dec_lt}
use lib.Dec.{T, eqb, ltb}
use lib.ListN.{length, get_or, drop, get_or-eq_default}
use borrow.Author.Tests.{ne_eqb, eqb-true, ltb-true}
use Rattle.basics.proofs.Choice.{either, and_left, and_right, true_of}
use Rattle.basics.proofs.Every.{each, each_ind}
use Rattle.utf8.specs.Chars.{chars}
use Rattle.utf8.proofs.First.{chars_at, chars_end, chars_ascii}
use Rattle.utf8.proofs.Places.{code_there}
use Rattle.kinds.specs.Table.{Row, operators}
use Rattle.operators.specs.Longest.{OperatorSaid, begins, op, no_operator, longer, longest, operator_of}

-- the longest of the rows whose spelling passes a test
unfoldable pub best : (List ℕ → Bool) → List Row → OperatorSaid
best f [] = no_operator
best f (row ∷ rows) = cond (f row.name) (longer (op row.kind (length row.name)) (best f rows)) (best f rows)

-- ---- a spelling in ASCII, by the bytes
abbrev pub starts : List ℕ → List ℕ → ℕ → Bool
starts [] s p = true
starts (x ∷ xs) s p = eqb (get_or s p 0) x && starts xs s (p + 1)

abbrev low : List ℕ → Bool
low = each (λ x. ltb 0 x && ltb x 128)

begins_bytes : (xs s : List ℕ) (p : ℕ) → T (low xs) → begins xs (chars (drop p s)) ≡ starts xs s p
unfolding begins
begins_bytes [] s p l = refl
begins_bytes (x ∷ xs) s p l =
    let l1 = and_left (ltb 0 x && ltb x 128) (low xs) l in
    let some : 0 < x = ltb-true 0 x (true_of _ (and_left (ltb 0 x) (ltb x 128) l1)) in
    let less : x < 128 = ltb-true x 128 (true_of _ (and_right (ltb 0 x) (ltb x 128) l1)) in
    let ih = begins_bytes xs s (p + 1) (and_right (ltb 0 x && ltb x 128) (low xs) l) in
    elim (dec_lt p (length s)) [
      | yes h ↦
          ⊎_elim (λ (e : eqb (get_or s p 0) x ≡ true). let v = eqb-true (get_or s p 0) x e in rw (chars_ascii s p h (omega arith), e) ih)
          (λ (e : eqb (get_or s p 0) x ≡ false). rw (chars_at s p h, code_there s p x h less, e)) (either (eqb (get_or s p 0) x))
      | no h ↦ let e : length s ≤ p = omega arith in rw (chars_end s p e, get_or-eq_default s 0 e, ne_eqb 0 x (λ z. omega arith))
    ]

abbrev lows : List Row → Bool
lows = each (λ row. low row.name)

longest_bytes : (s : List ℕ) (p : ℕ) (rows : List Row) → T (lows rows) → longest rows (chars (drop p s)) ≡ best (λ n. starts n s p) rows
unfolding longest best
longest_bytes s p =
    each_ind (λ row. low row.name) (λ rows. longest rows (chars (drop p s)) ≡ best (λ n. starts n s p) rows) refl
    (λ row rows l same. rw (begins_bytes row.name s p l, same))

-- ---- the rows whose spelling starts with a code
abbrev pub leads : ℕ → List ℕ → Bool
leads a [] = true
leads a (x ∷ xs) = eqb a x

abbrev pub among : ℕ → List Row → List Row
among a [] = []
among a (row ∷ rows) = cond (leads a row.name) (row ∷ among a rows) (among a rows)

no_lead : (xs s : List ℕ) (p : ℕ) → leads (get_or s p 0) xs ≡ false → starts xs s p ≡ false
no_lead [] s p e = absurd (false≢true (sym e))
no_lead (x ∷ xs) s p e = rw e

pub best_among : (rows : List Row) (s : List ℕ) (p : ℕ) → best (λ n. starts n s p) rows ≡ best (λ n. starts n s p) (among (get_or s p 0) rows)
unfolding best
best_among [] s p = refl
best_among (row ∷ rows) s p =
    ⊎_elim (λ (e : leads (get_or s p 0) row.name ≡ true). rw (e, best, best_among rows s p))
    (λ (e : leads (get_or s p 0) row.name ≡ false). rw (e, no_lead row.name s p e) (best_among rows s p)) (either (leads (get_or s p 0) row.name))

-- the table, by the bytes
pub table_bytes : (s : List ℕ) (p : ℕ) → operator_of (chars (drop p s)) ≡ best (λ n. starts n s p) operators
unfolding operators
table_bytes s p = longest_bytes s p operators tt
