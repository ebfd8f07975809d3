-- Laws of the errors that a list holds.
use Prim.Native.Nat.{ℕ, zero, suc, ◌+◌, ◌*◌, ◌≤◌, ◌<◌}
use mathlib.Core.Path.{◌≡◌, refl, ap, ◌∙◌}
use mathlib.Core.Bool.{true, false}
use mathlib.Core.List.{List, [], ◌∷◌, ◌++◌}
use mathlib.Core.Logic.{⊎_elim}
use mathlib.Core.Option.{none, some}
use native.Mathlib.Numerals.{add-one}
use native.Mathlib.Nat.{not-suc-le-zero}
use native.Mathlib.Omega.{arith}
use lib.Dec.{leb, ltb}
use lib.ListN.{length, take, get_elem?, length-append}
use lib.Seq.{sets, length-sets, take-append-le, take_all}
use borrow.Author.Tests.{le-leb, lt-leb, lt-ltb, le-ltb, leb-true, ltb-true, leb-false, ltb-false}
use Rattle.basics.proofs.Choice.{either}
use Rattle.basics.proofs.Lists.{at_append, at_end, at_past}
use Rattle.refusal.specs.Outcome.{refused, gave}
use Rattle.refusal.proofs.Outcomes.{refused_gave}
use Rattle.errors.specs.declared.layout.Error.{Error}
use Rattle.errors.specs.Layout.{width, numbers, record_at}
use Rattle.errors.specs.Errors.{room_of, errors_of, AddLeft, add_to, get_of}
use Rattle.errors.proofs.Records.{error_written, error_kept}

-- ---- the first n errors

pub errors_length : (n : ℕ) (l : List ℕ) → length (errors_of n l) ≡ n
unfolding errors_of
errors_length zero l = refl
errors_length (suc n) l = rw (length-append, errors_length n l) (omega arith)

-- those of a smaller count come first
pub errors_take : (m n : ℕ) (l : List ℕ) → m ≤ n → take m (errors_of n l) ≡ errors_of m l
unfolding errors_of
errors_take m zero l h = let z : m ≡ 0 = omega arith in rw z
errors_take m (suc n) l h =
    ⊎_elim
    (λ (e : leb m n ≡ true).
    let low : m ≤ n = leb-true m n e in
    rw (take-append-le m (errors_of n l) (record_at l (n * width) ∷ []) (rw errors_length low)) (errors_take m n l low))
    (λ (e : leb m n ≡ false).
    let z : m ≡ suc n = omega (arith, leb-false m n e) in
    rw z (take_all (suc n) (errors_of (suc n) l) (omega (arith, errors_length (suc n) l))))
    (either (leb m n))

-- what is written after them leaves them
pub errors_kept : (n : ℕ) (l : List ℕ) (at : ℕ) (vs : List ℕ) → n * width ≤ at → errors_of n (sets l at vs) ≡ errors_of n l
unfolding errors_of
errors_kept zero l at vs h = refl
errors_kept (suc n) l at vs h = rw (errors_kept n l at vs (omega arith), error_kept l at vs (n * width) (omega arith))

-- ---- the error at an index

pub errors_past : (n : ℕ) (l : List ℕ) (i : ℕ) → n ≤ i → get_elem? (errors_of n l) i ≡ none
errors_past n l i h = at_past (errors_of n l) i (rw errors_length h)

last_error : (n : ℕ) (l : List ℕ) → get_elem? (errors_of (suc n) l) n ≡ some (record_at l (n * width))
unfolding errors_of
last_error n l = rw errors_length at (at_end (errors_of n l) (record_at l (n * width)))

pub errors_at : (n : ℕ) (l : List ℕ) (i : ℕ) → i < n → get_elem? (errors_of n l) i ≡ some (record_at l (i * width))
unfolding errors_of
errors_at zero l i h = absurd (not-suc-le-zero h)
errors_at (suc n) l i h =
    ⊎_elim
    (λ (e : ltb i n ≡ true).
    let low : i < n = ltb-true i n e in
    rw (at_append (errors_of n l) (record_at l (n * width) ∷ []) i (rw errors_length low)) (errors_at n l i low))
    (λ (e : ltb i n ≡ false).
    let z : i ≡ n = omega (arith, ltb-false i n e) in
    rw z (last_error n l))
    (either (ltb i n))

-- ---- one error more

module _ (l : List ℕ) (n : ℕ) (e : Error) where
  pub add_over : room_of l < n → add_to l n e ≡ record { list = l; outcome = refused 6 }
  unfolding add_to
  add_over h = rw (lt-leb _ _ h)

  pub add_full : n ≡ room_of l → add_to l n e ≡ record { list = l; outcome = refused 8 }
  unfolding add_to
  add_full h = rw (le-leb n (room_of l) (omega arith), le-ltb n (room_of l) (omega arith))

  pub add_gave : n < room_of l → add_to l n e ≡ record { list = sets l (n * width) (numbers e); outcome = gave (n + 1) }
  unfolding add_to
  add_gave h = rw (le-leb n (room_of l) (omega arith), lt-ltb _ _ h)

-- the two cases: refused and nothing changed, or one error more
pub data Adds (l : List ℕ) (n : ℕ) (e : Error) : AddLeft → Type 0 where
  left : (m : ℕ) → Adds l n e (record { list = l; outcome = refused m })
  more : n < room_of l → Adds l n e (record { list = sets l (n * width) (numbers e); outcome = gave (n + 1) })

pub adds : (l : List ℕ) (n : ℕ) (e : Error) → Adds l n e (add_to l n e)
adds l n e =
    ⊎_elim (λ (t : ltb n (room_of l) ≡ true). let h = ltb-true n (room_of l) t in rw (add_gave l n e h) (more h))
    (λ (t : ltb n (room_of l) ≡ false). none_left (ltb-false n (room_of l) t)) (either (ltb n (room_of l)))
  where
    none_left : room_of l ≤ n → Adds l n e (add_to l n e)
    none_left h =
        ⊎_elim (λ (t : leb n (room_of l) ≡ true). rw (add_full l n e (omega (arith, leb-true n (room_of l) t))) (left 8))
        (λ (t : leb n (room_of l) ≡ false). rw (add_over l n e (leb-false n (room_of l) t)) (left 6)) (either (leb n (room_of l)))

-- the error at an index
module _ (l : List ℕ) (n i : ℕ) where
  pub get_over : room_of l < n → get_of l n i ≡ refused 6
  unfolding get_of
  get_over h = rw (lt-leb _ _ h)

  pub get_nothing : n ≤ room_of l → n ≤ i → get_of l n i ≡ gave none
  unfolding get_of
  get_nothing h g = rw (le-leb _ _ h, errors_past n l i g)

  pub get_found : n ≤ room_of l → i < n → get_of l n i ≡ gave (some (record_at l (i * width)))
  unfolding get_of
  get_found h g = rw (le-leb _ _ h, errors_at n l i g)

-- ---- what adding keeps, and what it adds

module _ {l : List ℕ} {n : ℕ} {e : Error} where
  kept_length : {x : AddLeft} → Adds l n e x → length x.list ≡ length l
  kept_length (left m) = refl
  kept_length (more h) = length-sets l (n * width) (numbers e)

  kept_errors : {x : AddLeft} → Adds l n e x → errors_of n x.list ≡ errors_of n l
  kept_errors (left m) = refl
  kept_errors (more h) = errors_kept n l (n * width) (numbers e) (omega arith)

  module _ {k : ℕ} where
    count_after : {x : AddLeft} → Adds l n e x → x.outcome ≡ gave k → (k ≡ n + 1) × (k ≤ room_of l)
    count_after (left m) q = refused_gave q
    count_after (more h) q = let z : k ≡ n + 1 = cc in (z, omega arith)

    errors_after : {x : AddLeft} → Adds l n e x → x.outcome ≡ gave k → errors_of k x.list ≡ errors_of n l ++ (e ∷ [])
    unfolding errors_of
    errors_after (left m) q = refused_gave q
    errors_after (more h) q =
        let z : k ≡ suc n = (count_after (more h) q).0 ∙ add-one n in
        rw (z, errors_kept n l (n * width) (numbers e) (omega arith), error_written l (n * width) e (omega arith))

module _ (l : List ℕ) (n : ℕ) (e : Error) where
  -- the list stays as long as it was, with as much room, and so do the errors that it had
  pub add_length : length (add_to l n e).list ≡ length l
  add_length = kept_length (adds l n e)

  pub add_room : room_of (add_to l n e).list ≡ room_of l
  add_room = rw add_length

  pub add_keeps : errors_of n (add_to l n e).list ≡ errors_of n l
  add_keeps = kept_errors (adds l n e)

  -- where k errors are given
  module _ (k : ℕ) (q : (add_to l n e).outcome ≡ gave k) where
    pub add_count : k ≡ n + 1
    add_count = (count_after (adds l n e) q).0

    -- the list holds so many
    pub add_held : k ≤ room_of (add_to l n e).list
    add_held = rw add_room (count_after (adds l n e) q).1

    -- they are those that were there, and the new one
    pub add_errors : errors_of k (add_to l n e).list ≡ errors_of n l ++ (e ∷ [])
    add_errors = errors_after (adds l n e) q

    -- which is read back
    pub add_get : get_of (add_to l n e).list k n ≡ gave (some e)
    unfolding get_of
    add_get = rw (le-leb k (room_of (add_to l n e).list) add_held, add_errors) (ap gave (rw errors_length at (at_end (errors_of n l) e)))
