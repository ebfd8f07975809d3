-- Laws of texts one after the other, and of the first stray byte of a text that is not well formed.
use Prim.Native.Nat.{ℕ, zero, suc, pred, ◌+◌, ◌≤◌, ◌<◌, suc-le-suc}
use mathlib.Core.Path.{◌≡◌, refl, sym, ap, ◌∙◌}
use mathlib.Core.Bool.{true, false, not, true≢false}
use mathlib.Core.List.{List, [], ◌∷◌, ◌++◌}
use mathlib.Core.Logic.{⊎_elim}
use native.Mathlib.Omega.{arith}
use native.Mathlib.Nat.{zero-add, not-suc-le-zero, le_of_suc-le-suc, suc-add}
use lib.Dec.{lit<}
use lib.ListN.{length, get_or, take, drop, get_or-append, length-append, length-take}
use lib.Seq.{get_or-take}
use borrow.Author.Tests.{not-true, ne_eqb}
use Rattle.basics.proofs.Choice.{and_split, either}
use Rattle.utf8.specs.declared.Char.{Char}
use Rattle.utf8.specs.Chars.{stray, char_of, first_char, chars_from, chars, is_stray, no_stray, well_formed, bytes_before}
use Rattle.utf8.specs.Steps.{decoded}
use Rattle.utf8.proofs.Bytes.{View, none, one, two, three, four, view, sequence_one, sequence_two, sequence_three, sequence_four}
use Rattle.utf8.proofs.First.{first_is, first_least, first_fits}

-- ---- a well-formed character does not depend on the bytes after it
width_is : {a b c d n : ℕ} → View a b c d n → is_stray (char_of n a b c d) ≡ false → (char_of n a b c d).width ≡ n
width_is none g = absurd (true≢false g)
width_is (one h) g = refl
width_is (two h k l m) g = refl
width_is (three h k l m n o) g = refl
width_is (four h k l m n o p q) g = refl

same_bytes : {a b c d n : ℕ} (b' c' d' : ℕ) → View a b c d n → is_stray (char_of n a b c d) ≡ false → (1 < n → b ≡ b') → (2 < n → c ≡ c') → (3 < n → d ≡ d')
    → decoded a b' c' d' ≡ char_of n a b c d
unfolding decoded
same_bytes b' c' d' none g f h k = absurd (true≢false g)
same_bytes {a} b' c' d' (one l) g f h k = rw (sequence_one a b' c' d' l)
same_bytes {a} {b} b' c' d' (two l m n o) g f h k = rw (← f (lit< tt), sequence_two a b c' d' l m n o)
same_bytes {a} {b} {c} b' c' d' (three l m n o p q) g f h k = rw (← f (lit< tt), ← h (lit< tt), sequence_three a b c d' l m n o p q)
same_bytes {a} {b} {c} {d} b' c' d' (four l m n o p q r s) g f h k =
    rw (← f (lit< tt), ← h (lit< tt), ← k (lit< tt), sequence_four a b c d l m n o p q r s)

first_same : (s t : List ℕ) → 0 < length s → 0 < length t → is_stray (first_char s) ≡ false
    → ((i : ℕ) → i < (first_char s).width → get_or s i 0 ≡ get_or t i 0) → first_char t ≡ first_char s
unfolding decoded
first_same s t z y g f =
    let v = view (get_or s 0 0) (get_or s 1 0) (get_or s 2 0) (get_or s 3 0) in
    let g' = rw (first_is s z) at g in
    let e = ap (λ (c : Char). c.width) (first_is s z) ∙ width_is v g' in
    let u = first_least s in
    rw (first_is s z, first_is t y, ← f 0 u)
    (same_bytes (get_or t 1 0) (get_or t 2 0) (get_or t 3 0) v g'
    (λ q. f 1 (omega arith)) (λ q. f 2 (omega arith)) (λ q. f 3 (omega arith)))

pub first_append : (s t : List ℕ) → 0 < length s → is_stray (first_char s) ≡ false → first_char (s ++ t) ≡ first_char s
first_append s t z g =
    first_same s (s ++ t) z (omega (arith, length-append s t)) g
    (λ i q. sym (get_or-append s t 0 i (omega (arith, first_fits s z))))

first_take : (s : List ℕ) (m : ℕ) → 0 < length s → is_stray (first_char s) ≡ false → (first_char s).width ≤ m → first_char (take m s) ≡ first_char s
first_take s m z g h =
    first_same s (take m s) z (omega (arith, first_least s, length-take m s)) g
    (λ i q. sym (get_or-take m s i 0 (omega arith)))

-- ---- joined texts
-- the head of a list without a stray byte, and its tail
pub no_stray_split : (c : Char) (cs : List Char) → no_stray (c ∷ cs) ≡ true → (is_stray c ≡ false) × (no_stray cs ≡ true)
no_stray_split c cs g = let q = and_split (not (is_stray c)) (no_stray cs) g in (not-true (is_stray c) q.0, q.1)

append_from : (k : ℕ) (s t : List ℕ) → k ≤ length s → no_stray (chars_from k s) ≡ true → chars_from k (s ++ t) ≡ chars_from k s ++ chars t
unfolding chars_from
append_from zero [] t h g = refl
append_from (suc k) [] t h g = absurd (not-suc-le-zero h)
append_from zero (b ∷ s) t h g =
    let q = no_stray_split (first_char (b ∷ s)) (chars_from (pred (first_char (b ∷ s)).width) s) g in
    let f : first_char (b ∷ (s ++ t)) ≡ first_char (b ∷ s) = first_append (b ∷ s) t (omega arith) q.0 in
    rw f (ap (λ l. first_char (b ∷ s) ∷ l) (append_from (pred (first_char (b ∷ s)).width) s t (omega (arith, first_fits (b ∷ s) (omega arith))) q.1))
append_from (suc k) (b ∷ s) t h g = append_from k s t (le_of_suc-le-suc h) g

pub chars_append : (s t : List ℕ) → well_formed s ≡ true → chars (s ++ t) ≡ chars s ++ chars t
chars_append s t g = append_from 0 s t (omega arith) g

no_stray_append : (cs ds : List Char) → no_stray cs ≡ true → no_stray (cs ++ ds) ≡ no_stray ds
no_stray_append [] ds g = refl
no_stray_append (c ∷ cs) ds g = let q = no_stray_split c cs g in rw q.0 (no_stray_append cs ds q.1)

pub well_formed_append : (s t : List ℕ) → well_formed s ≡ true → well_formed (s ++ t) ≡ well_formed t
well_formed_append s t g = ap no_stray (chars_append s t g) ∙ no_stray_append (chars s) (chars t) g

-- ---- the place that `checked` gives: the bytes before it are well formed, and a stray byte stands there
pub record FirstStray (s : List ℕ) (p : ℕ) : Type 0 where
  pub inside : p < length s
  pub before : well_formed (take p s) ≡ true
  pub here : first_char (drop p s) ≡ stray

stray_view : {a b c d n : ℕ} → View a b c d n → is_stray (char_of n a b c d) ≡ true → char_of n a b c d ≡ stray
stray_view none g = refl
stray_view {a} (one h) g = absurd (true≢false (sym g ∙ simp (ne_eqb a 0xFFFD (omega arith))))
stray_view (two h k l m) g = absurd (true≢false (sym g))
stray_view (three h k l m n o) g = absurd (true≢false (sym g))
stray_view (four h k l m n o p q) g = absurd (true≢false (sym g))

pub first_stray : (s : List ℕ) → 0 < length s → is_stray (first_char s) ≡ true → first_char s ≡ stray
unfolding decoded
first_stray s z g = rw (first_is s z) (stray_view (view (get_or s 0 0) (get_or s 1 0) (get_or s 2 0) (get_or s 3 0)) (rw (first_is s z) at g))

-- the same after k bytes of a character: m is how far the first stray byte is
record StrayFrom (k : ℕ) (s : List ℕ) (m : ℕ) : Type 0 where
  inside : m < length s
  before : no_stray (chars_from k (take m s)) ≡ true
  here : first_char (drop m s) ≡ stray

stray_from : (k : ℕ) (s : List ℕ) → k ≤ length s → no_stray (chars_from k s) ≡ false → StrayFrom k s (k + bytes_before (chars_from k s))
unfolding chars_from
stray_from zero [] h g = absurd (true≢false g)
stray_from (suc k) [] h g = absurd (not-suc-le-zero h)
stray_from zero (b ∷ s) h g =
    let f = first_char (b ∷ s) in
    let ih = stray_from (pred f.width) s (omega (arith, first_fits (b ∷ s) (omega arith))) in
    ⊎_elim
    (λ (q : is_stray f ≡ true). rw q (record { inside = omega arith; before = refl; here = first_stray (b ∷ s) (omega arith) q }))
    (λ (q : is_stray f ≡ false).
    let i = ih (rw q at g) in
    let p = bytes_before (chars_from (pred f.width) s) in
    let m = pred f.width + p in
    let E : 0 + (f.width + p) ≡ suc m = omega (arith, first_least (b ∷ s)) in
    let e : first_char (b ∷ take m s) ≡ f = first_take (b ∷ s) (suc m) (omega arith) q (omega (arith, first_least (b ∷ s))) in
    rw (q, E) (record { inside = suc-le-suc i.inside; before = rw (e, q) i.before; here = i.here }))
    (either (is_stray f))
stray_from (suc k) (b ∷ s) h g =
    let i = stray_from k s (le_of_suc-le-suc h) g in
    rw suc-add (record { inside = suc-le-suc i.inside; before = i.before; here = i.here })

pub checked_stray : (s : List ℕ) → well_formed s ≡ false → FirstStray s (bytes_before (chars s))
checked_stray s g =
    let r = rw zero-add at (stray_from 0 s (omega arith) g) in
    record { inside = r.inside; before = r.before; here = r.here }
