-- Laws of a body's text: its length, and that it is the bytes read just where there is no CR and no stray byte among them.
use Prim.Native.Nat.{ℕ, zero, suc, ◌+◌, ◌*◌, ◌/◌, ◌%◌, ◌≤◌, ◌<◌}
use Prim.Native.Char.{code}
use mathlib.Core.Path.{◌≡◌, refl, sym, ap, ap₂, ◌∙◌}
use mathlib.Core.Bool.{Bool, true, false, not, ◌||◌, false≢true}
use mathlib.Core.List.{List, [], ◌∷◌, ◌++◌, append_assoc}
use mathlib.Core.Logic.{⊎_elim}
use native.Mathlib.Omega.{arith}
use native.Mathlib.Decide.{dec_lt}
use native.Mathlib.Nat.{not-suc-le-zero, add_assoc, zero-add}
use lib.Dec.{eqb, lit≤, lit<}
use lib.ListN.{length, get_or, take, drop, length-append, length-drop}
use lib.Seq.{length-take-le, take-add, drop-drop}
use borrow.Author.Tests.{eq-eqb, ne_eqb, eqb-true, lt-ltb}
use Rattle.basics.specs.Same.{same}
use Rattle.basics.proofs.Choice.{cond_ind, either}
use Rattle.basics.proofs.Lists.{same_refl, same_true}
use Rattle.utf8.specs.declared.Char.{Char}
use Rattle.utf8.specs.Chars.{first_char, chars, widths, is_stray, is_scalar, octets, encode}
use Rattle.utf8.proofs.First.{ascii, ascii_there, chars_at, chars_end, first_fits}
use Rattle.utf8.proofs.Places.{code_there, place_fits}
use Rattle.utf8.proofs.Append.{first_stray}
use Rattle.utf8.proofs.Encoding.{first_coded, octets_two, octets_three, octets_four}
use Rattle.utf8.specs.Count.{is_cr, one, count}
use Rattle.spans.specs.Body.{cleaned, clean}

-- ---- one character, the first of a text
module _ (t : List ℕ) (z : 0 < length t) where
  cr_byte : is_cr (first_char t) ≡ true → get_or t 0 0 ≡ code "\r"
  cr_byte e = eqb-true (get_or t 0 0) (code "\r") (sym (code_there t 0 (code "\r") z (lit< tt)) ∙ e)

  cr_char : is_cr (first_char t) ≡ true → first_char t ≡ ascii (code "\r")
  cr_char e = let b = cr_byte e in ascii_there t 0 z (omega arith) ∙ ap ascii b

  char_length : length (cleaned (first_char t)) + one (is_cr (first_char t)) ≡ (first_char t).width + 2 * one (is_stray (first_char t))
  unfolding encode octets
  char_length =
      ⊎_elim
      (λ (e : is_cr (first_char t) ≡ true). rw (cr_char e))
      (λ (e : is_cr (first_char t) ≡ false).
      ⊎_elim
      (λ (g : is_stray (first_char t) ≡ true). rw (first_stray t z g))
      (λ (g : is_stray (first_char t) ≡ false). rw (e, g, first_coded t z g) (omega (arith, length-take-le (first_char t).width t (first_fits t z))))
      (either (is_stray (first_char t))))
      (either (is_cr (first_char t)))

  char_same : is_cr (first_char t) ≡ false → is_stray (first_char t) ≡ false → cleaned (first_char t) ≡ take (first_char t).width t
  char_same e g = rw e (first_coded t z g)

-- ---- the length of the text
module _ (s : List ℕ) where
  inside : (p : ℕ) → p < length s → 0 < length (drop p s)
  inside p h = omega (arith, length-drop p s)

  pub clean_length : (k p : ℕ)
      → length (clean (take k (chars (drop p s)))) + count is_cr (take k (chars (drop p s)))
      ≡ widths (take k (chars (drop p s))) + 2 * count is_stray (take k (chars (drop p s)))
  unfolding clean
  clean_length zero p = refl
  clean_length (suc k) p =
      elim (dec_lt p (length s)) [
        | yes h ↦
            let c = first_char (drop p s) in
            rw (chars_at s p h, length-append) (omega (arith, char_length (drop p s) (inside p h), clean_length k (p + c.width)))
        | no h ↦ rw (chars_end s p (omega arith))
      ]

-- ---- the text is what was read
none_first : (t : Bool) (n : ℕ) → one t + n ≡ 0 → (t ≡ false) × (n ≡ 0)
none_first true n e = absurd (omega arith)
none_first false n e = (refl, omega arith)

pub clean_same : (s : List ℕ) (k p : ℕ) → count is_cr (take k (chars (drop p s))) ≡ 0 → count is_stray (take k (chars (drop p s))) ≡ 0
    → clean (take k (chars (drop p s))) ≡ take (widths (take k (chars (drop p s)))) (drop p s)
unfolding clean
clean_same s zero p e g = refl
clean_same s (suc k) p e g =
    elim (dec_lt p (length s)) [
      | yes h ↦
          let c = first_char (drop p s) in
          let cs = take k (chars (drop (p + c.width) s)) in
          let u = none_first (is_cr c) (count is_cr cs) (rw (chars_at s p h) at e) in
          let v = none_first (is_stray c) (count is_stray cs) (rw (chars_at s p h) at g) in
          rw (chars_at s p h, take-add, drop-drop c.width p s)
          (ap₂ ◌++◌ (char_same (drop p s) (inside s p h) u.0 v.0) (clean_same s k (p + c.width) u.1 v.1))
      | no h ↦ rw (chars_end s p (omega arith))
    ]

-- ---- else they differ: the text has no CR, and without CRs a stray byte makes it longer
crs_of : List ℕ → ℕ
crs_of [] = 0
crs_of (b ∷ l) = one (eqb b (code "\r")) + crs_of l

crs_append : (l m : List ℕ) → crs_of (l ++ m) ≡ crs_of l + crs_of m
unfolding crs_of
crs_append [] m = sym (zero-add _)
crs_append (b ∷ l) m = rw (crs_append l m) (sym (add_assoc (one (eqb b (code "\r"))) (crs_of l) (crs_of m)))

no_cr : (b : ℕ) → 0x80 ≤ b → eqb b (code "\r") ≡ false
no_cr b h = ne_eqb b (code "\r") (λ e. omega arith)

octets_no_cr : (n : ℕ) → eqb n (code "\r") ≡ false → crs_of (octets n) ≡ 0
unfolding crs_of octets
octets_no_cr n e =
    elim (dec_lt n 0x80) [
      | yes h ↦ rw (lt-ltb n 0x80 h, e)
      | no h ↦ elim (dec_lt n 0x800) [
        | yes k ↦ rw (octets_two n (omega arith) k, no_cr (0xC0 + n / 64) (omega arith), no_cr (0x80 + n % 64) (omega arith))
        | no k ↦ elim (dec_lt n 0x10000) [
          | yes l ↦
              rw (
                octets_three n (omega arith) l,
                no_cr (0xE0 + n / 4096) (omega arith),
                no_cr (0x80 + n / 64 % 64) (omega arith),
                no_cr (0x80 + n % 64) (omega arith),
              )
          | no l ↦
              rw (
                octets_four n (omega arith),
                no_cr (0xF0 + n / 262144) (omega arith),
                no_cr (0x80 + n / 4096 % 64) (omega arith),
                no_cr (0x80 + n / 64 % 64) (omega arith),
                no_cr (0x80 + n % 64) (omega arith),
              )
        ]
      ]
    ]

cleaned_no_cr : (c : Char) → crs_of (cleaned c) ≡ 0
unfolding crs_of encode
cleaned_no_cr c =
    cond_ind (λ l. crs_of l ≡ 0) (is_cr c) [] (encode c.code) (λ e. refl)
    (λ e. cond_ind (λ l. crs_of l ≡ 0) (is_scalar c.code) (octets c.code) [] (λ g. octets_no_cr c.code e) (λ g. refl))

clean_no_cr : (cs : List Char) → crs_of (clean cs) ≡ 0
unfolding clean crs_of
clean_no_cr [] = refl
clean_no_cr (c ∷ cs) = crs_append (cleaned c) (clean cs) ∙ ap₂ ◌+◌ (cleaned_no_cr c) (clean_no_cr cs)

char_crs : (t : List ℕ) → 0 < length t → one (is_cr (first_char t)) ≤ crs_of (take (first_char t).width t)
unfolding crs_of
char_crs [] z = absurd (not-suc-le-zero z)
char_crs (b ∷ t) z =
    ⊎_elim
    (λ (e : is_cr (first_char (b ∷ t)) ≡ true). rw (cr_char (b ∷ t) z e, eq-eqb b (code "\r") (cr_byte (b ∷ t) z e)) (lit≤ tt))
    (λ (e : is_cr (first_char (b ∷ t)) ≡ false). rw e (omega arith))
    (either (is_cr (first_char (b ∷ t))))

crs_read : (s : List ℕ) (k p : ℕ) → count is_cr (take k (chars (drop p s))) ≤ crs_of (take (widths (take k (chars (drop p s)))) (drop p s))
crs_read s zero p = omega arith
crs_read s (suc k) p =
    elim (dec_lt p (length s)) [
      | yes h ↦
          let c = first_char (drop p s) in
          rw (chars_at s p h, take-add, drop-drop c.width p s, crs_append)
          (omega (arith, char_crs (drop p s) (inside s p h), crs_read s k (p + c.width)))
      | no h ↦ rw (chars_end s p (omega arith)) (omega arith)
    ]

pub clean_only : (s : List ℕ) (k p : ℕ) → p ≤ length s → clean (take k (chars (drop p s))) ≡ take (widths (take k (chars (drop p s)))) (drop p s)
    → (count is_cr (take k (chars (drop p s))) ≡ 0) × (count is_stray (take k (chars (drop p s))) ≡ 0)
clean_only s k p h e =
    let cs = take k (chars (drop p s)) in
    let none : count is_cr cs ≡ 0 = omega (arith, crs_read s k p, sym (ap crs_of e) ∙ clean_no_cr cs) in
    let size = ap length e ∙ length-take-le (widths cs) (drop p s) (omega (arith, place_fits k s p h, length-drop p s)) in
    (none, omega (arith, clean_length s k p))

-- the text and a line feed are never what was read
pub clean_fed : (s : List ℕ) (k p : ℕ) → p ≤ length s → same (clean (take k (chars (drop p s))) ++ ((code "\n") ∷ [])) (take (widths (take k (chars (drop p s)))) (drop p s)) ≡ false
unfolding crs_of
clean_fed s k p h =
    let cs = take k (chars (drop p s)) in
    let bytes = take (widths cs) (drop p s) in
    let fed : List ℕ = clean cs ++ ((code "\n") ∷ []) in
    ⊎_elim
    (λ (t : same fed bytes ≡ true).
    let e = same_true fed bytes t in
    let none : count is_cr cs ≡ 0 = omega (arith, crs_read s k p, sym (ap crs_of e) ∙ crs_append (clean cs) ((code "\n") ∷ []), clean_no_cr cs) in
    let size = ap length e ∙ length-take-le (widths cs) (drop p s) (omega (arith, place_fits k s p h, length-drop p s)) in
    absurd (omega (arith, clean_length s k p, length-append (clean cs) ((code "\n") ∷ []))))
    (λ (t : same fed bytes ≡ false). t)
    (either (same fed bytes))

-- so the counts tell whether they differ
differs_by : (s : List ℕ) (k p : ℕ) → p ≤ length s → (t c u : Bool)
    → same (clean (take k (chars (drop p s)))) (take (widths (take k (chars (drop p s)))) (drop p s)) ≡ t
    → eqb (count is_cr (take k (chars (drop p s)))) 0 ≡ c → eqb (count is_stray (take k (chars (drop p s)))) 0 ≡ u → not t ≡ not c || not u
differs_by s k p h true c u e f g =
    let cs = take k (chars (drop p s)) in
    let z = clean_only s k p h (same_true (clean cs) (take (widths cs) (drop p s)) e) in
    rw (sym f ∙ eq-eqb (count is_cr cs) 0 z.0, sym g ∙ eq-eqb (count is_stray cs) 0 z.1)
differs_by s k p h false true true e f g =
    let cs = take k (chars (drop p s)) in
    let z = clean_same s k p (eqb-true (count is_cr cs) 0 f) (eqb-true (count is_stray cs) 0 g) in
    absurd (false≢true (sym e ∙ ap (same (clean cs)) (sym z) ∙ same_refl (clean cs)))
differs_by s k p h false true false e f g = refl
differs_by s k p h false false u e f g = refl

pub clean_differs : (s : List ℕ) (k p : ℕ) → p ≤ length s
    → not (same (clean (take k (chars (drop p s)))) (take (widths (take k (chars (drop p s)))) (drop p s)))
    ≡ not (eqb (count is_cr (take k (chars (drop p s)))) 0) || not (eqb (count is_stray (take k (chars (drop p s)))) 0)
clean_differs s k p h =
    let cs = take k (chars (drop p s)) in
    differs_by s k p h (same (clean cs) (take (widths cs) (drop p s))) (eqb (count is_cr cs) 0) (eqb (count is_stray cs) 0) refl refl refl

pub clean_append : (a b : List Char) → clean (a ++ b) ≡ clean a ++ clean b
unfolding clean
clean_append [] b = refl
clean_append (c ∷ a) b = rw (clean_append a b) (sym (append_assoc (cleaned c) (clean a) (clean b)))
