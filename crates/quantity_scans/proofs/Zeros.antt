-- A number that is cut where it ends is read as before, also after a 0, if no i follows it: `0123i`
-- is decimal, but `0123` is octal. No i follows an INT or a FLOAT.
use Prim.Native.Nat.{ℕ, ◌+◌, ◌<◌}
use Prim.Native.Char.{code}
use mathlib.Core.Path.{◌≡◌, refl, sym, ap, ap₂, ◌∙◌}
use mathlib.Core.Bool.{Bool, true, false, cond, not, ◌&&◌, ◌||◌, false≢true, and-false}
use mathlib.Core.List.{List}
use mathlib.Core.Logic.{◌⊎◌, ⊎_elim}
use native.Mathlib.Omega.{arith}
use native.Mathlib.Nat.{add-zero}
use lib.Dec.{eqb}
use lib.ListN.{length, take, drop}
use lib.Seq.{drop-length}
use borrow.Author.Tests.{eqb-true, eqb-false, not-false}
use Rattle.basics.proofs.Choice.{either, and_split}
use Rattle.utf8.specs.declared.Char.{Char}
use Rattle.utf8.specs.Chars.{peek}
use Rattle.utf8.proofs.Ends.{peek_take}
use Rattle.kinds.specs.Kinds.{ILLEGAL, INT, FLOAT, IMAG}
use Rattle.errors.specs.Numbers.{BAD_BINARY, BAD_OCTAL, BAD_HEXADECIMAL, MISPLACED_UNDERSCORE}
use Rattle.numbers.specs.declared.Spelling.{Spelling}
use Rattle.numbers.specs.declared.Spelling.TheVariants.{AsRead, LowerPrefix, OctalPrefix, LowerExponent}
use Rattle.numbers.specs.Run.{Run, digit_run, is_digit_or_underscore, run_len}
use Rattle.numbers.specs.Number.{Numeral, after_chars, illegal, good, exponent, finish, fraction, decimal_rest, decimal, prefixed, makes_decimal, is_bare_octal, bare_zero, leading_zero, without_i, imaginary, number}
use Rattle.quantity_scans.proofs.Rules.{letter_or, by_upper_b, by_lower_b, by_upper_o, by_lower_o, by_upper_x}
use Rattle.quantity_scans.proofs.Cut.{part, peek_one, peek_other, next_other, nothing_behind, run_cut, run_whole, longest_first}
use Rattle.quantity_scans.proofs.Again.{Good, by_test, on, fraction_cut, decimal_cut, prefixed_cut, prefixed_some, octal_run}

-- a number of r without an error that no i follows
abbrev pub Plain : List Char → Numeral → Type 0
Plain r x = Good x × (eqb (peek (drop x.len r)) (code "i") ≡ false)

abbrev CutPlain : (List Char → Numeral) → List Char → Type 0
CutPlain f r = Plain r (f r) → f (take (f r).len r) ≡ f r

-- what follows the longest run of digits and underscores
abbrev behind_run : List Char → ℕ
behind_run r = peek (drop (run_len r) r)

-- ---- a decimal number before `.`, e, E or i
rest_some : (r : List Char) → makes_decimal (peek r) ≡ true → eqb (peek r) (code "i") ≡ false → 0 < (decimal_rest r).len
unfolding decimal_rest finish
rest_some r m i = go (eqb (peek r) (code ".")) (eqb (peek r) (code "e")) (eqb (peek r) (code "E")) (eqb (peek r) (code "i")) m i
  where
    go : (a b c d : Bool) → a || b || c || d ≡ true → d ≡ false
        → 0 < (cond a (after_chars 1 (fraction (drop 1 r))) (cond b (after_chars 1 (exponent AsRead (drop 1 r))) (cond c (after_chars 1 (exponent LowerExponent (drop 1 r))) (good INT 0 AsRead)))).len
    go true b c d m i = omega arith
    go false true c d m i = omega arith
    go false false true d m i = omega arith
    go false false false d m i = absurd (false≢true (sym i ∙ m))

rest_none : (r : List Char) → eqb (peek r) (code "i") ≡ true → (decimal_rest r).len ≡ 0
unfolding decimal_rest finish
rest_none r i = rw (eqb-true (peek r) (code "i") i)

module _ (r : List Char) where
  abbrev d : Run
  d = digit_run 10 false r

  abbrev rest : List Char
  rest = drop d.len r

  decimal_good : Good (decimal r) → (d.misplaced ≡ false) × ((decimal r).len ≡ d.len + (decimal_rest rest).len)
  unfolding decimal
  decimal_good = go d.misplaced
    where
      go : (b : Bool) → Good (cond b (illegal MISPLACED_UNDERSCORE d.len AsRead) (after_chars d.len (decimal_rest rest)))
          → (b ≡ false) × ((cond b (illegal MISPLACED_UNDERSCORE d.len AsRead) (after_chars d.len (decimal_rest rest))).len ≡ d.len + (decimal_rest rest).len)
      go true g = absurd (g refl)
      go false g = (refl, refl)

  module _ (p : Plain r (decimal r)) (m : makes_decimal (behind_run r) ≡ true) where
    behind_is : behind_run r ≡ peek rest
    behind_is = ap (λ n. peek (drop n r)) (run_whole false r (decimal_good p.0).0)

    -- so something is read after the digits: an i would follow the number
    marked_some : 0 < (decimal_rest rest).len
    marked_some =
        ⊎_elim
        (λ (t : eqb (peek rest) (code "i") ≡ true).
        let l = (decimal_good p.0).1 ∙ ap (λ n. d.len + n) (rest_none rest t) ∙ add-zero d.len in
        absurd (false≢true (sym p.1 ∙ ap (λ n. eqb (peek (drop n r)) (code "i")) l ∙ t)))
        (λ (f : eqb (peek rest) (code "i") ≡ false). rest_some rest (ap makes_decimal (sym behind_is) ∙ m) f) (either (eqb (peek rest) (code "i")))

    -- and the cut keeps it
    marked_cut : makes_decimal (behind_run (take (decimal r).len r)) ≡ true
    marked_cut =
        let h = decimal_good p.0 in
        let l = (decimal_rest rest).len in
        let cut = run_cut 10 false r (d.len + l) h.0 (omega arith) in
        let whole = run_whole false (take (d.len + l) r) (ap (λ (x : Run). x.misplaced) cut ∙ h.0) ∙ ap (λ (x : Run). x.len) cut in
        rw (h.1, whole, part d.len l r, peek_take l rest marked_some) (ap makes_decimal (sym behind_is) ∙ m)

  -- a number that is not octal stays so
  decimal_kept : is_bare_octal r ≡ false → Plain r (decimal r) → is_bare_octal (take (decimal r).len r) ≡ false
  decimal_kept t p =
      let n = (decimal r).len in
      ⊎_elim
      (λ (a : is_digit_or_underscore (peek (drop 1 r)) ≡ true).
      rw (marked_cut p (not-false (makes_decimal (behind_run r)) (rw a at t)), and-false (is_digit_or_underscore (peek (drop 1 (take n r))))))
      (λ (a : is_digit_or_underscore (peek (drop 1 r)) ≡ false). rw (next_other is_digit_or_underscore refl n r a)) (either (is_digit_or_underscore (peek (drop 1 r))))

  -- ---- a bare octal number is the whole run
  module _ (z : eqb (peek r) (code "0") ≡ true) (g : Good (prefixed 8 BAD_OCTAL OctalPrefix (drop 1 r))) where
    abbrev n : ℕ
    n = (prefixed 8 BAD_OCTAL OctalPrefix (drop 1 r)).len

    octal_whole : run_len (take (1 + n) r) ≡ 1 + n
    octal_whole =
        let first = ap is_digit_or_underscore (peek_one n r ∙ eqb-true (peek r) (code "0") z) in
        longest_first (take (1 + n) r) first ∙ ap (λ k. 1 + k) (ap run_len (part 1 n r) ∙ octal_run BAD_OCTAL OctalPrefix (drop 1 r) g)

    octal_kept : is_bare_octal r ≡ true → is_bare_octal (take (1 + n) r) ≡ true
    octal_kept t =
        let a = (and_split (is_digit_or_underscore (peek (drop 1 r))) (not (makes_decimal (behind_run r))) t).0 in
        let second = ap peek (part 1 n r) ∙ peek_take n (drop 1 r) (prefixed_some 8 BAD_OCTAL OctalPrefix (drop 1 r) g) in
        ap₂ (λ x y. is_digit_or_underscore x && not (makes_decimal y)) second (ap (λ k. peek (drop k (take (1 + n) r))) octal_whole ∙ nothing_behind (1 + n) r)
        ∙ rw a

  bare_cut : eqb (peek r) (code "0") ≡ true → CutPlain bare_zero r
  unfolding bare_zero
  bare_cut z p =
      by_test (Plain r) (λ n. is_bare_octal (take n r)) (λ n. after_chars 1 (prefixed 8 BAD_OCTAL OctalPrefix (drop 1 (take n r)))) (λ n. decimal (take n r))
      (is_bare_octal r) (after_chars 1 (prefixed 8 BAD_OCTAL OctalPrefix (drop 1 r))) (decimal r) p
      (λ t c. (octal_kept z c.0 t, on 1 (prefixed 8 BAD_OCTAL OctalPrefix) r (prefixed_cut 8 BAD_OCTAL OctalPrefix (drop 1 r)) c.0))
      (λ t c. (decimal_kept t c, decimal_cut r c.0))

  -- ---- a prefix
  letter_cut : (x base error : ℕ) (sp : Spelling) (f : List Char → Numeral) → eqb 0 x ≡ false → CutPlain f r → CutPlain (letter_or x base error sp f) r
  letter_cut x base error sp f z h p =
      by_test (Plain r) (λ n. eqb (peek (drop 1 (take n r))) x) (λ n. after_chars 2 (prefixed base error sp (drop 2 (take n r)))) (λ n. f (take n r))
      (eqb (peek (drop 1 r)) x) (after_chars 2 (prefixed base error sp (drop 2 r))) (f r) p
      (λ t c. (ap (λ y. eqb y x) (next_two (prefixed base error sp (drop 2 r)).len) ∙ t, on 2 (prefixed base error sp) r (prefixed_cut base error sp (drop 2 r)) c.0))
      (λ t c. (next_other (λ y. eqb y x) z (f r).len r t, h c))
    where
      next_two : (l : ℕ) → peek (drop 1 (take (2 + l) r)) ≡ peek (drop 1 r)
      next_two l = let e : 2 + l ≡ 1 + (1 + l) = omega arith in ap (λ i. peek (drop 1 (take i r))) e ∙ ap peek (part 1 (1 + l) r) ∙ peek_one l (drop 1 r)

  zero_cut : eqb (peek r) (code "0") ≡ true → CutPlain leading_zero r
  unfolding leading_zero
  zero_cut z =
      letter_cut (code "x") 16 BAD_HEXADECIMAL AsRead by_upper_x refl
      (letter_cut (code "X") 16 BAD_HEXADECIMAL LowerPrefix by_lower_o refl
      (letter_cut (code "o") 8 BAD_OCTAL AsRead by_upper_o refl
      (letter_cut (code "O") 8 BAD_OCTAL LowerPrefix by_lower_b refl
      (letter_cut (code "b") 2 BAD_BINARY AsRead by_upper_b refl (letter_cut (code "B") 2 BAD_BINARY LowerPrefix bare_zero refl (bare_cut z))))))

  -- ---- any number
  without_cut : 0 < (without_i r).len → CutPlain without_i r
  unfolding without_i
  without_cut some p =
      by_test (Plain r) (λ n. eqb (peek (take n r)) (code ".")) (λ n. after_chars 1 (fraction (drop 1 (take n r))))
      (λ n. cond (eqb (peek (take n r)) (code "0")) (leading_zero (take n r)) (decimal (take n r)))
      (eqb (peek r) (code ".")) (after_chars 1 (fraction (drop 1 r))) (cond (eqb (peek r) (code "0")) (leading_zero r) (decimal r)) p
      (λ t c. (ap (λ y. eqb y (code ".")) (peek_one (fraction (drop 1 r)).len r) ∙ t, on 1 fraction r (fraction_cut (drop 1 r)) c.0))
      (λ t c. (
        peek_other (λ y. eqb y (code ".")) refl (cond (eqb (peek r) (code "0")) (leading_zero r) (decimal r)).len r t,
        by_test (Plain r) (λ n. eqb (peek (take n r)) (code "0")) (λ n. leading_zero (take n r)) (λ n. decimal (take n r))
            (eqb (peek r) (code "0")) (leading_zero r) (decimal r) c
            (λ u q. (ap (λ y. eqb y (code "0")) (peek_take (leading_zero r).len r (rw (t, u) at some)) ∙ u, zero_cut u q))
            (λ u q. (peek_other (λ y. eqb y (code "0")) refl (decimal r).len r u, decimal_cut r q.0)),
      ))

abbrev pub Real : ℕ → Type 0
Real kind = (kind ≡ INT) ⊎ (kind ≡ FLOAT)

-- an INT or a FLOAT is read without an i
pub number_plain : (r : List Char) → Real (number r).kind → (number r ≡ without_i r) × Plain r (without_i r)
unfolding number
number_plain r k = go (eqb (without_i r).kind ILLEGAL) (eqb (peek (drop (without_i r).len r)) (code "i")) refl refl k
  where
    i : Numeral
    i = record { kind = IMAG; len = (without_i r).len + 1; error = 0; spelling = (without_i r).spelling }

    go : (x y : Bool) → eqb (without_i r).kind ILLEGAL ≡ x → eqb (peek (drop (without_i r).len r)) (code "i") ≡ y
        → Real (cond x (without_i r) (cond y i (without_i r))).kind → (cond x (without_i r) (cond y i (without_i r)) ≡ without_i r) × Plain r (without_i r)
    go true y e f k = let z = eqb-true (without_i r).kind ILLEGAL e in absurd (⊎_elim (λ h. omega (arith, h, z)) (λ h. omega (arith, h, z)) k)
    go false true e f k = absurd (⊎_elim (λ h. omega (arith, h)) (λ h. omega (arith, h)) k)
    go false false e f k = (refl, (eqb-false (without_i r).kind ILLEGAL e, f))

imaginary_none : (x : Numeral) → imaginary x 0 ≡ x
imaginary_none x = go (eqb x.kind ILLEGAL)
  where
    go : (b : Bool) → cond b x x ≡ x
    go true = refl
    go false = refl

-- nothing follows a number
number_ended : (q : List Char) (x : Numeral) → without_i q ≡ x → peek (drop x.len q) ≡ 0 → number q ≡ x
unfolding number
number_ended q x e z = rw (e, z) (imaginary_none x)

-- a number of a whole list
pub number_whole : (q : List Char) (x : Numeral) → without_i q ≡ x → x.len ≡ length q → number q ≡ x
number_whole q x e h = number_ended q x e (ap (λ i. peek (drop i q)) h ∙ ap peek (drop-length q))

-- a number that is cut where it ends
pub number_cut : (r : List Char) → Real (number r).kind → 0 < (number r).len → number (take (number r).len r) ≡ number r
number_cut r k some =
    let p = number_plain r k in
    let x = without_i r in
    let c = without_cut r (rw p.0 at some) p.1 in
    ap (λ (y : Numeral). number (take y.len r)) p.0 ∙ number_ended (take x.len r) x c (nothing_behind x.len r) ∙ sym p.0
