-- A number in a text that ends in a line feed does not read that line feed, and is the same with more text after it.
use Prim.Native.Nat.{ℕ, suc, ◌+◌, ◌≤◌, ◌<◌}
use Prim.Native.Char.{code}
use mathlib.Core.Path.{◌≡◌, refl, ap, ap₂, ◌∙◌}
use mathlib.Core.Bool.{Bool, true, false, cond, not, ◌&&◌, ◌||◌}
use mathlib.Core.List.{List, [], ◌∷◌, ◌++◌}
use mathlib.Core.Logic.{⊎_elim}
use native.Mathlib.Omega.{arith}
use lib.Dec.{ltb, leb, eqb, lit≤}
use lib.ListN.{length, drop, length-drop}
use lib.Seq.{drop-append-le}
use borrow.Author.Tests.{ltb-true, eqb-true}
use Rattle.basics.proofs.Choice.{either}
use Rattle.utf8.specs.declared.Char.{Char}
use Rattle.utf8.specs.Chars.{peek}
use Rattle.utf8.proofs.Ends.{Ends, ends_tail, ends_some, ends_drop, peek_append, more_behind}
use Rattle.kinds.specs.Kinds.{ILLEGAL, INT, FLOAT, IMAG}
use Rattle.errors.specs.Numbers.{BAD_BINARY, BAD_OCTAL, BAD_HEXADECIMAL, MISPLACED_UNDERSCORE, BAD_EXPONENT}
use Rattle.digits.specs.Digit.{digit_val, is_decimal}
use Rattle.numbers.specs.declared.Spelling.{Spelling}
use Rattle.numbers.specs.declared.Spelling.TheVariants.{AsRead, LowerPrefix, OctalPrefix, LowerExponent}
use Rattle.numbers.specs.Run.{Run, end_of_run, longer_run, digit_run, strict_run, is_digit_or_underscore, run_len}
use Rattle.numbers.proofs.Runs.{digit_from, in_run_plain}
use Rattle.numbers.specs.Number.{Numeral, after_chars, illegal, good, exponent_digits, exponent, finish, fraction, decimal_rest, decimal, prefixed, makes_decimal, is_bare_octal, bare_zero, leading_zero, without_i, number}

-- ---- runs of digits
RunLocal : (List Char → Run) → List Char → List Char → Type 0
RunLocal f r t = (f (r ++ t) ≡ f r) × ((f r).len < length r)

-- a line feed is no digit
no_feed : (c : Char) (base : ℕ) → base ≤ 16 → ltb (digit_val c.code) base ≡ true → c.code ≡ code "\n" → ⊥
no_feed c base b e z = let l = ltb-true (digit_val c.code) base e in omega (arith, digit_from c.code (omega arith))

run_local : (base : ℕ) → base ≤ 16 → (u : Bool) (r t : List Char) → Ends r → RunLocal (digit_run base u) r t
unfolding RunLocal digit_run
run_local base b u [] t h = absurd h
run_local base b u (c ∷ r) t h = go (ltb (digit_val c.code) base) (eqb c.code (code "_")) u refl refl (λ v. run_local base b v r t)
  where
    go : (x y v : Bool) → ltb (digit_val c.code) base ≡ x → eqb c.code (code "_") ≡ y → ((w : Bool) → Ends r → (digit_run base w (r ++ t) ≡ digit_run base w r) × ((digit_run base w r).len < length r))
        → (cond x (longer_run (digit_run base false (r ++ t))) (cond y (cond v (end_of_run true) (longer_run (digit_run base true (r ++ t)))) (end_of_run v))
        ≡ cond x (longer_run (digit_run base false r)) (cond y (cond v (end_of_run true) (longer_run (digit_run base true r))) (end_of_run v)))
        × ((cond x (longer_run (digit_run base false r)) (cond y (cond v (end_of_run true) (longer_run (digit_run base true r))) (end_of_run v))).len < suc (length r))
    go true y v d e ih = let q = ih false (ends_tail c r h (no_feed c base b d)) in (ap longer_run q.0, omega (arith, q.1))
    go false true true d e ih = (refl, omega arith)
    go false true false d e ih =
        let q = ih true (ends_tail c r h (λ z. omega (arith, eqb-true c.code (code "_") e))) in (ap longer_run q.0, omega (arith, q.1))
    go false false v d e ih = (refl, omega arith)

strict_local : (base : ℕ) → base ≤ 16 → (r t : List Char) → Ends r → RunLocal (strict_run base) r t
unfolding RunLocal strict_run
strict_local base b [] t h = absurd h
strict_local base b (c ∷ r) t h = go (eqb c.code (code "_")) (unfold RunLocal in run_local base b false (c ∷ r) t h)
  where
    go : (x : Bool) → (digit_run base false (c ∷ (r ++ t)) ≡ digit_run base false (c ∷ r)) × ((digit_run base false (c ∷ r)).len < suc (length r))
        → (cond x (end_of_run true) (digit_run base false (c ∷ (r ++ t))) ≡ cond x (end_of_run true) (digit_run base false (c ∷ r)))
        × ((cond x (end_of_run true) (digit_run base false (c ∷ r))).len < suc (length r))
    go true q = (refl, omega arith)
    go false q = q

longest_local : (r t : List Char) → Ends r → (run_len (r ++ t) ≡ run_len r) × (run_len r < length r)
unfolding run_len
longest_local [] t h = absurd h
longest_local (c ∷ r) t h = go (is_digit_or_underscore c.code) refl (longest_local r t)
  where
    go : (x : Bool) → is_digit_or_underscore c.code ≡ x → (Ends r → (run_len (r ++ t) ≡ run_len r) × (run_len r < length r))
        → (cond x (suc (run_len (r ++ t))) 0 ≡ cond x (suc (run_len r)) 0) × (cond x (suc (run_len r)) 0 < suc (length r))
    go true e ih = let q = ih (ends_tail c r h (in_run_plain c.code e).2) in (ap suc q.0, omega (arith, q.1))
    go false e ih = (refl, omega arith)

-- ---- readings
abbrev Local : (List Char → Numeral) → List Char → List Char → Type 0
Local f r t = (f (r ++ t) ≡ f r) × ((f r).len < length r)

abbrev Locally : (List Char → Numeral) → Type 0
Locally f = (r t : List Char) → Ends r → Local f r t

-- a choice by a test that more text after does not change
by_test : (r t : List Char) (p q : Bool) (a b c d : Numeral) → p ≡ q → (q ≡ true → (a ≡ c) × (c.len < length r)) → (q ≡ false → (b ≡ d) × (d.len < length r))
    → (cond p a b ≡ cond q c d) × ((cond q c d).len < length r)
by_test r t p true a b c d e f g = let h = f refl in (rw e h.0, h.1)
by_test r t p false a b c d e f g = let h = g refl in (rw e h.0, h.1)

-- n characters on
on : (n : ℕ) (f : List Char → Numeral) → Locally f → (r t : List Char) → Ends r → n < length r
    → (after_chars n (f (drop n (r ++ t))) ≡ after_chars n (f (drop n r))) × ((after_chars n (f (drop n r))).len < length r)
on n f l r t h k =
    let q = l (drop n r) t (ends_drop n r k h) in
    (rw (drop-append-le n r t (omega arith)) (ap (after_chars n) q.0), omega (arith, q.1, length-drop n r))

next_same : (r t : List Char) → Ends r → peek (r ++ t) ≡ peek r
next_same r t h = peek_append 0 r t (ends_some r h)

exponent_digits_local : (sp : Spelling) → Locally (λ r. exponent_digits sp (strict_run 10 r))
unfolding RunLocal
exponent_digits_local sp r t h =
    let q = strict_local 10 (lit≤ tt) r t h in
    let d = strict_run 10 r in
    (ap (exponent_digits sp) q.0, cond_len d.misplaced (eqb d.len 0) d.len q.1)
  where
    cond_len : (x y : Bool) (n : ℕ) → n < length r → (cond x (illegal MISPLACED_UNDERSCORE n sp) (cond y (illegal BAD_EXPONENT 0 sp) (good FLOAT n sp))).len < length r
    cond_len true y n l = l
    cond_len false true n l = omega arith
    cond_len false false n l = l

exponent_local : (sp : Spelling) → Locally (exponent sp)
unfolding exponent
exponent_local sp r t h =
    by_test r t _ _ _ _ _ _ (ap (λ x. eqb x (code "+") || eqb x (code "-")) (next_same r t h))
    (λ e. on 1 (λ q. exponent_digits sp (strict_run 10 q)) (exponent_digits_local sp) r t h (signed e)) (λ _. exponent_digits_local sp r t h)
  where
    signed : eqb (peek r) (code "+") || eqb (peek r) (code "-") ≡ true → 1 < length r
    signed e =
        ⊎_elim (λ f. more_behind r (code "+") h f (λ z. omega arith)) (λ f. more_behind r (code "-") h (rw f at e) (λ z. omega arith)) (either (eqb (peek r) (code "+")))

finish_local : (kind : ℕ) → Locally (finish kind)
unfolding finish
finish_local kind r t h =
    by_test r t _ _ _ _ _ _ (ap (λ x. eqb x (code "e")) (next_same r t h)) (λ e. on 1 (exponent AsRead) (exponent_local AsRead) r t h (more_behind r (code "e") h e (λ z. omega arith)))
    (λ _. by_test r t _ _ _ _ _ _ (ap (λ x. eqb x (code "E")) (next_same r t h)) (λ e. on 1 (exponent LowerExponent) (exponent_local LowerExponent) r t h (more_behind r (code "E") h e (λ z. omega arith)))
    (λ _. (refl, ends_some r h)))

fraction_local : Locally fraction
unfolding fraction RunLocal
fraction_local r t h =
    let q = strict_local 10 (lit≤ tt) r t h in
    rw q.0 (by_test r t (strict_run 10 r).misplaced _ _ _ _ _ refl (λ _. (refl, q.1)) (λ _. on (strict_run 10 r).len (finish FLOAT) (finish_local FLOAT) r t h q.1))

rest_local : Locally decimal_rest
unfolding decimal_rest
rest_local r t h =
    by_test r t _ _ _ _ _ _ (ap (λ x. eqb x (code ".")) (next_same r t h)) (λ e. on 1 fraction fraction_local r t h (more_behind r (code ".") h e (λ z. omega arith)))
    (λ _. finish_local INT r t h)

decimal_local : Locally decimal
unfolding decimal RunLocal
decimal_local r t h =
    let q = run_local 10 (lit≤ tt) false r t h in
    rw q.0 (by_test r t (digit_run 10 false r).misplaced _ _ _ _ _ refl (λ _. (refl, q.1)) (λ _. on (digit_run 10 false r).len decimal_rest rest_local r t h q.1))

prefixed_local : (base error : ℕ) (sp : Spelling) → base ≤ 16 → Locally (prefixed base error sp)
unfolding prefixed RunLocal
prefixed_local base error sp b r t h =
    let q = run_local base b false r t h in
    let d = digit_run base false r in
    let p = peek_append d.len r t q.1 in
    rw (q.0, p) (refl, cond_len d.misplaced (eqb d.len 0 || (leb base 8 && is_decimal (peek (drop d.len r)))) d.len q.1)
  where
    cond_len : (x y : Bool) (n : ℕ) → n < length r → (cond x (illegal MISPLACED_UNDERSCORE n sp) (cond y (illegal error n sp) (good INT n sp))).len < length r
    cond_len true y n l = l
    cond_len false true n l = l
    cond_len false false n l = l

-- ---- after a 0, which is not the last character
module _ (r t : List Char) (h : Ends r) (k : 1 < length r) where
  octal_same : is_bare_octal (r ++ t) ≡ is_bare_octal r
  octal_same =
      let q = longest_local r t h in
      ap₂ (λ x y. is_digit_or_underscore x && not (makes_decimal y)) (peek_append 1 r t k) (ap (λ n. peek (drop n (r ++ t))) q.0 ∙ peek_append (run_len r) r t q.1)

  bare_local : Local bare_zero r t
  unfolding bare_zero
  bare_local =
      by_test r t _ _ _ _ _ _ octal_same (λ _. on 1 (prefixed 8 BAD_OCTAL OctalPrefix) (prefixed_local 8 BAD_OCTAL OctalPrefix (lit≤ tt)) r t h k)
      (λ _. decimal_local r t h)

  letter_test : (x : ℕ) → eqb (peek (drop 1 (r ++ t))) x ≡ eqb (peek (drop 1 r)) x
  letter_test x = ap (λ y. eqb y x) (peek_append 1 r t k)

  letter_local : (x base error : ℕ) (sp : Spelling) → (x ≡ code "\n" → ⊥) → base ≤ 16 → eqb (peek (drop 1 r)) x ≡ true
      → (after_chars 2 (prefixed base error sp (drop 2 (r ++ t))) ≡ after_chars 2 (prefixed base error sp (drop 2 r))) × ((after_chars 2 (prefixed base error sp (drop 2 r))).len < length r)
  letter_local x base error sp n b e =
      let m = more_behind (drop 1 r) x (ends_drop 1 r k h) e n in
      on 2 (prefixed base error sp) (prefixed_local base error sp b) r t h (omega (arith, m, length-drop 1 r))

  zero_local : Local leading_zero r t
  unfolding leading_zero
  zero_local =
      by_test r t _ _ _ _ _ _ (letter_test (code "x")) (letter_local (code "x") 16 BAD_HEXADECIMAL AsRead (λ z. omega arith) (lit≤ tt))
      (λ _. by_test r t _ _ _ _ _ _ (letter_test (code "X")) (letter_local (code "X") 16 BAD_HEXADECIMAL LowerPrefix (λ z. omega arith) (lit≤ tt))
      (λ _. by_test r t _ _ _ _ _ _ (letter_test (code "o")) (letter_local (code "o") 8 BAD_OCTAL AsRead (λ z. omega arith) (lit≤ tt))
      (λ _. by_test r t _ _ _ _ _ _ (letter_test (code "O")) (letter_local (code "O") 8 BAD_OCTAL LowerPrefix (λ z. omega arith) (lit≤ tt))
      (λ _. by_test r t _ _ _ _ _ _ (letter_test (code "b")) (letter_local (code "b") 2 BAD_BINARY AsRead (λ z. omega arith) (lit≤ tt))
      (λ _. by_test r t _ _ _ _ _ _ (letter_test (code "B")) (letter_local (code "B") 2 BAD_BINARY LowerPrefix (λ z. omega arith) (lit≤ tt)) (λ _. bare_local))))))

without_local : Locally without_i
unfolding without_i
without_local r t h =
    by_test r t _ _ _ _ _ _ (ap (λ x. eqb x (code ".")) (next_same r t h)) (λ e. on 1 fraction fraction_local r t h (more_behind r (code ".") h e (λ z. omega arith)))
    (λ _. by_test r t _ _ _ _ _ _ (ap (λ x. eqb x (code "0")) (next_same r t h)) (λ e. zero_local r t h (more_behind r (code "0") h e (λ z. omega arith))) (λ _. decimal_local r t h))

-- the law of numbers
pub number_local : (r t : List Char) → Ends r → (number (r ++ t) ≡ number r) × ((number r).len < length r)
unfolding number
number_local r t h =
    let q = without_local r t h in
    let x = without_i r in
    rw (q.0, peek_append x.len r t q.1) (refl, cond_len (eqb x.kind ILLEGAL) (eqb (peek (drop x.len r)) (code "i")) refl)
  where
    cond_len : (y z : Bool) → eqb (peek (drop (without_i r).len r)) (code "i") ≡ z
        → (cond y (without_i r) (cond z (record { kind = IMAG; len = (without_i r).len + 1; error = 0; spelling = (without_i r).spelling }) (without_i r))).len < length r
    cond_len true z e = (without_local r t h).1
    cond_len false true e =
        let l = (without_local r t h).1 in
        let m = more_behind (drop (without_i r).len r) (code "i") (ends_drop (without_i r).len r l h) e (λ z. omega arith) in
        omega (arith, m, length-drop (without_i r).len r)
    cond_len false false e = (without_local r t h).1
