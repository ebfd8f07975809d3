-- Characters that are cut where a run of digits ends, or behind it: the run is the same.
use Prim.Native.Nat.{ℕ, zero, suc, ◌+◌, ◌≤◌, ◌<◌}
use Prim.Native.Char.{code}
use mathlib.Core.Path.{◌≡◌, refl, sym, ap, ◌∙◌}
use mathlib.Core.Bool.{Bool, true, false, cond, ◌||◌, beq, true≢false, false≢true}
use mathlib.Core.List.{List, [], ◌∷◌}
use native.Mathlib.Omega.{arith}
use native.Mathlib.Decide.{dec_lt}
use native.Mathlib.Nat.{zero-add, suc-add, not-suc-le-zero, le_of_suc-le-suc}
use lib.Dec.{ltb, eqb}
use lib.ListN.{take, drop}
use lib.Seq.{take-nil}
use borrow.Author.Tests.{eqb-true, ltb-true, lt-ltb}
use Rattle.basics.proofs.Choice.{same_test}
use Rattle.basics.proofs.Every.{every_below}
use Rattle.utf8.specs.declared.Char.{Char}
use Rattle.utf8.specs.Chars.{peek}
use Rattle.utf8.proofs.Ends.{peek_take}
use Rattle.digits.specs.Digit.{digit_val, is_decimal}
use Rattle.digits.proofs.Digits.{digit_high}
use Rattle.numbers.specs.Run.{Run, end_of_run, longer_run, digit_run, strict_run, is_digit_or_underscore, run_len}
use Rattle.lexer.proofs.Ways.{decimal_high}

-- ---- the first n elements
pub part : {A : Type 0} (n m : ℕ) (l : List A) → drop n (take (n + m) l) ≡ take m (drop n l)
part zero m l = ap (λ i. take i l) (zero-add m)
part (suc n) m [] = ap (drop (suc n)) (take-nil (suc n + m)) ∙ sym (take-nil m)
part (suc n) m (x ∷ l) = ap (λ i. drop (suc n) (take i (x ∷ l))) (suc-add n m) ∙ part n m l

pub peek_one : (n : ℕ) (r : List Char) → peek (take (1 + n) r) ≡ peek r
peek_one n r = peek_take (1 + n) r (omega arith)

-- a test that fails at the end, and at the next character, fails where the text is cut
pub peek_other : (f : ℕ → Bool) → f 0 ≡ false → (n : ℕ) (r : List Char) → f (peek r) ≡ false → f (peek (take n r)) ≡ false
peek_other f z zero r e = z
peek_other f z (suc n) [] e = e
peek_other f z (suc n) (c ∷ r) e = e

pub next_other : (f : ℕ → Bool) → f 0 ≡ false → (n : ℕ) (r : List Char) → f (peek (drop 1 r)) ≡ false → f (peek (drop 1 (take n r))) ≡ false
next_other f z zero r e = z
next_other f z (suc n) [] e = e
next_other f z (suc n) (c ∷ r) e = peek_other f z n r e

pub nothing_behind : (n : ℕ) (r : List Char) → peek (drop n (take n r)) ≡ 0
nothing_behind zero r = refl
nothing_behind (suc n) [] = refl
nothing_behind (suc n) (c ∷ r) = nothing_behind n r

-- ---- a run of digits
-- by its first character
abbrev first_by : Bool → Bool → Bool → ℕ → List Char → Run
first_by digit underscore under base r =
    cond digit (longer_run (digit_run base false r)) (cond underscore (cond under (end_of_run true) (longer_run (digit_run base true r))) (end_of_run under))

pub run_cut : (base : ℕ) (u : Bool) (r : List Char) (n : ℕ) → (digit_run base u r).misplaced ≡ false → (digit_run base u r).len ≤ n → digit_run base u (take n r) ≡ digit_run base u r
unfolding digit_run
run_cut base u [] n e h = ap (digit_run base u) (take-nil n)
run_cut base u (c ∷ r) n e h = go (ltb (digit_val c.code) base) (eqb c.code (code "_")) u n refl refl e h (λ v i. run_cut base v r i)
  where
    go : (x y v : Bool) (i : ℕ) → ltb (digit_val c.code) base ≡ x → eqb c.code (code "_") ≡ y → (first_by x y v base r).misplaced ≡ false → (first_by x y v base r).len ≤ i
        → ((w : Bool) (j : ℕ) → (digit_run base w r).misplaced ≡ false → (digit_run base w r).len ≤ j → digit_run base w (take j r) ≡ digit_run base w r)
        → digit_run base v (take i (c ∷ r)) ≡ first_by x y v base r
    go true y v zero d k m l ih = absurd (not-suc-le-zero l)
    go true y v (suc i) d k m l ih = rw d (ap longer_run (ih false i m (le_of_suc-le-suc l)))
    go false true true i d k m l ih = absurd (true≢false m)
    go false true false zero d k m l ih = absurd (not-suc-le-zero l)
    go false true false (suc i) d k m l ih = rw (d, k) (ap longer_run (ih true i m (le_of_suc-le-suc l)))
    go false false v zero d k m l ih = refl
    go false false v (suc i) d k m l ih = rw (d, k)

run_empty : (base : ℕ) → digit_run base false [] ≡ end_of_run false
unfolding digit_run
run_empty base = refl

pub strict_cut : (base : ℕ) (r : List Char) (n : ℕ) → (strict_run base r).misplaced ≡ false → (strict_run base r).len ≤ n → strict_run base (take n r) ≡ strict_run base r
unfolding strict_run
strict_cut base [] n e h = ap (strict_run base) (take-nil n)
strict_cut base (c ∷ r) n e h = go (eqb c.code (code "_")) n refl e h (run_cut base false (c ∷ r))
  where
    go : (x : Bool) (i : ℕ) → eqb c.code (code "_") ≡ x → (cond x (end_of_run true) (digit_run base false (c ∷ r))).misplaced ≡ false
        → (cond x (end_of_run true) (digit_run base false (c ∷ r))).len ≤ i
        → ((j : ℕ) → (digit_run base false (c ∷ r)).misplaced ≡ false → (digit_run base false (c ∷ r)).len ≤ j → digit_run base false (take j (c ∷ r)) ≡ digit_run base false (c ∷ r))
        → strict_run base (take i (c ∷ r)) ≡ cond x (end_of_run true) (digit_run base false (c ∷ r))
    go true i k m l f = absurd (true≢false m)
    go false zero k m l f = sym (run_empty base) ∙ f zero m l
    go false (suc i) k m l f = rw k (f (suc i) m l)

-- ---- the longest run of digits and underscores
-- a decimal digit by its number
agrees : ℕ → Bool
agrees b = beq (ltb (digit_val b) 10) (is_decimal b)

decimal_test : (b : ℕ) → ltb (digit_val b) 10 ≡ is_decimal b
unfolding agrees digit_val
decimal_test b =
    elim (dec_lt b 0x80) [
      | yes h ↦ same_test _ _ (every_below agrees 0x80 tt b h)
      | no h ↦ let k : 0x80 ≤ b = omega arith in rw (digit_high b k, decimal_high b k)
    ]

digit_decimal : (base b : ℕ) → base ≤ 10 → ltb (digit_val b) base ≡ true → is_decimal b ≡ true
digit_decimal base b h t = sym (decimal_test b) ∙ lt-ltb (digit_val b) 10 (omega (arith, ltb-true (digit_val b) base t))

-- a run of digits below 10 belongs to it
pub run_within : (base : ℕ) → base ≤ 10 → (u : Bool) (r : List Char) → run_len (take (digit_run base u r).len r) ≡ (digit_run base u r).len
unfolding digit_run run_len
run_within base h u [] = refl
run_within base h u (c ∷ r) = go (ltb (digit_val c.code) base) (eqb c.code (code "_")) u refl refl (λ v. run_within base h v r)
  where
    go : (x y v : Bool) → ltb (digit_val c.code) base ≡ x → eqb c.code (code "_") ≡ y → ((w : Bool) → run_len (take (digit_run base w r).len r) ≡ (digit_run base w r).len)
        → run_len (take (first_by x y v base r).len (c ∷ r)) ≡ (first_by x y v base r).len
    go true y v d k ih = rw (digit_decimal base c.code h d) (ap suc (ih false))
    go false true true d k ih = refl
    go false true false d k ih = rw (eqb-true c.code (code "_") k) (ap suc (ih true))
    go false false v d k ih = refl

-- a decimal run without a misplaced underscore is all of it
pub run_whole : (u : Bool) (r : List Char) → (digit_run 10 u r).misplaced ≡ false → run_len r ≡ (digit_run 10 u r).len
unfolding digit_run run_len
run_whole u [] m = refl
run_whole u (c ∷ r) m =
    ap (λ (b : Bool). cond (b || eqb c.code (code "_")) (suc (run_len r)) 0) (sym (decimal_test c.code))
    ∙ go (ltb (digit_val c.code) 10) (eqb c.code (code "_")) u m (λ v. run_whole v r)
  where
    go : (x y v : Bool) → (first_by x y v 10 r).misplaced ≡ false → ((w : Bool) → (digit_run 10 w r).misplaced ≡ false → run_len r ≡ (digit_run 10 w r).len)
        → cond (x || y) (suc (run_len r)) 0 ≡ (first_by x y v 10 r).len
    go true y v k ih = ap suc (ih false k)
    go false true true k ih = absurd (true≢false k)
    go false true false k ih = ap suc (ih true k)
    go false false v k ih = refl

-- it goes on after a character of it
pub longest_first : (r : List Char) → is_digit_or_underscore (peek r) ≡ true → run_len r ≡ 1 + run_len (drop 1 r)
unfolding run_len
longest_first [] e = absurd (false≢true e)
longest_first (c ∷ r) e = rw e (omega arith)

-- and starts with a character of it
pub longest_some : (r : List Char) → 0 < run_len r → is_digit_or_underscore (peek r) ≡ true
unfolding run_len
longest_some [] h = absurd (not-suc-le-zero h)
longest_some (c ∷ r) h = go (is_digit_or_underscore c.code) h
  where
    go : (b : Bool) → 0 < cond b (suc (run_len r)) 0 → b ≡ true
    go true h = refl
    go false h = absurd (not-suc-le-zero h)
