-- A number that is cut where it ends is read as before: all rules but those after a 0.
use Prim.Native.Nat.{ℕ, ◌+◌, ◌≤◌, ◌<◌}
use Prim.Native.Char.{code}
use mathlib.Core.Path.{◌≡◌, refl, ap, ◌∙◌}
use mathlib.Core.Bool.{Bool, true, false, cond, ◌&&◌, ◌||◌, and-false}
use mathlib.Core.List.{List}
use mathlib.Core.Logic.{◌≢◌}
use native.Mathlib.Omega.{arith}
use lib.Dec.{leb, eqb, lit≤}
use lib.ListN.{take, drop}
use borrow.Author.Tests.{eqb-false}
use Rattle.basics.proofs.Choice.{none_of}
use Rattle.utf8.specs.declared.Char.{Char}
use Rattle.utf8.specs.Chars.{peek}
use Rattle.utf8.proofs.Ends.{peek_take}
use Rattle.kinds.specs.Kinds.{ILLEGAL, INT, FLOAT}
use Rattle.errors.specs.Numbers.{MISPLACED_UNDERSCORE, BAD_EXPONENT}
use Rattle.digits.specs.Digit.{is_decimal}
use Rattle.numbers.specs.declared.Spelling.{Spelling}
use Rattle.numbers.specs.declared.Spelling.TheVariants.{AsRead, LowerExponent}
use Rattle.numbers.specs.Run.{Run, digit_run, strict_run, run_len}
use Rattle.numbers.specs.Number.{Numeral, after_chars, illegal, good, exponent_digits, exponent, finish, fraction, decimal_rest, decimal, prefixed_digits, prefixed}
use Rattle.quantity_scans.proofs.Rules.{run_then}
use Rattle.quantity_scans.proofs.Cut.{part, peek_one, peek_other, nothing_behind, run_cut, strict_cut, run_within}

abbrev pub Good : Numeral → Type 0
Good x = x.kind ≢ ILLEGAL

abbrev pub Cut : (List Char → Numeral) → List Char → Type 0
Cut f r = Good (f r) → f (take (f r).len r) ≡ f r

-- n characters on
pub on : (n : ℕ) (f : List Char → Numeral) (r : List Char) → Cut f (drop n r) → Good (f (drop n r)) → after_chars n (f (drop n (take (n + (f (drop n r)).len) r))) ≡ after_chars n (f (drop n r))
on n f r c g = ap (after_chars n) (ap f (part n (f (drop n r)).len r) ∙ c g)

-- a choice by a test that the cut does not change; Q is what is known of the number
pub by_test : (Q : Numeral → Type 0) (P : ℕ → Bool) (A B : ℕ → Numeral) (q : Bool) (c d : Numeral) → Q (cond q c d)
    → (q ≡ true → Q c → (P c.len ≡ true) × (A c.len ≡ c)) → (q ≡ false → Q d → (P d.len ≡ false) × (B d.len ≡ d))
    → cond (P (cond q c d).len) (A (cond q c d).len) (B (cond q c d).len) ≡ cond q c d
by_test Q P A B true c d g f h = let e = f refl g in rw e.0 e.1
by_test Q P A B false c d g f h = let e = h refl g in rw e.0 e.1

-- digits of an exponent that are good
digits_good : (sp : Spelling) (d : Run) → Good (exponent_digits sp d) → (d.misplaced ≡ false) × (0 < d.len) × ((exponent_digits sp d).len ≡ d.len)
digits_good sp d g = go d.misplaced (eqb d.len 0) refl refl g
  where
    go : (x y : Bool) → d.misplaced ≡ x → eqb d.len 0 ≡ y → Good (cond x (illegal MISPLACED_UNDERSCORE d.len sp) (cond y (illegal BAD_EXPONENT 0 sp) (good FLOAT d.len sp)))
        → (x ≡ false) × (0 < d.len) × ((cond x (illegal MISPLACED_UNDERSCORE d.len sp) (cond y (illegal BAD_EXPONENT 0 sp) (good FLOAT d.len sp))).len ≡ d.len)
    go true y e f g = absurd (g refl)
    go false true e f g = absurd (g refl)
    go false false e f g = (refl, omega (arith, eqb-false d.len 0 f), refl)

exponent_digits_cut : (sp : Spelling) (r : List Char) → Cut (λ q. exponent_digits sp (strict_run 10 q)) r
exponent_digits_cut sp r g =
    let h = digits_good sp (strict_run 10 r) g in ap (exponent_digits sp) (strict_cut 10 r (exponent_digits sp (strict_run 10 r)).len h.0 (omega (arith, h.2)))

abbrev signed : ℕ → Bool
signed x = eqb x (code "+") || eqb x (code "-")

exponent_cut : (sp : Spelling) (r : List Char) → Cut (exponent sp) r
unfolding exponent
exponent_cut sp r g =
    by_test Good (λ n. signed (peek (take n r))) (λ n. after_chars 1 (exponent_digits sp (strict_run 10 (drop 1 (take n r))))) (λ n. exponent_digits sp (strict_run 10 (take n r)))
    (signed (peek r)) (after_chars 1 (exponent_digits sp (strict_run 10 (drop 1 r)))) (exponent_digits sp (strict_run 10 r)) g
    (λ t c. (ap signed (peek_one (exponent_digits sp (strict_run 10 (drop 1 r))).len r) ∙ t, on 1 (λ q. exponent_digits sp (strict_run 10 q)) r (exponent_digits_cut sp (drop 1 r)) c))
    (λ t d. (ap signed (peek_take (exponent_digits sp (strict_run 10 r)).len r (some d)) ∙ t, exponent_digits_cut sp r d))
  where
    some : Good (exponent_digits sp (strict_run 10 r)) → 0 < (exponent_digits sp (strict_run 10 r)).len
    some d = let h = digits_good sp (strict_run 10 r) d in omega (arith, h.1, h.2)

finish_cut : (kind : ℕ) (r : List Char) → Cut (finish kind) r
unfolding finish
finish_cut kind r g =
    by_test Good (λ n. eqb (peek (take n r)) (code "e")) (λ n. after_chars 1 (exponent AsRead (drop 1 (take n r))))
    (λ n. cond (eqb (peek (take n r)) (code "E")) (after_chars 1 (exponent LowerExponent (drop 1 (take n r)))) (good kind 0 AsRead))
    (eqb (peek r) (code "e")) (after_chars 1 (exponent AsRead (drop 1 r))) (cond (eqb (peek r) (code "E")) (after_chars 1 (exponent LowerExponent (drop 1 r))) (good kind 0 AsRead)) g
    (λ t c. (ap (λ y. eqb y (code "e")) (peek_one (exponent AsRead (drop 1 r)).len r) ∙ t, on 1 (exponent AsRead) r (exponent_cut AsRead (drop 1 r)) c))
    (λ t d. (
      peek_other (λ y. eqb y (code "e")) refl (cond (eqb (peek r) (code "E")) (after_chars 1 (exponent LowerExponent (drop 1 r))) (good kind 0 AsRead)).len r t,
      by_test Good (λ n. eqb (peek (take n r)) (code "E")) (λ n. after_chars 1 (exponent LowerExponent (drop 1 (take n r)))) (λ n. good kind 0 AsRead)
          (eqb (peek r) (code "E")) (after_chars 1 (exponent LowerExponent (drop 1 r))) (good kind 0 AsRead) d
          (λ u c. (ap (λ y. eqb y (code "E")) (peek_one (exponent LowerExponent (drop 1 r)).len r) ∙ u, on 1 (exponent LowerExponent) r (exponent_cut LowerExponent (drop 1 r)) c))
          (λ u c. (refl, refl)),
    ))

-- digits and what follows them, by a run that may be cut behind its end
run_then_cut : (run : List Char → Run) (f : List Char → Numeral)
    → ((r : List Char) (n : ℕ) → (run r).misplaced ≡ false → (run r).len ≤ n → run (take n r) ≡ run r) → ((r : List Char) → Cut f r) → (r : List Char) → Cut (run_then run f) r
run_then_cut run f cut rest r g = go (run r).misplaced refl g
  where
    by : Bool → Numeral
    by b = cond b (illegal MISPLACED_UNDERSCORE (run r).len AsRead) (after_chars (run r).len (f (drop (run r).len r)))

    go : (b : Bool) → (run r).misplaced ≡ b → Good (by b) → run_then run f (take (by b).len r) ≡ by b
    go true e g = absurd (g refl)
    go false e g =
        let q = drop (run r).len r in rw (cut r ((run r).len + (f q).len) e (omega arith), e) (on (run r).len f r (rest q) g)

pub fraction_cut : (r : List Char) → Cut fraction r
unfolding fraction
fraction_cut = run_then_cut (strict_run 10) (finish FLOAT) (strict_cut 10) (finish_cut FLOAT)

decimal_rest_cut : (r : List Char) → Cut decimal_rest r
unfolding decimal_rest
decimal_rest_cut r g =
    by_test Good (λ n. eqb (peek (take n r)) (code ".")) (λ n. after_chars 1 (fraction (drop 1 (take n r)))) (λ n. finish INT (take n r))
    (eqb (peek r) (code ".")) (after_chars 1 (fraction (drop 1 r))) (finish INT r) g
    (λ t c. (ap (λ y. eqb y (code ".")) (peek_one (fraction (drop 1 r)).len r) ∙ t, on 1 fraction r (fraction_cut (drop 1 r)) c))
    (λ t d. (peek_other (λ y. eqb y (code ".")) refl (finish INT r).len r t, finish_cut INT r d))

pub decimal_cut : (r : List Char) → Cut decimal r
unfolding decimal
decimal_cut = run_then_cut (digit_run 10 false) decimal_rest (run_cut 10 false) decimal_rest_cut

-- digits of a prefixed number that are good
pub record GoodDigits (base : ℕ) (d : Run) (next len : ℕ) : Type 0 where
  pub placed : d.misplaced ≡ false
  pub ended : eqb d.len 0 || (leb base 8 && is_decimal next) ≡ false
  pub all : len ≡ d.len

pub prefixed_good : (base error : ℕ) (sp : Spelling) (d : Run) (next : ℕ) → Good (prefixed_digits base error sp d next)
    → GoodDigits base d next (prefixed_digits base error sp d next).len
prefixed_good base error sp d next g = go d.misplaced (eqb d.len 0 || (leb base 8 && is_decimal next)) refl refl g
  where
    go : (x y : Bool) → d.misplaced ≡ x → eqb d.len 0 || (leb base 8 && is_decimal next) ≡ y
        → Good (cond x (illegal MISPLACED_UNDERSCORE d.len sp) (cond y (illegal error d.len sp) (good INT d.len sp)))
        → GoodDigits base d next (cond x (illegal MISPLACED_UNDERSCORE d.len sp) (cond y (illegal error d.len sp) (good INT d.len sp))).len
    go true y e f g = absurd (g refl)
    go false true e f g = absurd (g refl)
    go false false e f g = record { placed = e; ended = f; all = refl }

-- cut where they end, with nothing behind them
prefixed_end : (base error : ℕ) (sp : Spelling) (r : List Char) → let d = digit_run base false r in d.misplaced ≡ false
    → eqb d.len 0 || (leb base 8 && is_decimal (peek (drop d.len r))) ≡ false → prefixed base error sp (take d.len r) ≡ good INT d.len sp
unfolding prefixed
prefixed_end base error sp r m f =
    let d = digit_run base false r in
    rw (run_cut base false r d.len m (omega arith), m, nothing_behind d.len r, and-false (leb base 8), (none_of (eqb d.len 0) _ f).0)

pub prefixed_cut : (base error : ℕ) (sp : Spelling) (r : List Char) → Cut (prefixed base error sp) r
unfolding prefixed
prefixed_cut base error sp r g =
    let d = digit_run base false r in
    let h = prefixed_good base error sp d (peek (drop d.len r)) g in
    rw (h.all, h.placed, h.ended) (prefixed_end base error sp r h.placed h.ended)

pub prefixed_some : (base error : ℕ) (sp : Spelling) (r : List Char) → Good (prefixed base error sp r) → 0 < (prefixed base error sp r).len
unfolding prefixed
prefixed_some base error sp r g =
    let d = digit_run base false r in
    let h = prefixed_good base error sp d (peek (drop d.len r)) g in
    omega (arith, eqb-false d.len 0 (none_of (eqb d.len 0) _ h.ended).0, h.all)

-- a bare octal number is a run of digits and underscores
pub octal_run : (error : ℕ) (sp : Spelling) (r : List Char) → Good (prefixed 8 error sp r) → let n = (prefixed 8 error sp r).len in run_len (take n r) ≡ n
unfolding prefixed
octal_run error sp r g =
    let d = digit_run 8 false r in
    let h = prefixed_good 8 error sp d (peek (drop d.len r)) g in
    rw h.all (run_within 8 (lit≤ tt) false r)
