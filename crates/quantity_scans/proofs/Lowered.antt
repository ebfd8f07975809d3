-- A number whose E is written e is the same number, with nothing more to change.
use Prim.Native.Nat.{ℕ, zero, suc}
use Prim.Native.Char.{code}
use mathlib.Core.Path.{◌≡◌, refl, sym, ap, ap₂, ◌∙◌}
use mathlib.Core.Bool.{Bool, true, false, cond, not, ◌&&◌, ◌||◌}
use mathlib.Core.List.{List, [], ◌∷◌, map}
use lib.Dec.{ltb, leb, eqb}
use lib.ListN.{drop}
use borrow.Author.Tests.{eqb-true}
use Rattle.utf8.specs.declared.Char.{Char}
use Rattle.utf8.specs.Chars.{peek}
use Rattle.kinds.specs.Kinds.{ILLEGAL, INT, FLOAT}
use Rattle.errors.specs.Numbers.{BAD_BINARY, BAD_OCTAL, BAD_HEXADECIMAL, MISPLACED_UNDERSCORE, BAD_EXPONENT}
use Rattle.digits.specs.Digit.{digit_val, is_decimal}
use Rattle.numbers.specs.declared.Spelling.{Spelling}
use Rattle.numbers.specs.declared.Spelling.TheVariants.{AsRead, LowerPrefix, OctalPrefix, LowerExponent}
use Rattle.numbers.specs.Run.{Run, end_of_run, digit_run, strict_run, is_digit_or_underscore, run_len}
use Rattle.numbers.specs.Number.{Numeral, after_chars, illegal, good, exponent_digits, exponent, finish, fraction, decimal_rest, decimal, prefixed_digits, prefixed, makes_decimal, is_bare_octal, bare_zero, leading_zero, without_i, number}
use Rattle.writing.specs.Spelled.{lower_exponent}
use Rattle.quantity_scans.proofs.Rules.{run_then, letter_or, by_upper_b, by_lower_b, by_upper_o, by_lower_o, by_upper_x}

abbrev pub e_char : Char → Char
e_char c = record { code = lower_exponent c.code; width = c.width }

-- a test that does not tell E from e
pub by_e : {A : Type 0} (f : ℕ → A) → f (code "e") ≡ f (code "E") → (b : ℕ) → f (lower_exponent b) ≡ f b
by_e f s b = go (eqb b (code "E")) refl
  where
    go : (t : Bool) → eqb b (code "E") ≡ t → f (cond t (code "e") b) ≡ f b
    go true k = s ∙ ap f (sym (eqb-true b (code "E") k))
    go false k = refl

peek_e : (r : List Char) → peek (map e_char r) ≡ lower_exponent (peek r)
peek_e [] = refl
peek_e (c ∷ r) = refl

drop_e : (n : ℕ) (r : List Char) → drop n (map e_char r) ≡ map e_char (drop n r)
drop_e zero r = refl
drop_e (suc n) [] = refl
drop_e (suc n) (c ∷ r) = drop_e n r

-- a test of the next character, and of the one at a place
next_e : {A : Type 0} (f : ℕ → A) → f (code "e") ≡ f (code "E") → (n : ℕ) (r : List Char) → f (peek (drop n (map e_char r))) ≡ f (peek (drop n r))
next_e f s n r = ap f (ap peek (drop_e n r) ∙ peek_e (drop n r)) ∙ by_e f s (peek (drop n r))

pub digit_e : digit_val (code "e") ≡ digit_val (code "E")
unfolding digit_val
digit_e = refl

run_e : (base : ℕ) (u : Bool) (r : List Char) → digit_run base u (map e_char r) ≡ digit_run base u r
unfolding digit_run
run_e base u [] = refl
run_e base u (c ∷ r) =
    rw (by_e (λ b. ltb (digit_val b) base) (ap (λ d. ltb d base) digit_e) c.code, by_e (λ b. eqb b (code "_")) refl c.code, run_e base false r, run_e base true r)

strict_e : (base : ℕ) (r : List Char) → strict_run base (map e_char r) ≡ strict_run base r
unfolding strict_run
strict_e base [] = refl
strict_e base (c ∷ r) = rw (by_e (λ b. eqb b (code "_")) refl c.code) (ap (λ d. cond (eqb c.code (code "_")) (end_of_run true) d) (run_e base false (c ∷ r)))

-- ---- numbers
abbrev pub low : Spelling → Spelling
low AsRead = AsRead
low LowerPrefix = LowerPrefix
low OctalPrefix = OctalPrefix
low LowerExponent = AsRead

abbrev pub lowered : Numeral → Numeral
lowered x = record { kind = x.kind; len = x.len; error = x.error; spelling = low x.spelling }

-- a choice
by_test : (p q : Bool) (a b c d : Numeral) → p ≡ q → a ≡ lowered c → b ≡ lowered d → cond p a b ≡ lowered (cond q c d)
by_test p true a b c d k f h = rw k f
by_test p false a b c d k f h = rw k h

on_e : (n : ℕ) (f g : List Char → Numeral) → ((r : List Char) → f (map e_char r) ≡ lowered (g r)) → (r : List Char) → after_chars n (f (drop n (map e_char r))) ≡ lowered (after_chars n (g (drop n r)))
on_e n f g h r = ap (λ q. after_chars n (f q)) (drop_e n r) ∙ ap (after_chars n) (h (drop n r))

exponent_digits_e : (sp : Spelling) (r : List Char) → exponent_digits (low sp) (strict_run 10 (map e_char r)) ≡ lowered (exponent_digits sp (strict_run 10 r))
exponent_digits_e sp r =
    let d = strict_run 10 r in
    rw (strict_e 10 r)
    (by_test d.misplaced d.misplaced (illegal MISPLACED_UNDERSCORE d.len (low sp)) _ (illegal MISPLACED_UNDERSCORE d.len sp) _ refl refl
    (by_test (eqb d.len 0) (eqb d.len 0) (illegal BAD_EXPONENT 0 (low sp)) (good FLOAT d.len (low sp)) (illegal BAD_EXPONENT 0 sp) (good FLOAT d.len sp) refl refl refl))

exponent_e : (sp : Spelling) (r : List Char) → exponent (low sp) (map e_char r) ≡ lowered (exponent sp r)
unfolding exponent
exponent_e sp r =
    by_test _ _ _ _ _ _ (next_e (λ x. eqb x (code "+") || eqb x (code "-")) refl 0 r)
    (on_e 1 (λ q. exponent_digits (low sp) (strict_run 10 q)) (λ q. exponent_digits sp (strict_run 10 q)) (exponent_digits_e sp) r) (exponent_digits_e sp r)

finish_e : (kind : ℕ) (r : List Char) → finish kind (map e_char r) ≡ lowered (finish kind r)
unfolding finish
finish_e kind r = go (eqb (peek r) (code "e")) (eqb (peek r) (code "E")) refl refl
  where
    go : (x y : Bool) → eqb (peek r) (code "e") ≡ x → eqb (peek r) (code "E") ≡ y → finish kind (map e_char r) ≡ lowered (cond x (after_chars 1 (exponent AsRead (drop 1 r))) (cond y (after_chars 1 (exponent LowerExponent (drop 1 r))) (good kind 0 AsRead)))
    go true y t u = rw (peek_e r, eqb-true (peek r) (code "e") t) (on_e 1 (exponent AsRead) (exponent AsRead) (exponent_e AsRead) r)
    go false true t u = rw (peek_e r, eqb-true (peek r) (code "E") u) (on_e 1 (exponent AsRead) (exponent LowerExponent) (exponent_e LowerExponent) r)
    go false false t u = rw (peek_e r, u, t, u)

-- digits and what follows them
run_then_e : (run : List Char → Run) (f : List Char → Numeral) → ((r : List Char) → run (map e_char r) ≡ run r) → ((r : List Char) → f (map e_char r) ≡ lowered (f r))
    → (r : List Char) → run_then run f (map e_char r) ≡ lowered (run_then run f r)
run_then_e run f same rest r =
    let d = run r in
    rw (same r)
    (by_test d.misplaced d.misplaced (illegal MISPLACED_UNDERSCORE d.len AsRead) _ (illegal MISPLACED_UNDERSCORE d.len AsRead) _ refl refl (on_e d.len f f rest r))

fraction_e : (r : List Char) → fraction (map e_char r) ≡ lowered (fraction r)
unfolding fraction
fraction_e = run_then_e (strict_run 10) (finish FLOAT) (strict_e 10) (finish_e FLOAT)

rest_e : (r : List Char) → decimal_rest (map e_char r) ≡ lowered (decimal_rest r)
unfolding decimal_rest
rest_e r = by_test _ _ _ _ _ _ (next_e (λ x. eqb x (code ".")) refl 0 r) (on_e 1 fraction fraction fraction_e r) (finish_e INT r)

decimal_e : (r : List Char) → decimal (map e_char r) ≡ lowered (decimal r)
unfolding decimal
decimal_e = run_then_e (digit_run 10 false) decimal_rest (run_e 10 false) rest_e

-- a spelling that is no exponent's
prefixed_digits_e : (base error : ℕ) (sp : Spelling) (d : Run) (next : ℕ) → low sp ≡ sp → prefixed_digits base error sp d next ≡ lowered (prefixed_digits base error sp d next)
prefixed_digits_e base error sp d next l = go d.misplaced (eqb d.len 0 || (leb base 8 && is_decimal next))
  where
    go : (x y : Bool) → cond x (illegal MISPLACED_UNDERSCORE d.len sp) (cond y (illegal error d.len sp) (good INT d.len sp))
        ≡ lowered (cond x (illegal MISPLACED_UNDERSCORE d.len sp) (cond y (illegal error d.len sp) (good INT d.len sp)))
    go true y = rw l
    go false true = rw l
    go false false = rw l

prefixed_e : (base error : ℕ) (sp : Spelling) → low sp ≡ sp → (r : List Char) → prefixed base error sp (map e_char r) ≡ lowered (prefixed base error sp r)
unfolding prefixed
prefixed_e base error sp l r =
    let d = digit_run base false r in
    rw (run_e base false r, next_e is_decimal refl d.len r) (prefixed_digits_e base error sp d (peek (drop d.len r)) l)

longest_e : (r : List Char) → run_len (map e_char r) ≡ run_len r
unfolding run_len
longest_e [] = refl
longest_e (c ∷ r) = rw (by_e is_digit_or_underscore refl c.code, longest_e r)

octal_e : (r : List Char) → is_bare_octal (map e_char r) ≡ is_bare_octal r
octal_e r = rw longest_e (ap₂ (λ a b. a && not b) (next_e is_digit_or_underscore refl 1 r) (next_e makes_decimal refl (run_len r) r))

bare_e : (r : List Char) → bare_zero (map e_char r) ≡ lowered (bare_zero r)
unfolding bare_zero
bare_e r =
    by_test _ _ _ _ _ _ (octal_e r) (on_e 1 (prefixed 8 BAD_OCTAL OctalPrefix) (prefixed 8 BAD_OCTAL OctalPrefix) (prefixed_e 8 BAD_OCTAL OctalPrefix refl) r) (decimal_e r)

-- a letter that is neither e nor E
letter_e : (x base error : ℕ) (sp : Spelling) (f : List Char → Numeral) → eqb (code "e") x ≡ eqb (code "E") x → low sp ≡ sp
    → ((r : List Char) → f (map e_char r) ≡ lowered (f r)) → (r : List Char) → letter_or x base error sp f (map e_char r) ≡ lowered (letter_or x base error sp f r)
letter_e x base error sp f s l h r =
    by_test _ _ _ _ _ _ (next_e (λ y. eqb y x) s 1 r) (on_e 2 (prefixed base error sp) (prefixed base error sp) (prefixed_e base error sp l) r) (h r)

zero_e : (r : List Char) → leading_zero (map e_char r) ≡ lowered (leading_zero r)
unfolding leading_zero
zero_e =
    letter_e (code "x") 16 BAD_HEXADECIMAL AsRead by_upper_x refl refl
    (letter_e (code "X") 16 BAD_HEXADECIMAL LowerPrefix by_lower_o refl refl
    (letter_e (code "o") 8 BAD_OCTAL AsRead by_upper_o refl refl
    (letter_e (code "O") 8 BAD_OCTAL LowerPrefix by_lower_b refl refl
    (letter_e (code "b") 2 BAD_BINARY AsRead by_upper_b refl refl (letter_e (code "B") 2 BAD_BINARY LowerPrefix bare_zero refl refl bare_e)))))

without_e : (r : List Char) → without_i (map e_char r) ≡ lowered (without_i r)
unfolding without_i
without_e r =
    by_test _ _ _ _ _ _ (next_e (λ x. eqb x (code ".")) refl 0 r) (on_e 1 fraction fraction fraction_e r)
    (by_test _ _ _ _ _ _ (next_e (λ x. eqb x (code "0")) refl 0 r) (zero_e r) (decimal_e r))

pub number_e : (r : List Char) → number (map e_char r) ≡ lowered (number r)
unfolding number
number_e r =
    let x = without_i r in
    rw (without_e r)
    (by_test (eqb x.kind ILLEGAL) (eqb x.kind ILLEGAL) (lowered x) _ x _ refl refl
    (by_test _ _ _ (lowered x) _ x (next_e (λ y. eqb y (code "i")) refl x.len r) refl refl))
