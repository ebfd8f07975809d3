-- Laws of numbers at a place of a text: each rule by the byte there and the run that was read.
use Prim.Native.Nat.{ℕ, zero, suc, ◌+◌, ◌≤◌, ◌<◌}
use Prim.Native.Char.{code}
use mathlib.Core.Path.{◌≡◌, refl, sym, ap, ap₂, ◌∙◌}
use mathlib.Core.Bool.{Bool, true, false, not, ◌&&◌, ◌||◌}
use mathlib.Core.List.{List}
use mathlib.Core.Logic.{⊎_elim}
use native.Mathlib.Omega.{arith}
use native.Mathlib.Nat.{add-zero, zero-add, add_assoc}
use lib.Dec.{leb, eqb, lit<, lit≤}
use lib.ListN.{get_or, drop}
use lib.Seq.{drop-drop}
use borrow.Author.Tests.{eq-eqb, ne_eqb, eqb-true}
use Rattle.basics.proofs.Choice.{above_it, either}
use Rattle.utf8.specs.Chars.{chars, peek}
use Rattle.utf8.proofs.Places.{code_next, test_next}
use Rattle.kinds.specs.Kinds.{ILLEGAL, INT, FLOAT}
use Rattle.errors.specs.Numbers.{BAD_OCTAL, MISPLACED_UNDERSCORE}
use Rattle.digits.specs.Digit.{is_decimal}
use Rattle.numbers.specs.declared.Spelling.{Spelling}
use Rattle.numbers.specs.declared.Spelling.TheVariants.{AsRead, OctalPrefix, LowerExponent}
use Rattle.numbers.specs.Run.{Run, digit_run, strict_run, is_digit_or_underscore, run_len}
use Rattle.numbers.specs.Number.{Numeral, after_chars, exponent_digits, exponent, finish, fraction, decimal_rest, decimal, prefixed_digits, prefixed, makes_decimal, is_bare_octal, bare_zero, zero_by, leading_zero, without_i, number_at}
use Rattle.numbers.proofs.Runs.{run_place, strict_place, next_place, run_next, longest_place}

-- n characters on
at_after : (at n : ℕ) (x : Numeral) → number_at at (after_chars n x) ≡ number_at (at + n) x
at_after at n x = rw (← add_assoc at n x.len)

pub digit_next : (s : List ℕ) (p : ℕ) → is_decimal (peek (chars (drop p s))) ≡ is_decimal (get_or s p 0)
digit_next s p = test_next s p is_decimal (λ c h. above_it (code "0") c (code "9") (omega arith) (omega arith))

-- ---- what makes a number decimal
decimal_high : (c : ℕ) → 0x80 ≤ c → makes_decimal c ≡ false
decimal_high c h =
    rw (
      ne_eqb c (code ".") (λ e. omega arith),
      ne_eqb c (code "e") (λ e. omega arith),
      ne_eqb c (code "E") (λ e. omega arith),
      ne_eqb c (code "i") (λ e. omega arith),
    )

decimal_next : (s : List ℕ) (p : ℕ) → makes_decimal (peek (chars (drop p s))) ≡ makes_decimal (get_or s p 0)
decimal_next s p = test_next s p makes_decimal decimal_high

-- ---- after a prefix
module _ (base error : ℕ) (s : Spelling) (at : ℕ) (d : Run) (next : ℕ) where
  pub prefixed_bad : d.misplaced ≡ true → number_at at (prefixed_digits base error s d next) ≡ record { kind = ILLEGAL; end = at + d.len; error = MISPLACED_UNDERSCORE; spelling = s }
  prefixed_bad e = rw e

  module _ (good : d.misplaced ≡ false) where
    pub prefixed_wrong : eqb d.len 0 || (leb base 8 && is_decimal next) ≡ true → number_at at (prefixed_digits base error s d next) ≡ record { kind = ILLEGAL; end = at + d.len; error = error; spelling = s }
    prefixed_wrong e = rw (good, e)

    pub prefixed_good : eqb d.len 0 || (leb base 8 && is_decimal next) ≡ false → number_at at (prefixed_digits base error s d next) ≡ record { kind = INT; end = at + d.len; error = 0; spelling = s }
    prefixed_good e = rw (good, e)

-- there is no digit where the run ends at its start
pub no_digit : (at n : ℕ) → eqb (at + n) at ≡ eqb n 0
no_digit at zero = eq-eqb _ _ (add-zero at)
no_digit at (suc n) = ne_eqb (at + suc n) at (λ z. omega arith) ∙ sym (ne_eqb (suc n) 0 (λ z. omega arith))

-- ---- a sign
abbrev pub is_sign : ℕ → Bool
is_sign b = eqb b (code "+") || eqb b (code "-")

pub sign_ascii : (b : ℕ) → is_sign b ≡ true → (0 < b) × (b < 0x80)
sign_ascii b t =
    ⊎_elim (λ (e : eqb b (code "+") ≡ true). let z = eqb-true b (code "+") e in (omega arith, omega arith))
    (λ (e : eqb b (code "+") ≡ false). let z = eqb-true b (code "-") (rw e at t) in (omega arith, omega arith)) (either (eqb b (code "+")))

module _ (s : List ℕ) (at : ℕ) where
  -- the tests on the next character, by the byte
  next_is : (x : ℕ) → x < 0x80 → get_or s at 0 ≡ x → eqb (peek (chars (drop at s))) x ≡ true
  next_is x l e = code_next s at x l ∙ eq-eqb _ _ e

  next_not : (x : ℕ) → x < 0x80 → (get_or s at 0 ≡ x → ⊥) → eqb (peek (chars (drop at s))) x ≡ false
  next_not x l e = code_next s at x l ∙ ne_eqb _ _ e

  -- ---- an exponent
  module _ (sp : Spelling) where
    pub exponent_signed : is_sign (get_or s at 0) ≡ true
        → number_at at (exponent sp (chars (drop at s))) ≡ number_at (at + 1) (exponent_digits sp (strict_run 10 (chars (drop (at + 1) s))))
    unfolding exponent
    exponent_signed t =
        let q = sign_ascii (get_or s at 0) t in
        rw (code_next s at (code "+") (lit< tt), code_next s at (code "-") (lit< tt), t, next_place s at (get_or s at 0) refl q.0 q.1) (at_after at 1 _)

    pub exponent_plain : is_sign (get_or s at 0) ≡ false
        → number_at at (exponent sp (chars (drop at s))) ≡ number_at at (exponent_digits sp (strict_run 10 (chars (drop at s))))
    unfolding exponent
    exponent_plain t = rw (code_next s at (code "+") (lit< tt), code_next s at (code "-") (lit< tt), t)

  -- ---- after the digits
  module _ (kind : ℕ) where
    pub finish_lower : get_or s at 0 ≡ code "e" → number_at at (finish kind (chars (drop at s))) ≡ number_at (at + 1) (exponent AsRead (chars (drop (at + 1) s)))
    unfolding finish
    finish_lower e = rw (next_is (code "e") (lit< tt) e, next_place s at (code "e") e (lit< tt) (lit< tt)) (at_after at 1 _)

    pub finish_upper : get_or s at 0 ≡ code "E" → number_at at (finish kind (chars (drop at s))) ≡ number_at (at + 1) (exponent LowerExponent (chars (drop (at + 1) s)))
    unfolding finish
    finish_upper e =
        rw (next_not (code "e") (lit< tt) (λ z. omega arith), next_is (code "E") (lit< tt) e, next_place s at (code "E") e (lit< tt) (lit< tt)) (at_after at 1 _)

    pub finish_end : (get_or s at 0 ≡ code "e" → ⊥) → (get_or s at 0 ≡ code "E" → ⊥) → number_at at (finish kind (chars (drop at s))) ≡ record { kind = kind; end = at; error = 0; spelling = AsRead }
    unfolding finish
    finish_end e f = rw (next_not (code "e") (lit< tt) e, next_not (code "E") (lit< tt) f, add-zero at)

  -- ---- a fraction
  pub fraction_bad : (strict_run 10 (chars (drop at s))).misplaced ≡ true
      → number_at at (fraction (chars (drop at s))) ≡ record { kind = ILLEGAL; end = at + (strict_run 10 (chars (drop at s))).len; error = MISPLACED_UNDERSCORE; spelling = AsRead }
  unfolding fraction
  fraction_bad e = rw e

  pub fraction_good : (strict_run 10 (chars (drop at s))).misplaced ≡ false
      → number_at at (fraction (chars (drop at s)))
      ≡ number_at (at + (strict_run 10 (chars (drop at s))).len) (finish FLOAT (chars (drop (at + (strict_run 10 (chars (drop at s))).len) s)))
  unfolding fraction
  fraction_good e = rw (e, strict_place 10 (lit≤ tt) s at) (at_after at _ _)

  -- ---- a decimal number
  pub rest_point : get_or s at 0 ≡ code "." → number_at at (decimal_rest (chars (drop at s))) ≡ number_at (at + 1) (fraction (chars (drop (at + 1) s)))
  unfolding decimal_rest
  rest_point e = rw (next_is (code ".") (lit< tt) e, next_place s at (code ".") e (lit< tt) (lit< tt)) (at_after at 1 _)

  pub rest_plain : (get_or s at 0 ≡ code "." → ⊥) → number_at at (decimal_rest (chars (drop at s))) ≡ number_at at (finish INT (chars (drop at s)))
  unfolding decimal_rest
  rest_plain e = rw (next_not (code ".") (lit< tt) e)

  pub decimal_bad : (digit_run 10 false (chars (drop at s))).misplaced ≡ true
      → number_at at (decimal (chars (drop at s))) ≡ record { kind = ILLEGAL; end = at + (digit_run 10 false (chars (drop at s))).len; error = MISPLACED_UNDERSCORE; spelling = AsRead }
  unfolding decimal
  decimal_bad e = rw e

  pub decimal_good : (digit_run 10 false (chars (drop at s))).misplaced ≡ false
      → number_at at (decimal (chars (drop at s)))
      ≡ number_at (at + (digit_run 10 false (chars (drop at s))).len) (decimal_rest (chars (drop (at + (digit_run 10 false (chars (drop at s))).len) s)))
  unfolding decimal
  decimal_good e = rw (e, run_place 10 (lit≤ tt) s at) (at_after at _ _)

  -- ---- what follows a prefixed number stands at the place after it
  pub prefixed_there : (base error : ℕ) (sp : Spelling) → base ≤ 16
      → prefixed base error sp (chars (drop at s))
      ≡ prefixed_digits base error sp (digit_run base false (chars (drop at s))) (peek (chars (drop (at + (digit_run base false (chars (drop at s))).len) s)))
  unfolding prefixed
  prefixed_there base error sp b = rw (run_place base b s at)

  -- ---- a number that starts with 0
  module _ (zero : get_or s at 0 ≡ code "0") where
    first_place : drop 1 (chars (drop at s)) ≡ chars (drop (at + 1) s)
    first_place = next_place s at (code "0") zero (lit< tt) (lit< tt)

    -- what follows the 0, and what follows the run
    pub octal_is : is_bare_octal (chars (drop at s)) ≡ is_digit_or_underscore (get_or s (at + 1) 0) && not (makes_decimal (get_or s (at + run_len (chars (drop at s))) 0))
    octal_is =
        ap₂ (λ x y. x && not y) (ap (λ r. is_digit_or_underscore (peek r)) first_place ∙ run_next s (at + 1))
        (ap (λ r. makes_decimal (peek r)) (longest_place s at) ∙ decimal_next s (at + run_len (chars (drop at s))))

    pub bare_octal : is_bare_octal (chars (drop at s)) ≡ true → number_at at (bare_zero (chars (drop at s))) ≡ number_at (at + 1) (prefixed 8 BAD_OCTAL OctalPrefix (chars (drop (at + 1) s)))
    unfolding bare_zero
    bare_octal e = rw (e, first_place) (at_after at 1 _)

    pub bare_decimal : is_bare_octal (chars (drop at s)) ≡ false → number_at at (bare_zero (chars (drop at s))) ≡ number_at at (decimal (chars (drop at s)))
    unfolding bare_zero
    bare_decimal e = rw e

    -- the byte after it decides
    pub zero_is : leading_zero (chars (drop at s)) ≡ zero_by (get_or s (at + 1) 0) (chars (drop at s))
    unfolding leading_zero
    zero_is =
        rw (
          first_place,
          code_next s (at + 1) (code "x") (lit< tt),
          code_next s (at + 1) (code "X") (lit< tt),
          code_next s (at + 1) (code "o") (lit< tt),
          code_next s (at + 1) (code "O") (lit< tt),
          code_next s (at + 1) (code "b") (lit< tt),
          code_next s (at + 1) (code "B") (lit< tt),
        )

    -- two characters on
    pub zero_prefix : (x : ℕ) → get_or s (at + 1) 0 ≡ x → 0 < x → x < 0x80 → (base error : ℕ) (sp : Spelling)
        → number_at at (after_chars 2 (prefixed base error sp (drop 2 (chars (drop at s))))) ≡ number_at (at + 2) (prefixed base error sp (chars (drop (at + 2) s)))
    zero_prefix x e l h base error sp =
        let p : drop 2 (chars (drop at s)) ≡ chars (drop (at + 2) s) =
        sym (drop-drop 1 1 (chars (drop at s))) ∙ ap (drop 1) first_place ∙ next_place s (at + 1) x e l h ∙ rw (add_assoc at 1 1) in
        rw p (at_after at 2 _)

  -- ---- a number but for an i
  pub without_point : get_or s at 0 ≡ code "." → number_at at (without_i (chars (drop at s))) ≡ number_at (at + 1) (fraction (chars (drop (at + 1) s)))
  unfolding without_i
  without_point e = rw (next_is (code ".") (lit< tt) e, next_place s at (code ".") e (lit< tt) (lit< tt)) (at_after at 1 _)

  pub without_zero : get_or s at 0 ≡ code "0" → number_at at (without_i (chars (drop at s))) ≡ number_at at (leading_zero (chars (drop at s)))
  unfolding without_i
  without_zero e = rw (next_not (code ".") (lit< tt) (λ z. omega arith), next_is (code "0") (lit< tt) e)

  pub without_other : (get_or s at 0 ≡ code "." → ⊥) → (get_or s at 0 ≡ code "0" → ⊥) → number_at at (without_i (chars (drop at s))) ≡ number_at at (decimal (chars (drop at s)))
  unfolding without_i
  without_other e f = rw (next_not (code ".") (lit< tt) e, next_not (code "0") (lit< tt) f)

-- the same of a text that starts with a 0
pub octal_first : (s : List ℕ) → get_or s 0 0 ≡ code "0" → is_bare_octal (chars s) ≡ is_digit_or_underscore (get_or s 1 0) && not (makes_decimal (get_or s (run_len (chars s)) 0))
octal_first s e = octal_is s 0 e ∙ rw (zero-add (run_len (chars s)))
