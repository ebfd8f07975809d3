-- What a spelling shows of a number, if it tells of a prefix; and the same number with another
-- spelling.
use Prim.Native.Nat.{ℕ, ◌<◌}
use Prim.Native.Char.{code}
use mathlib.Core.Path.{◌≡◌, refl, sym, ap, subst}
use mathlib.Core.Bool.{Bool, true, false, cond, ◌&&◌, ◌||◌}
use mathlib.Core.List.{List}
use lib.Dec.{leb, eqb, lit<}
use lib.ListN.{drop}
use borrow.Author.Tests.{eqb-true}
use Rattle.basics.proofs.Choice.{cond_ind}
use Rattle.utf8.specs.declared.Char.{Char}
use Rattle.utf8.specs.Chars.{peek}
use Rattle.kinds.specs.Kinds.{INT, FLOAT}
use Rattle.errors.specs.Numbers.{BAD_BINARY, BAD_OCTAL, BAD_HEXADECIMAL, MISPLACED_UNDERSCORE, BAD_EXPONENT}
use Rattle.digits.specs.Digit.{is_decimal}
use Rattle.numbers.specs.declared.Spelling.{Spelling}
use Rattle.numbers.specs.declared.Spelling.TheVariants.{AsRead, LowerPrefix, OctalPrefix, LowerExponent}
use Rattle.numbers.specs.Spelling.{lower}
use Rattle.numbers.specs.Run.{Run, digit_run, strict_run}
use Rattle.numbers.specs.Number.{Numeral, after_chars, illegal, good, exponent_digits, exponent, finish, fraction, decimal_rest, decimal, prefixed, is_bare_octal, bare_zero, zero_by, leading_zero, without_i}
use Rattle.quantity_scans.proofs.Rules.{run_then, by_upper_b, by_lower_b, by_upper_o, by_lower_o, by_upper_x}

-- ---- the same number with another spelling
abbrev pub spelled_as : Spelling → Numeral → Numeral
spelled_as sp x = record { kind = x.kind; len = x.len; error = x.error; spelling = sp }

pub prefixed_as : (base error : ℕ) (sp other : Spelling) (r : List Char) → prefixed base error sp r ≡ spelled_as sp (prefixed base error other r)
unfolding prefixed
prefixed_as base error sp other r =
    let d = digit_run base false r in go d.len d.misplaced (eqb d.len 0 || (leb base 8 && is_decimal (peek (drop d.len r))))
  where
    go : (n : ℕ) (x y : Bool) → cond x (illegal MISPLACED_UNDERSCORE n sp) (cond y (illegal error n sp) (good INT n sp))
        ≡ spelled_as sp (cond x (illegal MISPLACED_UNDERSCORE n other) (cond y (illegal error n other) (good INT n other)))
    go n true y = refl
    go n false true = refl
    go n false false = refl

-- ---- numbers without a prefix
abbrev Unprefixed : Spelling → Type 0
Unprefixed AsRead = Unit
Unprefixed LowerPrefix = ⊥
Unprefixed OctalPrefix = ⊥
Unprefixed LowerExponent = Unit

abbrev Bare : Numeral → Type 0
Bare x = Unprefixed x.spelling

digits_bare : (sp : Spelling) (d : Run) → Unprefixed sp → Bare (exponent_digits sp d)
digits_bare sp d p =
    cond_ind Bare d.misplaced (illegal MISPLACED_UNDERSCORE d.len sp) _ (λ _. p)
    (λ _. cond_ind Bare (eqb d.len 0) (illegal BAD_EXPONENT 0 sp) (good FLOAT d.len sp) (λ _. p) (λ _. p))

exponent_bare : (sp : Spelling) (r : List Char) → Unprefixed sp → Bare (exponent sp r)
unfolding exponent
exponent_bare sp r p =
    cond_ind Bare (eqb (peek r) (code "+") || eqb (peek r) (code "-")) (after_chars 1 (exponent_digits sp (strict_run 10 (drop 1 r)))) (exponent_digits sp (strict_run 10 r))
    (λ _. digits_bare sp (strict_run 10 (drop 1 r)) p) (λ _. digits_bare sp (strict_run 10 r) p)

finish_bare : (kind : ℕ) (r : List Char) → Bare (finish kind r)
unfolding finish
finish_bare kind r =
    cond_ind Bare (eqb (peek r) (code "e")) (after_chars 1 (exponent AsRead (drop 1 r))) _ (λ _. exponent_bare AsRead (drop 1 r) tt)
    (λ _. cond_ind Bare (eqb (peek r) (code "E")) (after_chars 1 (exponent LowerExponent (drop 1 r))) (good kind 0 AsRead) (λ _. exponent_bare LowerExponent (drop 1 r) tt) (λ _. tt))

-- digits and what follows them
run_then_bare : (run : List Char → Run) (f : List Char → Numeral) → ((r : List Char) → Bare (f r)) → (r : List Char) → Bare (run_then run f r)
run_then_bare run f rest r =
    let d = run r in
    cond_ind Bare d.misplaced (illegal MISPLACED_UNDERSCORE d.len AsRead) (after_chars d.len (f (drop d.len r))) (λ _. tt) (λ _. rest (drop d.len r))

fraction_bare : (r : List Char) → Bare (fraction r)
unfolding fraction
fraction_bare = run_then_bare (strict_run 10) (finish FLOAT) (finish_bare FLOAT)

rest_bare : (r : List Char) → Bare (decimal_rest r)
unfolding decimal_rest
rest_bare r =
    cond_ind Bare (eqb (peek r) (code ".")) (after_chars 1 (fraction (drop 1 r))) (finish INT r) (λ _. fraction_bare (drop 1 r)) (λ _. finish_bare INT r)

decimal_bare : (r : List Char) → Bare (decimal r)
unfolding decimal
decimal_bare = run_then_bare (digit_run 10 false) decimal_rest rest_bare

-- ---- what a spelling shows of the number x of r
-- a prefix in upper case: with its letter in lower case it has the same base
pub record Upper (r : List Char) (x : Numeral) : Type 0 where
  pub base : ℕ
  pub error : ℕ
  pub first : peek r ≡ code "0"
  pub is : x ≡ after_chars 2 (prefixed base error LowerPrefix (drop 2 r))
  pub low : lower (peek (drop 1 r)) < 0x80
  pub again : (q : List Char) → zero_by (lower (peek (drop 1 r))) q ≡ after_chars 2 (prefixed base error AsRead (drop 2 q))

-- a bare octal number
pub record Octal (r : List Char) (x : Numeral) : Type 0 where
  pub first : peek r ≡ code "0"
  pub is : x ≡ after_chars 1 (prefixed 8 BAD_OCTAL OctalPrefix (drop 1 r))

abbrev pub ShownBy : Spelling → List Char → Numeral → Type 0
ShownBy AsRead r x = Unit
ShownBy LowerPrefix r x = Upper r x
ShownBy OctalPrefix r x = Octal r x
ShownBy LowerExponent r x = Unit

module _ (r : List Char) where
  abbrev Shows : Numeral → Type 0
  Shows x = ShownBy x.spelling r x

  bare_shows : (x : Numeral) → Bare x → Shows x
  bare_shows x b = go x.spelling b
    where
      go : (sp : Spelling) → Unprefixed sp → ShownBy sp r x
      go AsRead b = tt
      go LowerPrefix b = absurd b
      go OctalPrefix b = absurd b
      go LowerExponent b = tt

  -- the digits of a prefixed number keep the spelling
  prefixed_shows : (n base error : ℕ) (sp : Spelling) (q : List Char) → ShownBy sp r (after_chars n (prefixed base error sp q)) → Shows (after_chars n (prefixed base error sp q))
  prefixed_shows n base error sp q =
      subst (λ s. ShownBy s r (after_chars n (prefixed base error sp q))) (sym (ap (λ (x : Numeral). x.spelling) (prefixed_as base error sp sp q)))

  module _ (z : eqb (peek r) (code "0") ≡ true) where
    zero_first : peek r ≡ code "0"
    zero_first = eqb-true (peek r) (code "0") z

    as_read : (base error : ℕ) → Shows (after_chars 2 (prefixed base error AsRead (drop 2 r)))
    as_read base error = prefixed_shows 2 base error AsRead (drop 2 r) tt

    upper : (x base error : ℕ) → lower x < 0x80 → ((q : List Char) → zero_by (lower x) q ≡ after_chars 2 (prefixed base error AsRead (drop 2 q)))
        → eqb (peek (drop 1 r)) x ≡ true → Shows (after_chars 2 (prefixed base error LowerPrefix (drop 2 r)))
    upper x base error l f t =
        let second = eqb-true (peek (drop 1 r)) x t in
        prefixed_shows 2 base error LowerPrefix (drop 2 r)
        (record { base = base; error = error; first = zero_first; is = refl; low = rw second l; again = rw second f })

    zero_shows : Shows (leading_zero r)
    unfolding leading_zero bare_zero
    zero_shows =
        cond_ind Shows (eqb (peek (drop 1 r)) (code "x")) _ (by_upper_x r) (λ _. as_read 16 BAD_HEXADECIMAL)
        (λ _. cond_ind Shows (eqb (peek (drop 1 r)) (code "X")) _ (by_lower_o r) (upper (code "X") 16 BAD_HEXADECIMAL (lit< tt) (λ _. refl))
        (λ _. cond_ind Shows (eqb (peek (drop 1 r)) (code "o")) _ (by_upper_o r) (λ _. as_read 8 BAD_OCTAL)
        (λ _. cond_ind Shows (eqb (peek (drop 1 r)) (code "O")) _ (by_lower_b r) (upper (code "O") 8 BAD_OCTAL (lit< tt) (λ _. refl))
        (λ _. cond_ind Shows (eqb (peek (drop 1 r)) (code "b")) _ (by_upper_b r) (λ _. as_read 2 BAD_BINARY)
        (λ _. cond_ind Shows (eqb (peek (drop 1 r)) (code "B")) _ (bare_zero r) (upper (code "B") 2 BAD_BINARY (lit< tt) (λ _. refl))
        (λ _. cond_ind Shows (is_bare_octal r) _ (decimal r) (λ _. prefixed_shows 1 8 BAD_OCTAL OctalPrefix (drop 1 r) (record { first = zero_first; is = refl }))
        (λ _. bare_shows (decimal r) (decimal_bare r))))))))

  pub without_shows : Shows (without_i r)
  unfolding without_i
  without_shows =
      cond_ind Shows (eqb (peek r) (code ".")) (after_chars 1 (fraction (drop 1 r))) _ (λ _. bare_shows (after_chars 1 (fraction (drop 1 r))) (fraction_bare (drop 1 r)))
      (λ _. cond_ind Shows (eqb (peek r) (code "0")) (leading_zero r) (decimal r) zero_shows (λ _. bare_shows (decimal r) (decimal_bare r)))

-- ---- a number that starts with 0, by the character after it
pub zero_by_lem : (q : List Char) (y : ℕ) → peek q ≡ code "0" → peek (drop 1 q) ≡ y → without_i q ≡ zero_by y q
unfolding without_i leading_zero
zero_by_lem q y f g = rw (f, g)
