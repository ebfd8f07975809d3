-- What every number reads: characters that are ASCII and no line feed, as each was tested, and those that its spelling tells of. Its kind is one of four, ILLEGAL just where it has an error, and if it starts with a decimal digit or a point it reads some character.
use Prim.Native.Nat.{ℕ, zero, suc, ◌+◌, ◌-◌, ◌≤◌, ◌<◌}
use Prim.Native.Char.{code}
use mathlib.Core.Path.{◌≡◌, refl, sym, subst, ◌∙◌}
use mathlib.Core.Bool.{Bool, true, false, cond, ◌&&◌, ◌||◌}
use mathlib.Core.List.{List, [], ◌∷◌}
use mathlib.Core.Logic.{◌≢◌, ⊎_elim}
use native.Mathlib.Omega.{arith}
use native.Mathlib.Nat.{add_assoc}
use native.Mathlib.Decide.{dec_lt}
use lib.Dec.{T, leb, eqb, lit<, lit≤}
use lib.ListN.{length, get_or, drop}
use lib.Seq.{drop-drop, get_or-drop}
use borrow.Author.Tests.{eqb-true, ne_eqb, lt-ltb}
use Rattle.basics.specs.Between.{between}
use Rattle.basics.proofs.Choice.{cond_ind, either, between_true, in_between, true_of}
use Rattle.utf8.specs.declared.Char.{Char}
use Rattle.utf8.specs.Chars.{ended, peek}
use Rattle.kinds.specs.Kinds.{ILLEGAL, INT, FLOAT, IMAG}
use Rattle.kinds.specs.Precedence.{among}
use Rattle.errors.specs.Numbers.{BAD_BINARY, BAD_OCTAL, BAD_HEXADECIMAL}
use Rattle.digits.specs.Digit.{digit_val, is_decimal}
use Rattle.numbers.specs.declared.Spelling.{Spelling}
use Rattle.numbers.specs.declared.Spelling.TheVariants.{AsRead, LowerPrefix, OctalPrefix, LowerExponent}
use Rattle.numbers.specs.Run.{digit_run, strict_run}
use Rattle.numbers.specs.Number.{Numeral, after_chars, exponent_digits, exponent, finish, fraction, decimal_rest, decimal, prefixed, is_bare_octal, bare_zero, leading_zero, without_i, number}
use Rattle.numbers.proofs.Runs.{Plain, plain_none, plain_more, plain_within, run_plain, strict_plain}

-- the kinds that a number may have
abbrev pub is_numeric : ℕ → Bool
is_numeric kind = among kind (ILLEGAL ∷ INT ∷ FLOAT ∷ IMAG ∷ [])

-- those of a number without an error; with an error it is ILLEGAL
abbrev is_good : ℕ → Bool
is_good kind = among kind (INT ∷ FLOAT ∷ IMAG ∷ [])

abbrev agrees : ℕ → ℕ → Bool
agrees kind error = cond (eqb error 0) (is_good kind) (eqb kind ILLEGAL)

agrees_numeric : (kind error : ℕ) → T (agrees kind error) → T (is_numeric kind)
agrees_numeric kind error t = go (eqb error 0) (eqb kind ILLEGAL) t
  where
    go : (none bad : Bool) → T (cond none (is_good kind) bad) → T (bad || is_good kind)
    go true true t = tt
    go true false t = t
    go false true t = tt
    go false false t = absurd t

-- what a spelling tells of the first n characters: a prefix in upper case that is no E, a 0, an E
abbrev pub Spelled : Spelling → List Char → ℕ → Type 0
Spelled AsRead r n = Unit
Spelled LowerPrefix r n = (2 ≤ n) × (between (code "A") (get_or r 1 ended).code (code "Z") ≡ true) × ((get_or r 1 ended).code ≢ code "E")
Spelled OctalPrefix r n = 1 ≤ n
Spelled LowerExponent r n = (i : ℕ) × (i < n) × ((get_or r i ended).code ≡ code "E")

spelled_on : (sp : Spelling) (r : List Char) (n m : ℕ) → Spelled sp r n → Spelled sp r (n + m)
spelled_on AsRead r n m h = tt
spelled_on LowerPrefix r n m h = (omega (arith, h.0), h.1, h.2)
spelled_on OctalPrefix r n m h = omega arith
spelled_on LowerExponent r n m h = (h.0, omega (arith, h.1), h.2)

-- the first character is a decimal digit, unless it is a point
abbrev pub Starts : List Char → Type 0
Starts r = eqb (peek r) (code ".") ≡ false → is_decimal (peek r) ≡ true

plain_add : (n m : ℕ) (r : List Char) → Plain n r → Plain m (drop n r) → Plain (n + m) r
unfolding Plain
plain_add n m r f g i h =
    elim (dec_lt i n) [
      | yes k ↦ f i k
      | no k ↦ let e : n + (i - n) ≡ i = omega arith in rw (get_or-drop n r (i - n) ended, e) at (g (i - n) (omega arith))
    ]

-- a character that a test found
plain_one : (r : List Char) (x : ℕ) → 0 < x → x < 0x80 → x ≢ code "\n" → eqb (peek r) x ≡ true → Plain 1 r
plain_one [] x l h n e = absurd (omega (arith, eqb-true 0 x e))
plain_one (c ∷ r) x l h n e =
    let z = eqb-true c.code x e in plain_more 0 c r (omega arith) (omega arith) (λ k. n (sym z ∙ k)) (plain_none r)

peek_at : (p : ℕ) (r : List Char) → peek (drop p r) ≡ (get_or r p ended).code
peek_at zero [] = refl
peek_at zero (c ∷ r) = refl
peek_at (suc p) [] = refl
peek_at (suc p) (c ∷ r) = peek_at p r

run_some : (r : List Char) → is_decimal (peek r) ≡ true → 0 < (digit_run 10 false r).len
unfolding digit_run digit_val
run_some [] e = absurd (omega (arith, (between_true (code "0") 0 (code "9") e).0))
run_some (c ∷ r) e =
    let z = between_true (code "0") c.code (code "9") e in
    rw (in_between (code "0") c.code (code "9") z.0 z.1, lt-ltb (c.code - (code "0")) 10 (omega arith)) (omega arith)

module _ (r : List Char) where
  -- what holds of the first n characters, and of a reading from the first character on
  pub record Begun (sp : Spelling) (n : ℕ) : Type 0 where
    pub plain : Plain n r
    pub spelled : Spelled sp r n
    pub some : Starts r → 0 < n

  abbrev Read : Numeral → Type 0
  Read x = Begun x.spelling x.len × T (agrees x.kind x.error)

  -- m characters more
  more : (sp : Spelling) (n m : ℕ) → Begun sp n → Plain m (drop n r) → Begun sp (n + m)
  more sp n m b f =
      record { plain = plain_add n m r b.plain f; spelled = spelled_on sp r n m b.spelled; some = λ h. omega (arith, b.some h) }

  -- what follows m characters more
  on : (n m : ℕ) (f : List Char → Numeral) → Read (after_chars (n + m) (f (drop (n + m) r))) → Read (after_chars n (after_chars m (f (drop m (drop n r)))))
  on n m f h = rw (drop-drop m n r, ← add_assoc n m (f (drop (n + m) r)).len) h

  -- ---- an exponent
  module _ (sp : Spelling) where
    digits_read : (n : ℕ) → Begun sp n → Read (after_chars n (exponent_digits sp (strict_run 10 (drop n r))))
    digits_read n b =
        let d = strict_run 10 (drop n r) in
        let o = more sp n d.len b (strict_plain 10 (lit≤ tt) (drop n r)) in
        cond_ind (λ x. Read (after_chars n x)) d.misplaced _ _ (λ _. (o, tt))
        (λ _. cond_ind (λ x. Read (after_chars n x)) (eqb d.len 0) _ _ (λ _. (more sp n 0 b (plain_none (drop n r)), tt)) (λ _. (o, tt)))

    exponent_read : (n : ℕ) → Begun sp n → Read (after_chars n (exponent sp (drop n r)))
    unfolding exponent
    exponent_read n b =
        cond_ind (λ x. Read (after_chars n x)) (eqb (peek (drop n r)) (code "+") || eqb (peek (drop n r)) (code "-")) _ _
        (λ e. on n 1 (λ q. exponent_digits sp (strict_run 10 q)) (digits_read (n + 1) (more sp n 1 b (signed e)))) (λ _. digits_read n b)
      where
        signed : eqb (peek (drop n r)) (code "+") || eqb (peek (drop n r)) (code "-") ≡ true → Plain 1 (drop n r)
        signed e =
            ⊎_elim (λ f. plain_one (drop n r) (code "+") (lit< tt) (lit< tt) (λ z. omega arith) f) (λ f. plain_one (drop n r) (code "-") (lit< tt) (lit< tt) (λ z. omega arith) (rw f at e))
            (either (eqb (peek (drop n r)) (code "+")))

  -- ---- the rest of a decimal number
  finish_read : (kind : ℕ) → T (is_good kind) → (n : ℕ) → Begun AsRead n → Read (after_chars n (finish kind (drop n r)))
  unfolding finish
  finish_read kind k n b =
      cond_ind (λ x. Read (after_chars n x)) (eqb (peek (drop n r)) (code "e")) _ _
      (λ e. on n 1 (exponent AsRead) (exponent_read AsRead (n + 1) (more AsRead n 1 b (plain_one (drop n r) (code "e") (lit< tt) (lit< tt) (λ z. omega arith) e))))
      (λ _. cond_ind (λ x. Read (after_chars n x)) (eqb (peek (drop n r)) (code "E")) _ _ (λ e. on n 1 (exponent LowerExponent) (exponent_read LowerExponent (n + 1) (upper e)))
      (λ _. (more AsRead n 0 b (plain_none (drop n r)), k)))
    where
      upper : eqb (peek (drop n r)) (code "E") ≡ true → Begun LowerExponent (n + 1)
      upper e =
          let o = more AsRead n 1 b (plain_one (drop n r) (code "E") (lit< tt) (lit< tt) (λ z. omega arith) e) in
          record { plain = o.plain; spelled = (n, omega arith, sym (peek_at n r) ∙ eqb-true _ _ e); some = o.some }

  fraction_read : (n : ℕ) → Begun AsRead n → Read (after_chars n (fraction (drop n r)))
  unfolding fraction
  fraction_read n b =
      let d = strict_run 10 (drop n r) in
      let o = more AsRead n d.len b (strict_plain 10 (lit≤ tt) (drop n r)) in
      cond_ind (λ x. Read (after_chars n x)) d.misplaced _ _ (λ _. (o, tt))
      (λ _. on n d.len (finish FLOAT) (finish_read FLOAT tt (n + d.len) o))

  point_read : (n : ℕ) → Begun AsRead n → eqb (peek (drop n r)) (code ".") ≡ true → Read (after_chars n (after_chars 1 (fraction (drop 1 (drop n r)))))
  point_read n b e =
      on n 1 fraction (fraction_read (n + 1) (more AsRead n 1 b (plain_one (drop n r) (code ".") (lit< tt) (lit< tt) (λ z. omega arith) e)))

  rest_read : (n : ℕ) → Begun AsRead n → Read (after_chars n (decimal_rest (drop n r)))
  unfolding decimal_rest
  rest_read n b =
      cond_ind (λ x. Read (after_chars n x)) (eqb (peek (drop n r)) (code ".")) _ _ (point_read n b) (λ _. finish_read INT tt n b)

  -- ---- a number with a prefix
  prefixed_read : (base error : ℕ) (sp : Spelling) → T (agrees ILLEGAL error) → base ≤ 16 → (n : ℕ) → Begun sp n → Read (after_chars n (prefixed base error sp (drop n r)))
  unfolding prefixed
  prefixed_read base error sp k h n b =
      let d = digit_run base false (drop n r) in
      let o = more sp n d.len b (run_plain base h false (drop n r)) in
      cond_ind (λ x. Read (after_chars n x)) d.misplaced _ _ (λ _. (o, tt))
      (λ _. cond_ind (λ x. Read (after_chars n x)) (eqb d.len 0 || (leb base 8 && is_decimal (peek (drop d.len (drop n r))))) _ _ (λ _. (o, k)) (λ _. (o, tt)))

  -- ---- from the first character on, which is no point
  module _ (no-point : eqb (peek r) (code ".") ≡ false) where
    decimal_read : Read (decimal r)
    unfolding decimal
    decimal_read =
        let d = digit_run 10 false r in
        let o : Begun AsRead d.len = record { plain = run_plain 10 (lit≤ tt) false r; spelled = tt; some = λ s. run_some r (s no-point) } in
        cond_ind Read d.misplaced _ _ (λ _. (o, tt)) (λ _. rest_read d.len o)

    module _ (zero-first : eqb (peek r) (code "0") ≡ true) where
      first : Plain 1 r
      first = plain_one r (code "0") (lit< tt) (lit< tt) (λ z. omega arith) zero-first

      bare_read : Read (bare_zero r)
      unfolding bare_zero
      bare_read =
          cond_ind Read (is_bare_octal r) _ _
          (λ _. prefixed_read 8 BAD_OCTAL OctalPrefix tt (lit≤ tt) 1 (record { plain = first; spelled = lit≤ tt; some = λ _. lit< tt })) (λ _. decimal_read)

      letter_read : (x base error : ℕ) (sp : Spelling) → T (agrees ILLEGAL error) → 0 < x → x < 0x80 → x ≢ code "\n" → base ≤ 16 → ((get_or r 1 ended).code ≡ x → Spelled sp r 2) → eqb (peek (drop 1 r)) x ≡ true
          → Read (after_chars 2 (prefixed base error sp (drop 2 r)))
      letter_read x base error sp t l h k b s e =
          prefixed_read base error sp t b 2 (record { plain = plain_add 1 1 r first (plain_one (drop 1 r) x l h k e); spelled = s (sym (peek_at 1 r) ∙ eqb-true _ _ e); some = λ _. lit< tt })

      zero_read : Read (leading_zero r)
      unfolding leading_zero
      zero_read =
          cond_ind Read (eqb (peek (drop 1 r)) (code "x")) _ _ (letter_read (code "x") 16 BAD_HEXADECIMAL AsRead tt (lit< tt) (lit< tt) (λ z. omega arith) (lit≤ tt) (λ _. tt))
          (λ _. cond_ind Read (eqb (peek (drop 1 r)) (code "X")) _ _ (letter_read (code "X") 16 BAD_HEXADECIMAL LowerPrefix tt (lit< tt) (lit< tt) (λ z. omega arith) (lit≤ tt) (λ z. (lit≤ tt, rw z, λ e. omega (arith, z, e))))
          (λ _. cond_ind Read (eqb (peek (drop 1 r)) (code "o")) _ _ (letter_read (code "o") 8 BAD_OCTAL AsRead tt (lit< tt) (lit< tt) (λ z. omega arith) (lit≤ tt) (λ _. tt))
          (λ _. cond_ind Read (eqb (peek (drop 1 r)) (code "O")) _ _ (letter_read (code "O") 8 BAD_OCTAL LowerPrefix tt (lit< tt) (lit< tt) (λ z. omega arith) (lit≤ tt) (λ z. (lit≤ tt, rw z, λ e. omega (arith, z, e))))
          (λ _. cond_ind Read (eqb (peek (drop 1 r)) (code "b")) _ _ (letter_read (code "b") 2 BAD_BINARY AsRead tt (lit< tt) (lit< tt) (λ z. omega arith) (lit≤ tt) (λ _. tt))
          (λ _. cond_ind Read (eqb (peek (drop 1 r)) (code "B")) _ _ (letter_read (code "B") 2 BAD_BINARY LowerPrefix tt (lit< tt) (lit< tt) (λ z. omega arith) (lit≤ tt) (λ z. (lit≤ tt, rw z, λ e. omega (arith, z, e)))) (λ _. bare_read))))))

  pub without_read : Read (without_i r)
  unfolding without_i
  without_read =
      cond_ind Read (eqb (peek r) (code ".")) _ _
      (λ e. fraction_read 1 (record { plain = plain_one r (code ".") (lit< tt) (lit< tt) (λ z. omega arith) e; spelled = tt; some = λ _. lit< tt }))
      (λ e. cond_ind Read (eqb (peek r) (code "0")) _ _ (zero_read e) (λ _. decimal_read e))

  number_read : Read (number r)
  unfolding number
  number_read =
      let x = without_i r in
      let o = without_read in
      cond_ind Read (eqb x.kind ILLEGAL) _ _ (λ _. o)
      (λ _. cond_ind Read (eqb (peek (drop x.len r)) (code "i")) _ _
      (λ e. (more x.spelling x.len 1 o.0 (plain_one (drop x.len r) (code "i") (lit< tt) (lit< tt) (λ z. omega arith) e), tt)) (λ _. o))

  -- ---- the laws
  pub number_ascii : (i : ℕ) → i < (number r).len → ((get_or r i ended).code < 0x80) × ((get_or r i ended).code ≢ code "\n")
  unfolding Plain
  number_ascii i h = let q = number_read.0.plain i h in (q.1, q.2)

  pub number_spelled : Spelled (number r).spelling r (number r).len
  number_spelled = number_read.0.spelled

  pub number_within : (number r).len ≤ length r
  number_within = plain_within (number r).len r number_read.0.plain

  pub number_kind : (kind : ℕ) → is_numeric kind ≡ false → (number r).kind ≢ kind
  number_kind kind f e = subst T f (subst (λ k. T (is_numeric k)) e (agrees_numeric (number r).kind (number r).error number_read.1))

  pub number_illegal : (number r).kind ≡ ILLEGAL → (number r).error ≢ 0
  number_illegal k e = rw (k, e) at number_read.1

  pub number_error : (number r).error ≢ 0 → (number r).kind ≡ ILLEGAL
  number_error e = eqb-true (number r).kind ILLEGAL (true_of _ (rw (ne_eqb (number r).error 0 e) at number_read.1))

  pub number_some : Starts r → 0 < (number r).len
  number_some s = number_read.0.some s
