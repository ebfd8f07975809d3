-- Laws of runs of digits: one step at a place of a text, by the byte there.
use Prim.Native.Nat.{ℕ, zero, suc, ◌+◌, ◌≤◌, ◌<◌}
use Prim.Native.Char.{code}
use mathlib.Core.Path.{◌≡◌, refl, sym, ap, ◌∙◌}
use mathlib.Core.Bool.{Bool, true, false, cond, not, ◌&&◌, and-true, false≢true}
use Rattle.std.specs.List.{position_or_len}
use Rattle.std.proofs.lemmas.List.Recursion.{is_position_or_len}
use Rattle.std.specs.Prelude.{Result, Ok, Err}
use mathlib.Core.List.{List, [], ◌∷◌}
use mathlib.Core.Logic.{◌≢◌, ⊎_elim}
use native.Mathlib.Omega.{arith}
use native.Mathlib.Decide.{dec_lt}
use lib.Dec.{ltb, eqb, eqb→eq, lit<}
use lib.ListN.{length, get_or, drop}
use borrow.Author.Tests.{ltb-true, lt-ltb, le-ltb, eqb-true, eqb-false, eq-eqb, ne_eqb}
use Rattle.basics.proofs.Choice.{cond_ind, either, between_true, above_it}
use Rattle.basics.proofs.Every.{every_below}
use Rattle.basics.proofs.Lists.{reach}
use Rattle.utf8.specs.declared.Char.{Char}
use Rattle.utf8.specs.Chars.{ended, chars, peek}
use Rattle.utf8.proofs.First.{chars_at, chars_end, chars_ascii}
use Rattle.utf8.proofs.Places.{code_there, test_there, test_next, ascii_place}
use Rattle.digits.specs.Digit.{digit_val, is_decimal}
use Rattle.digits.proofs.Digits.{digit_low, digit_there}
use Rattle.numbers.specs.declared.run.Misplaced.{Misplaced}
use Rattle.numbers.specs.Run.{Run, end_of_run, longer_run, digit_run, strict_run, is_digit_or_underscore, run_len}
use Rattle.numbers.specs.Steps.{digits_at}

-- one character on from a place
pub digits_more : (p : ℕ) (d : Run) → digits_at p (longer_run d) ≡ digits_at (p + 1) d
digits_more p d = let e : p + suc d.len ≡ p + 1 + d.len = omega arith in rw e

-- what an answer says of the run
is_err : Result ℕ Misplaced → Bool
is_err (Ok n) = false
is_err (Err m) = true

end_in : Result ℕ Misplaced → ℕ
end_in (Ok n) = n
end_in (Err m) = m.end

pub run_err : (at : ℕ) (d : Run) (m : Misplaced) → ◌≡◌ {A = Result ℕ Misplaced} (Err m) (digits_at at d) → (d.misplaced ≡ true) × (m.end ≡ at + d.len)
unfolding is_err end_in
run_err at d m = go d.misplaced
  where
    go : (x : Bool) → ◌≡◌ {A = Result ℕ Misplaced} (Err m) (cond x (Err (record { end = at + d.len })) (Ok (at + d.len))) → (x ≡ true) × (m.end ≡ at + d.len)
    go true e = (refl, ap end_in e)
    go false e = absurd (false≢true (sym (ap is_err e)))

pub run_ok : (at : ℕ) (d : Run) (n : ℕ) → ◌≡◌ {A = Result ℕ Misplaced} (Ok n) (digits_at at d) → (d.misplaced ≡ false) × (n ≡ at + d.len)
unfolding is_err end_in
run_ok at d n = go d.misplaced
  where
    go : (x : Bool) → ◌≡◌ {A = Result ℕ Misplaced} (Ok n) (cond x (Err (record { end = at + d.len })) (Ok (at + d.len))) → (x ≡ false) × (n ≡ at + d.len)
    go true e = absurd (false≢true (ap is_err e))
    go false e = (refl, ap end_in e)

module _ (base : ℕ) (s : List ℕ) (p : ℕ) where
  pub run_end : (u : Bool) → length s ≤ p → digit_run base u (chars (drop p s)) ≡ end_of_run u
  unfolding digit_run
  run_end u h = rw (chars_end s p h)

  module _ (h : p < length s) where
    pub run_digit : (u : Bool) → digit_val (get_or s p 0) < base → base ≤ 16 → digit_run base u (chars (drop p s)) ≡ longer_run (digit_run base false (chars (drop (p + 1) s)))
    unfolding digit_run
    run_digit u d l = rw (chars_ascii s p h (digit_low (get_or s p 0) (omega arith)), lt-ltb _ _ d)

    module _ (d : base ≤ digit_val (get_or s p 0)) where
      pub run_other : (u : Bool) → (get_or s p 0 ≡ code "_" → ⊥) → digit_run base u (chars (drop p s)) ≡ end_of_run u
      unfolding digit_run
      run_other u e = rw (chars_at s p h, digit_there s p h, le-ltb _ _ d, code_there s p (code "_") h (lit< tt), ne_eqb _ _ e)

      module _ (e : get_or s p 0 ≡ code "_") where
        under_low : get_or s p 0 < 0x80
        under_low = omega arith

        pub run_under : digit_run base false (chars (drop p s)) ≡ longer_run (digit_run base true (chars (drop (p + 1) s)))
        unfolding digit_run
        run_under = rw (chars_ascii s p h under_low, le-ltb _ _ d, eq-eqb _ _ e)

        pub run_double : digit_run base true (chars (drop p s)) ≡ end_of_run true
        unfolding digit_run
        run_double = rw (chars_ascii s p h under_low, le-ltb _ _ d, eq-eqb _ _ e)

    -- the run stops at a byte that is no digit, and an underscore only after another
    pub run_stop : (u : Bool) → base ≤ digit_val (get_or s p 0) → eqb (get_or s p 0) (code "_") && not u ≡ false → digit_run base u (chars (drop p s)) ≡ end_of_run u
    run_stop true d f =
        ⊎_elim (λ (e : eqb (get_or s p 0) (code "_") ≡ true). run_double d (eqb-true (get_or s p 0) (code "_") e))
        (λ (e : eqb (get_or s p 0) (code "_") ≡ false). run_other d true (eqb-false (get_or s p 0) (code "_") e)) (either (eqb (get_or s p 0) (code "_")))
    run_stop false d f = run_other d false (eqb-false (get_or s p 0) (code "_") (rw (and-true (eqb (get_or s p 0) (code "_"))) at f))

-- where no underscore may stand first
module _ (base : ℕ) (s : List ℕ) (p : ℕ) where
  pub strict_under : get_or s p 0 ≡ code "_" → strict_run base (chars (drop p s)) ≡ end_of_run true
  unfolding strict_run
  strict_under e = let h = reach s p (omega arith) in rw (chars_at s p h, code_there s p (code "_") h (lit< tt), eq-eqb _ _ e)

  pub strict_other : (get_or s p 0 ≡ code "_" → ⊥) → strict_run base (chars (drop p s)) ≡ digit_run base false (chars (drop p s))
  unfolding strict_run digit_run
  strict_other e =
      elim (dec_lt p (length s)) [
        | yes h ↦ rw (chars_at s p h, code_there s p (code "_") h (lit< tt), ne_eqb _ _ e)
        | no h ↦ rw (chars_end s p (omega arith))
      ]

-- ---- the characters of a run are ASCII and no line feed
-- the first n characters are; a code above 0 is there, as 0 stands past the end
unfoldable pub Plain : ℕ → List Char → Type 0
Plain n r = (i : ℕ) → i < n → (0 < (get_or r i ended).code) × ((get_or r i ended).code < 0x80) × ((get_or r i ended).code ≢ code "\n")

pub plain_none : (r : List Char) → Plain 0 r
unfolding Plain
plain_none r i h = absurd (omega arith)

pub plain_more : (n : ℕ) (c : Char) (r : List Char) → 0 < c.code → c.code < 0x80 → c.code ≢ code "\n" → Plain n r → Plain (suc n) (c ∷ r)
unfolding Plain
plain_more n c r l h e f zero k = (l, h, e)
plain_more n c r l h e f (suc i) k = f i (omega arith)

pub plain_within : (n : ℕ) (r : List Char) → Plain n r → n ≤ length r
unfolding Plain
plain_within zero r f = omega arith
plain_within (suc n) [] f = absurd (omega (arith, (f 0 (omega arith)).0))
plain_within (suc n) (c ∷ r) f = omega (arith, plain_within n r (λ i h. f (suc i) (omega arith)))

no_digit : ℕ → Bool
no_digit c = eqb (digit_val c) 16

-- a digit is none of the first characters
pub digit_from : (c : ℕ) → digit_val c < 16 → code "0" ≤ c
unfolding no_digit digit_val
digit_from c l =
    elim (dec_lt c (code "0")) [
      | yes h ↦ absurd (omega (arith, eqb→eq (digit_val c) 16 (every_below no_digit 48 tt c h)))
      | no h ↦ omega arith
    ]

pub run_plain : (base : ℕ) → base ≤ 16 → (u : Bool) (r : List Char) → Plain (digit_run base u r).len r
unfolding digit_run
run_plain base b u [] = plain_none []
run_plain base b u (c ∷ r) =
    cond_ind (λ (d : Run). Plain d.len (c ∷ r)) (ltb (digit_val c.code) base) _ _
    (λ e. digit _ (ltb-true _ _ e) (run_plain base b false r))
    (λ _. cond_ind (λ (d : Run). Plain d.len (c ∷ r)) (eqb c.code (code "_")) _ _
    (λ e. cond_ind (λ (d : Run). Plain d.len (c ∷ r)) u _ _ (λ _. plain_none (c ∷ r)) (λ _. under _ (eqb-true c.code (code "_") e) (run_plain base b true r)))
    (λ _. plain_none (c ∷ r)))
  where
    digit : (n : ℕ) → digit_val c.code < base → Plain n r → Plain (suc n) (c ∷ r)
    digit n l f =
        let h = digit_from c.code (omega arith) in plain_more n c r (omega arith) (digit_low c.code (omega arith)) (λ e. omega arith) f

    under : (n : ℕ) → c.code ≡ code "_" → Plain n r → Plain (suc n) (c ∷ r)
    under n e f = plain_more n c r (omega arith) (omega arith) (λ z. omega arith) f

strict_is : (P : Run → Type 0) (base : ℕ) (r : List Char) → P (end_of_run true) → P (digit_run base false r) → P (strict_run base r)
unfolding strict_run digit_run
strict_is P base [] f g = g
strict_is P base (c ∷ r) f g = cond_ind P (eqb c.code (code "_")) _ _ (λ _. f) (λ _. g)

pub strict_plain : (base : ℕ) → base ≤ 16 → (r : List Char) → Plain (strict_run base r).len r
strict_plain base b r = strict_is (λ (d : Run). Plain d.len r) base r (plain_none r) (run_plain base b false r)

-- ---- so the place after them is that many bytes on
pub plain_place : (n : ℕ) (s : List ℕ) (p : ℕ) → Plain n (chars (drop p s)) → drop n (chars (drop p s)) ≡ chars (drop (p + n) s)
unfolding Plain
plain_place n s p f = ascii_place n s p (plain_within n (chars (drop p s)) f) (λ i h. (f i h).1)

module _ (base : ℕ) (b : base ≤ 16) (s : List ℕ) (p : ℕ) where
  pub run_place : drop (digit_run base false (chars (drop p s))).len (chars (drop p s)) ≡ chars (drop (p + (digit_run base false (chars (drop p s))).len) s)
  run_place = plain_place _ s p (run_plain base b false (chars (drop p s)))

  pub strict_place : drop (strict_run base (chars (drop p s))).len (chars (drop p s)) ≡ chars (drop (p + (strict_run base (chars (drop p s))).len) s)
  strict_place = plain_place _ s p (strict_plain base b (chars (drop p s)))

-- one ASCII character on from a place
pub next_place : (s : List ℕ) (p x : ℕ) → get_or s p 0 ≡ x → 0 < x → x < 0x80 → drop 1 (chars (drop p s)) ≡ chars (drop (p + 1) s)
next_place s p x e l h = let z = reach s p (omega arith) in rw (chars_ascii s p z (omega arith))

-- ---- the longest run of digits and underscores
run_high : (c : ℕ) → 0x80 ≤ c → is_digit_or_underscore c ≡ false
run_high c h = rw (above_it (code "0") c (code "9") (omega arith) (omega arith), ne_eqb c (code "_") (λ e. omega arith))

pub run_next : (s : List ℕ) (p : ℕ) → is_digit_or_underscore (peek (chars (drop p s))) ≡ is_digit_or_underscore (get_or s p 0)
run_next s p = test_next s p is_digit_or_underscore run_high

pub in_run_plain : (c : ℕ) → is_digit_or_underscore c ≡ true → (0 < c) × (c < 0x80) × (c ≢ code "\n")
in_run_plain c t =
    ⊎_elim (λ (d : is_decimal c ≡ true). let z = between_true (code "0") c (code "9") d in (omega arith, omega arith, λ e. omega arith))
    (λ (d : is_decimal c ≡ false). let z = eqb-true c (code "_") (rw d at t) in (omega arith, omega arith, λ e. omega arith)) (either (is_decimal c))

module _ (s : List ℕ) (p : ℕ) where
  pub longest_more : is_digit_or_underscore (get_or s p 0) ≡ true → run_len (chars (drop p s)) ≡ suc (run_len (chars (drop (p + 1) s)))
  unfolding run_len
  longest_more e = let q = in_run_plain (get_or s p 0) e in rw (chars_ascii s p (reach s p q.0) q.1, e)

  pub longest_stop : is_digit_or_underscore (get_or s p 0) ≡ false → run_len (chars (drop p s)) ≡ 0
  unfolding run_len
  longest_stop e =
      elim (dec_lt p (length s)) [
        | yes h ↦ rw (chars_at s p h, test_there s p is_digit_or_underscore run_high h, e)
        | no h ↦ rw (chars_end s p (omega arith))
      ]

longest_plain : (r : List Char) → Plain (run_len r) r
unfolding run_len
longest_plain [] = plain_none []
longest_plain (c ∷ r) =
    cond_ind (λ n. Plain n (c ∷ r)) (is_digit_or_underscore c.code) _ _
    (λ e. let q = in_run_plain c.code e in plain_more (run_len r) c r q.0 q.1 q.2 (longest_plain r)) (λ _. plain_none (c ∷ r))

pub longest_place : (s : List ℕ) (p : ℕ) → drop (run_len (chars (drop p s))) (chars (drop p s)) ≡ chars (drop (p + run_len (chars (drop p s))) s)
longest_place s p = plain_place _ s p (longest_plain (chars (drop p s)))

-- as a search over the bytes has it
one_more : (n : ℕ) → suc n ≡ 1 + n
one_more n = omega arith

longest_step : (b : ℕ) (t : List ℕ) → run_len (chars (b ∷ t)) ≡ cond (not (is_digit_or_underscore b)) 0 (1 + run_len (chars t))
longest_step b t =
    ⊎_elim (λ (e : is_digit_or_underscore b ≡ true). rw e (longest_more (b ∷ t) 0 e ∙ one_more (run_len (chars t))))
    (λ (e : is_digit_or_underscore b ≡ false). rw e (longest_stop (b ∷ t) 0 e)) (either (is_digit_or_underscore b))

pub longest_is : (t : List ℕ) → run_len (chars t) ≡ position_or_len (λ b. not (is_digit_or_underscore b)) t
longest_is t = is_position_or_len (λ t. run_len (chars t)) (λ b. not (is_digit_or_underscore b)) (longest_stop [] 0 refl) longest_step t
