-- The characters that an escape reads: they are there, and each is the quote or lies between 0 and z.
use Prim.Native.Nat.{ℕ, zero, suc, ◌*◌, ◌+◌, ◌≤◌, ◌<◌, suc-le-suc}
use mathlib.Core.Path.{◌≡◌, sym, subst}
use mathlib.Core.List.{List, [], ◌∷◌}
use mathlib.Core.Logic.{inl, inr, ⊎_elim}
use native.Mathlib.Omega.{arith}
use native.Mathlib.Nat.{not-suc-le-zero, le_of_suc-le-suc}
use native.Mathlib.Decide.{dec_lt}
use lib.Dec.{eqb, ltb}
use lib.ListN.{length, get_or, take, drop}
use borrow.Author.Tests.{eqb-true, eqb-false, ltb-true, lt-leb, le-leb}
use Rattle.basics.proofs.Choice.{cond_ind}
use Rattle.utf8.specs.declared.Char.{Char}
use Rattle.utf8.specs.Chars.{ended, chars, widths}
use Rattle.utf8.proofs.Places.{ascii_widths, place_chars}
use Rattle.digits.specs.Digit.{digit_val}
use Rattle.escapes.specs.Answers.{Escape}
use Rattle.escapes.specs.EscapeDigits.{Digits, escape_digits}
use Rattle.escapes.specs.Escape.{letter, following, octal_escape, hex_escape, escape_of}
use Rattle.escapes.proofs.EscapeLaws.{Out, letter_out, following_out}

-- n characters stand at the head of a list, and P holds of the code of each
abbrev pub Heads : (ℕ → Type 0) → ℕ → List Char → Type 0
Heads P zero r = Unit {0}
Heads P (suc n) [] = ⊥
Heads P (suc n) (c ∷ r) = P c.code × Heads P n r

pub heads_bound : (P : ℕ → Type 0) (n : ℕ) (r : List Char) → Heads P n r → n ≤ length r
heads_bound P zero r h = omega arith
heads_bound P (suc n) [] h = absurd h
heads_bound P (suc n) (c ∷ r) h = suc-le-suc (heads_bound P n r h.1)

pub heads_at : (P : ℕ → Type 0) (n : ℕ) (r : List Char) → Heads P n r → (i : ℕ) → i < n → P (get_or r i ended).code
heads_at P zero r h i l = absurd (not-suc-le-zero l)
heads_at P (suc n) [] h i l = absurd h
heads_at P (suc n) (c ∷ r) h zero l = h.0
heads_at P (suc n) (c ∷ r) h (suc i) l = heads_at P n r h.1 i (le_of_suc-le-suc l)

-- ---- codes between 0 and z
within : (c : ℕ) → (Out c → ⊥) → (48 ≤ c) × (c ≤ 122)
within c f =
    elim (dec_lt c 48) [
      | yes k ↦ absurd (f (inl k))
      | no k ↦ elim (dec_lt 122 c) [ yes m ↦ absurd (f (inr m)) | no m ↦ (omega arith, omega arith) ]
    ]

digit_out : (c : ℕ) → Out c → digit_val c ≡ 16
unfolding digit_val
digit_out c o =
    ⊎_elim
    (λ k. simp (lt-leb 48 c k, lt-leb 97 c (omega arith), lt-leb 65 c (omega arith)))
    (λ k. simp (le-leb 48 c (omega arith), lt-leb c 57 (omega arith), le-leb 97 c (omega arith), lt-leb c 102 (omega arith), le-leb 65 c (omega arith), lt-leb c 70 (omega arith)))
    o

digit_in : (c : ℕ) → digit_val c < 16 → (48 ≤ c) × (c ≤ 122)
digit_in c d = within c (λ o. omega (arith, digit_out c o))

-- ---- what holds of the quote and of all codes between 0 and z holds of what an escape reads
module _ (P : ℕ → Type 0) (inside : (c : ℕ) → 48 ≤ c → c ≤ 122 → P c) where
  pub digits_heads : (base n v : ℕ) (r : List Char) → base ≤ 16 → Heads P (escape_digits base n v r).len r
  unfolding escape_digits
  digits_heads base zero v r l = tt
  digits_heads base (suc n) v [] l = tt
  digits_heads base (suc n) v (c ∷ r) l =
      let ih = digits_heads base n (v * base + digit_val c.code) r l in
      cond_ind (λ (x : Digits). Heads P x.len (c ∷ r)) (ltb (digit_val c.code) base) _ _
      (λ d. let g = digit_in c.code (omega (arith, ltb-true (digit_val c.code) base d)) in (inside c.code g.0 g.1, ih)) (λ _. tt)

  hex_heads : (c : Char) (r : List Char) → Heads P (hex_escape c.code r).len (c ∷ r)
  unfolding hex_escape
  hex_heads c r =
      cond_ind (λ (x : Escape). Heads P x.len (c ∷ r)) (eqb (following c.code) 0) _ _ (λ _. tt)
      (λ f. let g = within c.code (λ o. eqb-false _ _ f (following_out c.code o)) in (inside c.code g.0 g.1, digits_heads 16 (following c.code) 0 r (omega arith)))

  module _ (quote : ℕ) (at-quote : P quote) where
    pub escape_heads : (r : List Char) → Heads P (escape_of quote r).len r
    unfolding escape_of octal_escape
    escape_heads [] = tt
    escape_heads (c ∷ r) =
        cond_ind (λ (x : Escape). Heads P x.len (c ∷ r)) (eqb (letter c.code) 0) _ _
        (λ _. cond_ind (λ (x : Escape). Heads P x.len (c ∷ r)) (eqb c.code quote) _ _
        (λ q. (subst P (sym (eqb-true c.code quote q)) at-quote, tt))
        (λ _. cond_ind (λ (x : Escape). Heads P x.len (c ∷ r)) (ltb (digit_val c.code) 8) _ _
        (λ _. digits_heads 8 3 0 (c ∷ r) (omega arith)) (λ _. hex_heads c r)))
        (λ l. let g = within c.code (λ o. eqb-false _ _ l (letter_out c.code o)) in (inside c.code g.0 g.1, tt))

-- an escape reads characters of the text
pub escape_bound : (quote : ℕ) (r : List Char) → (escape_of quote r).len ≤ length r
escape_bound quote r = heads_bound (λ _. Unit {0}) _ r (escape_heads (λ _. Unit {0}) (λ c l h. tt) quote tt r)

-- with an ASCII quote, each of its characters is one byte
pub escape_widths : (quote : ℕ) (s : List ℕ) (p : ℕ) → quote < 0x80
    → widths (take (escape_of quote (chars (drop p s))).len (chars (drop p s))) ≡ (escape_of quote (chars (drop p s))).len
escape_widths quote s p q =
    let r = chars (drop p s) in
    ascii_widths (escape_of quote r).len s p (escape_bound quote r) (heads_at (λ c. c < 0x80) _ r (escape_heads (λ c. c < 0x80) (λ c l h. omega arith) quote q r))

-- the characters after an escape are those at the place where it ends
pub escape_rest : (quote : ℕ) → quote < 0x80 → (s : List ℕ) (p : ℕ) (x : Escape) → x ≡ escape_of quote (chars (drop (p + 1) s))
    → drop x.len (chars (drop (p + 1) s)) ≡ chars (drop (p + (x.len + 1)) s)
escape_rest quote low s p x is =
    let r = chars (drop (p + 1) s) in
    let w : p + 1 + widths (take x.len r) ≡ p + (x.len + 1) = rw is (omega (arith, escape_widths quote s (p + 1) low)) in
    sym (rw w at (place_chars x.len s (p + 1)))
