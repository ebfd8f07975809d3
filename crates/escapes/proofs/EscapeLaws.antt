-- Laws of escapes: what a table gives, and an escape at a place of a text, by the character there.
use Prim.Native.Nat.{ℕ, ◌+◌, ◌≤◌, ◌<◌}
use Prim.Native.Char.{code}
use mathlib.Core.Path.{◌≡◌, refl, ap, ◌∙◌}
use mathlib.Core.Bool.{Bool}
use mathlib.Core.List.{List}
use mathlib.Core.Logic.{◌⊎◌, inr, ⊎_elim}
use native.Mathlib.Omega.{arith}
use lib.Dec.{T, leb, eqb, lit≤, lit<, leb→le}
use lib.ListN.{length, get_or, drop}
use borrow.Author.Tests.{eq-eqb, eqb-true, ne_eqb, lt-ltb, le-ltb}
use Rattle.basics.specs.Between.{between}
use Rattle.basics.proofs.Choice.{cond_ind, between_true, true_of}
use Rattle.basics.proofs.Every.{each, each_ind}
use Rattle.utf8.specs.declared.Char.{Char}
use Rattle.utf8.specs.Chars.{first_char, char_at, chars}
use Rattle.utf8.proofs.First.{char_at_in, there_chars, chars_at, chars_end}
use Rattle.utf8.proofs.Places.{test_there, code_there}
use Rattle.errors.specs.Numbers.{CUT_ESCAPE}
use Rattle.digits.specs.Digit.{digit_val}
use Rattle.digits.proofs.Digits.{digit_there}
use Rattle.escapes.specs.Escape.{entry_for, letters, letter, digit_counts, following, unread_escape, single_escape, octal_escape, hex_escape, escape_of}

-- what holds of 0, and of what a table gives to a character that it has, holds of what it gives to any; f is a test that the rows pass
pub entry_ind : (f : (ℕ × ℕ) → Bool) (P : ℕ → Type 0) (c : ℕ) → P 0 → ((row : ℕ × ℕ) → T (f row) → c ≡ row.0 → P row.1) → (rows : List (ℕ × ℕ)) → T (each f rows) → P (entry_for c rows)
entry_ind f P c base one = each_ind f (λ rows. P (entry_for c rows)) base (λ row rows t rest. cond_ind P (eqb c row.0) _ _ (λ e. one row t (eqb-true c row.0 e)) (λ _. rest))

pub following_most : (c : ℕ) → following c ≤ 8
unfolding following
following_most c = entry_ind (λ row. leb row.1 8) (λ n. n ≤ 8) c (lit≤ tt) (λ row most _. leb→le row.1 8 most) digit_counts tt

-- ---- a table of characters between 0 and z gives nothing to others
abbrev pub Out : ℕ → Type 0
Out c = (c < 48) ⊎ (122 < c)

apart : (c x : ℕ) → 48 ≤ x → x ≤ 122 → Out c → c ≡ x → ⊥
apart c x l h o e = ⊎_elim (λ k. omega arith) (λ k. omega arith) o

entry_out : (rows : List (ℕ × ℕ)) → T (each (λ row. between 48 row.0 122) rows) → (c : ℕ) → Out c → entry_for c rows ≡ 0
entry_out rows t c o =
    entry_ind (λ row. between 48 row.0 122) (λ n. n ≡ 0) c refl
    (λ row i e. let key = between_true 48 row.0 122 (true_of _ i) in absurd (apart c row.0 key.0 key.1 o e)) rows t

pub letter_out : (c : ℕ) → Out c → letter c ≡ 0
unfolding letter
letter_out = entry_out letters tt

pub following_out : (c : ℕ) → Out c → following c ≡ 0
unfolding following
following_out = entry_out digit_counts tt

-- ---- the escape at a place
pub escape_end : (quote : ℕ) (s : List ℕ) (p : ℕ) → length s ≤ p → escape_of quote (chars (drop p s)) ≡ unread_escape CUT_ESCAPE
unfolding escape_of
escape_end quote s p h = rw (chars_end s p h)

-- what a table gives to the character there may be read off its first byte
letter_there : (s : List ℕ) (p : ℕ) → p < length s → letter (first_char (drop p s)).code ≡ letter (get_or s p 0)
letter_there s p h = test_there s p letter (λ c l. letter_out c (inr (omega arith))) h

following_there : (s : List ℕ) (p : ℕ) → p < length s → following (first_char (drop p s)).code ≡ following (get_or s p 0)
following_there s p h = test_there s p following (λ c l. following_out c (inr (omega arith))) h

pub escape_letter : (quote : ℕ) (s : List ℕ) (p : ℕ) → p < length s → (letter (get_or s p 0) ≡ 0 → ⊥) → escape_of quote (chars (drop p s)) ≡ single_escape (letter (get_or s p 0))
unfolding escape_of
escape_letter quote s p h l = rw (chars_at s p h, letter_there s p h, ne_eqb _ _ l)

module _ (quote : ℕ) (s : List ℕ) (p : ℕ) (c : Char) (h : p < length s) (e : c ≡ char_at s p) (l : letter (get_or s p 0) ≡ 0) where
  by_byte : {A : Type 0} (f : ℕ → A) → f (first_char (drop p s)).code ≡ f (get_or s p 0) → f c.code ≡ f (get_or s p 0)
  by_byte f same = ap (λ (x : Char). f x.code) (e ∙ char_at_in s p h) ∙ same

  pub escape_quote : c.code ≡ quote → escape_of quote (chars (drop p s)) ≡ single_escape c.code
  unfolding escape_of
  escape_quote q = rw (there_chars s p c h e, by_byte letter (letter_there s p h), eq-eqb _ _ l, eq-eqb _ _ q)

  module _ (q : c.code ≡ quote → ⊥) where
    pub escape_octal : digit_val (get_or s p 0) < 8 → escape_of quote (chars (drop p s)) ≡ octal_escape (chars (drop p s))
    unfolding escape_of
    escape_octal d = rw (there_chars s p c h e, by_byte letter (letter_there s p h), eq-eqb _ _ l, ne_eqb _ _ q, by_byte digit_val (digit_there s p h), lt-ltb _ _ d)

    hex_same : (r : List Char) → hex_escape c.code r ≡ hex_escape (get_or s p 0) r
    unfolding hex_escape
    hex_same r = rw (by_byte following (following_there s p h), by_byte (λ b. eqb b (code "x")) (code_there s p (code "x") h (lit< tt)))

    pub escape_hex : 8 ≤ digit_val (get_or s p 0) → escape_of quote (chars (drop p s)) ≡ hex_escape (get_or s p 0) (chars (drop (p + c.width) s))
    unfolding escape_of
    escape_hex d = rw (there_chars s p c h e, by_byte letter (letter_there s p h), eq-eqb _ _ l, ne_eqb _ _ q, by_byte digit_val (digit_there s p h), le-ltb _ _ d) (hex_same (chars (drop (p + c.width) s)))
