-- Tables by slots: how a loop fills one, and what is found in two of them.
use Prim.Native.Nat.{ℕ, zero, suc, ◌+◌, ◌*◌, ◌/◌, ◌%◌, ◌≤◌, ◌<◌}
use mathlib.Core.Path.{◌≡◌, refl, sym, ap, ◌∙◌}
use mathlib.Core.Bool.{true, false}
use mathlib.Core.List.{List}
use native.Mathlib.Nat.{zero-add, le_of_suc-le-suc, not-suc-le-zero}
use native.Mathlib.Omega.{arith}
use borrow.Author.Tests.{eq-eqb, ne_eqb}
use lib.Dec.{eqb}
use lib.ListN.{length, get_or, take}
use lib.Seq.{ext_get_or}
use Rattle.swar.specs.Number.{number_of}
use Rattle.swar.proofs.Numbers.{Bytes}
use Rattle.kinds.specs.Kinds.{IDENT}
use Rattle.kinds.specs.Table.{keywords, ident_token}
use Rattle.keywords.specs.Search.{slot_of, row_in, slots_from, by_slot, kind_in}
use Rattle.keywords.proofs.Search.{word_searched}

module _ (f : ℕ → ℕ) where
  slots_length : (a n : ℕ) → length (slots_from f a n) ≡ n
  unfolding slots_from
  slots_length a zero = refl
  slots_length a (suc n) = ap suc (slots_length (suc a) n)

  slots_entry : (a n k : ℕ) → k < n → get_or (slots_from f a n) k 0 ≡ f (a + k)
  unfolding slots_from
  slots_entry a zero k h = absurd (not-suc-le-zero h)
  slots_entry a (suc n) zero h = let e : a ≡ a + 0 = omega arith in ap f e
  slots_entry a (suc n) (suc k) h =
      let e : suc a + k ≡ a + suc k = omega arith in
      slots_entry (suc a) n k (le_of_suc-le-suc h) ∙ ap f e

  by_slot_length : length (by_slot f) ≡ 64
  unfolding by_slot
  by_slot_length = slots_length 0 64

  pub entry : (k : ℕ) → k < 64 → get_or (by_slot f) k 0 ≡ f k
  unfolding by_slot
  entry k h = slots_entry 0 64 k h ∙ ap f (zero-add k)

  pub table_is : (l : List ℕ) → length l ≡ 64 → ((i : ℕ) → i < 64 → get_or l i 0 ≡ f i) → l ≡ by_slot f
  table_is l long each =
      ext_get_or 0 l (by_slot f) (long ∙ sym by_slot_length) (λ i k. each i (omega arith) ∙ sym (entry i (omega arith)))

plus_mod : (n m : ℕ) → (n % 64 + m) % 64 ≡ (n + m) % 64
plus_mod n m = omega arith

-- the slot as the code has it
pub slot_reduced : (number n : ℕ) → (n % 64 + (number % 256 * 8 + number / 256 % 256 * 59)) % 64 ≡ slot_of number n
unfolding slot_of
slot_reduced number n =
    let e : n + (number % 256 * 8 + number / 256 % 256 * 59) ≡ n + number % 256 * 8 + number / 256 % 256 * 59 = omega arith in
    plus_mod n (number % 256 * 8 + number / 256 % 256 * 59) ∙ ap (λ x. x % 64) e

module _ (numbers kinds : List ℕ) (number n slot : ℕ) (e : slot ≡ slot_of number n) where
  pub kind_hit : get_or numbers slot 0 ≡ number → get_or kinds slot 0 ≡ kind_in numbers kinds number n
  kind_hit t =
      let h : eqb (get_or numbers (slot_of number n) 0) number ≡ true = rw e at (eq-eqb _ _ t) in
      rw (e, h)

  pub kind_miss : (get_or numbers slot 0 ≡ number → ⊥) → IDENT ≡ kind_in numbers kinds number n
  kind_miss f =
      let h : eqb (get_or numbers (slot_of number n) 0) number ≡ false = rw e at (ne_eqb _ _ f) in
      rw h

pub slot_small : (number n : ℕ) → slot_of number n < 64
unfolding slot_of
slot_small number n = omega arith

-- the tables of keywords give a word of at most eight bytes its kind
pub kind_found : (s : List ℕ) (n : ℕ) → Bytes s → n ≤ 8 → n ≤ length s
    → kind_in (by_slot (λ slot. (row_in slot keywords).1)) (by_slot (λ slot. (row_in slot keywords).0)) (number_of (take n s)) n
    ≡ ident_token (take n s)
kind_found s n bytes short inside =
    let slot = slot_of (number_of (take n s)) n in
    let h : slot < 64 = slot_small (number_of (take n s)) n in
    rw (entry (λ slot. (row_in slot keywords).1) slot h, entry (λ slot. (row_in slot keywords).0) slot h)
    (word_searched s n n bytes (omega arith) short)
