-- The search by slot finds what the table of keywords says.
use Prim.Native.Nat.{ℕ, suc, ◌≤◌, ◌<◌, min, zero-le, suc-le-suc}
use mathlib.Core.Path.{◌≡◌, refl, sym, ap, ◌∙◌}
use mathlib.Core.Bool.{Bool, true, false, cond, ◌&&◌, ◌||◌}
use mathlib.Core.List.{List, [], ◌∷◌}
use mathlib.Core.Logic.{◌⊎◌, inl, inr, ⊎_elim}
use native.Mathlib.Decide.{dec_le}
use native.Mathlib.Omega.{arith}
use borrow.Author.Tests.{leb-true, eqb-true, le-ltb, eq-eqb, ne_eqb}
use lib.Dec.{T, eqb, leb, ltb, eqb→eq}
use lib.ListN.{length, get_or, take}
use lib.Pow.{are_bytes}
use lib.Seq.{length-take-le, take_all, take-length}
use Rattle.basics.proofs.Choice.{cond_ind, either, and_split, and_left, and_right}
use Rattle.basics.proofs.Every.{every_entry}
use Rattle.swar.specs.Number.{number_of}
use Rattle.swar.proofs.Numbers.{Bytes, bytes_of, bytes_take, number_injective}
use Rattle.kinds.specs.Kinds.{IDENT}
use Rattle.kinds.specs.Precedence.{among}
use Rattle.kinds.specs.Table.{Row, keywords, ident_token}
use Rattle.keywords.specs.Search.{slot_of, slot_of_word, pair, row_in}
use Rattle.kinds.proofs.Table.{none}
use Rattle.keywords.proofs.Words.{Known, known, look, keyword_found}

-- the code's row of a keyword
abbrev coded : Row → ℕ × ℕ
coded row = pair row.kind (number_of row.name)

-- a slot holds a row
data Held (slot : ℕ) (rows : List Row) : Type 0 where
  held : (i : ℕ) → i < length rows → length (get_or rows i none).name ≤ 8 → slot ≡ slot_of_word (get_or rows i none).name
      → row_in slot rows ≡ coded (get_or rows i none) → Held slot rows

abbrev in_slot : ℕ → Row → Bool
in_slot slot row = leb (length row.name) 8 && eqb slot (slot_of_word row.name)

deeper : (slot : ℕ) (row : Row) (rows : List Row) → in_slot slot row ≡ false → Held slot rows → Held slot (row ∷ rows)
unfolding row_in
deeper slot row rows e (held i h l s p) = held (suc i) (suc-le-suc h) l s (rw e p)

slot_held : (slot : ℕ) (rows : List Row) → (row_in slot rows ≡ pair IDENT 0) ⊎ Held slot rows
unfolding row_in
slot_held slot [] = inl refl
slot_held slot (row ∷ rows) =
    ⊎_elim
    (λ (e : in_slot slot row ≡ true).
    let q = and_split (leb (length row.name) 8) (eqb slot (slot_of_word row.name)) e in
    inr (held 0 (suc-le-suc zero-le) (leb-true _ _ q.0) (eqb-true _ _ q.1) (rw e)))
    (λ (e : in_slot slot row ≡ false). ⊎_elim (λ d. inl (rw e d)) (λ k. inr (deeper slot row rows e k)) (slot_held slot rows))
    (either (in_slot slot row))

-- the slots of the keywords
abbrev pub taken : List ℕ
taken = 6 ∷ 7 ∷ 8 ∷ 11 ∷ 12 ∷ 14 ∷ 15 ∷ 16 ∷ 17 ∷ 20 ∷ 26 ∷ 27 ∷ 29 ∷ 34 ∷ 37 ∷ 43 ∷ 44 ∷ 45 ∷ 46 ∷ 48 ∷ 50 ∷ 53 ∷ 55 ∷ []

abbrev is_taken : ℕ → Row → Bool
is_taken i row = ltb 8 (length row.name) || among (slot_of_word row.name) taken

-- no other slot has a keyword
pub no_row : (slot : ℕ) → among slot taken ≡ false → pair IDENT 0 ≡ row_in slot keywords
unfolding keywords slot_of number_of
no_row slot e = ⊎_elim (λ d. sym d) (λ k. absurd (in_use k)) (slot_held slot keywords)
  where
    in_use : Held slot keywords → ⊥
    in_use (held i h l s p) =
        let t : T (is_taken i (get_or keywords i none)) = every_entry is_taken keywords none tt i h in
        simp (le-ltb _ _ l, sym s, e) at t

-- what the code answers for a word of at most eight bytes
abbrev pub searched : ℕ → ℕ → ℕ
searched number n = cond (eqb (row_in (slot_of number n) keywords).1 number) (row_in (slot_of number n) keywords).0 IDENT

-- what holds of each keyword: it is of bytes, and if it has at most eight, the code finds it
abbrev is_searched : Row → Bool
is_searched row = ltb 8 (length row.name) || eqb (searched (number_of row.name) (length row.name)) row.kind

module _ (i : ℕ) (h : i < length keywords) where
  row : Row
  row = get_or keywords i none

  right : T (are_bytes row.name && is_searched row)
  unfolding row keywords row_in slot_of number_of
  right = every_entry (λ k r. are_bytes r.name && is_searched r) keywords none tt i h

  keyword_bytes : Bytes row.name
  keyword_bytes = bytes_of row.name (and_left (are_bytes row.name) (is_searched row) right)

  keyword_searched : length row.name ≤ 8 → searched (number_of row.name) (length row.name) ≡ row.kind
  keyword_searched l =
      eqb→eq _ _ (rw (le-ltb 8 (length row.name) l) at (and_right (are_bytes row.name) (is_searched row) right))

-- of two lengths up to eight, one number has two slots
same_slot : (x n m : ℕ) → n ≤ 8 → m ≤ 8 → slot_of x n ≡ slot_of x m → n ≡ m
unfolding slot_of
same_slot x n m h g e = omega arith

module _ (w : List ℕ) (bytes : Bytes w) (short : length w ≤ 8) where
  -- a word in the slot of a keyword with the keyword's number is the keyword
  is_keyword : (i : ℕ) (h : i < length keywords) → length (row i h).name ≤ 8 → slot_of_word w ≡ slot_of_word (row i h).name
      → number_of (row i h).name ≡ number_of w → w ≡ (row i h).name
  is_keyword i h l s e =
      number_injective w (row i h).name bytes (keyword_bytes i h)
      (same_slot (number_of w) (length w) (length (row i h).name) short l (s ∙ ap (λ x. slot_of x (length (row i h).name)) e)) (sym e)

  slot_kind : ident_token w ≡ IDENT → (row_in (slot_of_word w) keywords).1 ≡ number_of w → (row_in (slot_of_word w) keywords).0 ≡ IDENT
  unfolding row
  slot_kind d e =
      ⊎_elim (λ p. ap (λ r. r.0) p) (λ k. of_held k) (slot_held (slot_of_word w) keywords)
    where
      of_held : Held (slot_of_word w) keywords → (row_in (slot_of_word w) keywords).0 ≡ IDENT
      of_held (held i h l s p) =
          let same_word = is_keyword i h l s (ap (λ r. r.1) (sym p) ∙ e) in
          ap (λ r. r.0) p ∙ sym (keyword_found i h) ∙ ap ident_token (sym same_word) ∙ d

  pub search_finds : searched (number_of w) (length w) ≡ ident_token w
  unfolding row
  search_finds = ⊎_elim (λ d. unknown d) (λ k. spelt k) (look w keywords)
    where
      unknown : ident_token w ≡ IDENT → searched (number_of w) (length w) ≡ ident_token w
      unknown d =
          cond_ind (λ x. x ≡ IDENT) (eqb (row_in (slot_of_word w) keywords).1 (number_of w)) (row_in (slot_of_word w) keywords).0 IDENT
          (λ t. slot_kind d (eqb-true _ _ t)) (λ f. refl) ∙ sym d

      spelt : Known w keywords → searched (number_of w) (length w) ≡ ident_token w
      spelt (known i h e) =
          let l : length (get_or keywords i none).name ≤ 8 = rw e at short in
          rw e (keyword_searched i h l ∙ sym (keyword_found i h))

-- the code's last test
module _ (number n kind found : ℕ) (e : pair kind found ≡ row_in (slot_of number n) keywords) where
  pub search_hit : found ≡ number → kind ≡ searched number n
  search_hit t = rw (sym e, eq-eqb _ _ t)

  pub search_miss : (found ≡ number → ⊥) → IDENT ≡ searched number n
  search_miss f = rw (sym e, ne_eqb _ _ f)

-- a word is cut off where the text ends
pub take_least : (len : ℕ) (s : List ℕ) → take (min len (length s)) s ≡ take len s
take_least len s = elim (dec_le len (length s)) [ yes h ↦ inside h | no h ↦ outside h ]
  where
    inside : len ≤ length s → take (min len (length s)) s ≡ take len s
    inside h = let e : min len (length s) ≡ len = omega arith in rw e

    outside : (len ≤ length s → ⊥) → take (min len (length s)) s ≡ take len s
    outside h =
        let e : min len (length s) ≡ length s = omega arith in
        let l : length s ≤ len = omega arith in
        rw e (take-length s ∙ sym (take_all len s l))

pub word_searched : (s : List ℕ) (len n : ℕ) → Bytes s → n ≡ min len (length s) → n ≤ 8
    → searched (number_of (take n s)) n ≡ ident_token (take len s)
word_searched s len n bytes e short =
    let long : length (take n s) ≡ n = length-take-le n s (omega arith) in
    ap (searched (number_of (take n s))) (sym long)
    ∙ search_finds (take n s) (bytes_take n s bytes) (omega arith)
    ∙ ap (λ m. ident_token (take m s)) e
    ∙ ap ident_token (take_least len s)
