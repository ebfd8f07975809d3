-- The kind of a word: that of the keyword whose name it is, or IDENT.
use Prim.Native.Nat.{ℕ, suc, ◌<◌, zero-le, suc-le-suc}
use mathlib.Core.Path.{◌≡◌, refl, sym, ap}
use mathlib.Core.Bool.{Bool, true, false, ◌&&◌, ◌||◌}
use mathlib.Core.List.{List, [], ◌∷◌}
use mathlib.Core.Logic.{◌⊎◌, inl, inr, ⊎_elim}
use borrow.Author.Tests.{lt-leb}
use lib.Dec.{T, eqb, leb, eqb→eq}
use lib.ListN.{length, get_or}
use Rattle.basics.specs.Between.{between}
use Rattle.basics.specs.Same.{same}
use Rattle.basics.specs.Spelling.{spelled}
use Rattle.basics.proofs.Choice.{either, and_left, and_right, true_of}
use Rattle.basics.proofs.Every.{every_entry}
use Rattle.basics.proofs.Lists.{same_true}
use Rattle.kinds.specs.Kinds.{IDENT, BREAK, FALLTHROUGH, INTERFACE, VAR}
use Rattle.kinds.specs.Table.{Row, keywords, kind_named, ident_token}
use Rattle.kinds.proofs.Table.{none}

-- a word is the name of a row of a list
pub data Known (w : List ℕ) (rows : List Row) : Type 0 where
  known : (i : ℕ) → i < length rows → w ≡ (get_or rows i none).name → Known w rows

later : (w : List ℕ) (row : Row) (rows : List Row) → Known w rows → Known w (row ∷ rows)
later w row rows (known i h e) = known (suc i) (suc-le-suc h) e

pub look : (w : List ℕ) (rows : List Row) → (kind_named w rows ≡ IDENT) ⊎ Known w rows
unfolding kind_named
look w [] = inl refl
look w (row ∷ rows) =
    ⊎_elim (λ (e : same w row.name ≡ true). inr (known 0 (suc-le-suc zero-le) (same_true w row.name e)))
    (λ (e : same w row.name ≡ false). ⊎_elim (λ d. inl (rw e d)) (λ k. inr (later w row rows k)) (look w rows))
    (either (same w row.name))

-- what holds of each keyword: its name has its kind, which is between BREAK and VAR
abbrev is_found : Row → Bool
is_found row = eqb (ident_token row.name) row.kind

abbrev in_range : Row → Bool
in_range row = between BREAK row.kind VAR

module _ (i : ℕ) (h : i < length keywords) where
  right : T (is_found (get_or keywords i none) && in_range (get_or keywords i none))
  unfolding keywords kind_named same
  right = every_entry (λ k row. is_found row && in_range row) keywords none tt i h

  pub keyword_found : ident_token (get_or keywords i none).name ≡ (get_or keywords i none).kind
  keyword_found = eqb→eq _ _ (and_left (is_found (get_or keywords i none)) (in_range (get_or keywords i none)) right)

  keyword_kind : between BREAK (get_or keywords i none).kind VAR ≡ true
  keyword_kind = true_of _ (and_right (is_found (get_or keywords i none)) (in_range (get_or keywords i none)) right)

pub word_kind : (w : List ℕ) → (ident_token w ≡ IDENT) ⊎ (between BREAK (ident_token w) VAR ≡ true)
word_kind w = ⊎_elim (λ d. inl d) (λ k. inr (spelt k)) (look w keywords)
  where
    spelt : Known w keywords → between BREAK (ident_token w) VAR ≡ true
    spelt (known i h e) = rw (e, keyword_found i h) (keyword_kind i h)

pub interface_named : (w : List ℕ) → w ≡ spelled "interface" → INTERFACE ≡ ident_token w
unfolding keywords kind_named same
interface_named w e = ap ident_token (sym e)

pub fallthrough_named : (w : List ℕ) → w ≡ spelled "fallthrough" → FALLTHROUGH ≡ ident_token w
unfolding keywords kind_named same
fallthrough_named w e = ap ident_token (sym e)

-- the keywords of more than eight bytes
abbrev long_known : ℕ → Row → Bool
long_known i row = leb (length row.name) 8 || (same row.name (spelled "interface") || same row.name (spelled "fallthrough"))

not_same : (a b : List ℕ) → (a ≡ b → ⊥) → same a b ≡ false
not_same a b f = ⊎_elim (λ (e : same a b ≡ true). absurd (f (same_true a b e))) (λ d. d) (either (same a b))

pub long_unknown : (w : List ℕ) → 8 < length w → (w ≡ spelled "interface" → ⊥) → (w ≡ spelled "fallthrough" → ⊥)
    → IDENT ≡ ident_token w
unfolding keywords same
long_unknown w l f g = ⊎_elim (λ d. sym d) (λ k. absurd (spelt k)) (look w keywords)
  where
    spelt : Known w keywords → ⊥
    spelt (known i h e) =
        let a = not_same w (spelled "interface") f in
        let b = not_same w (spelled "fallthrough") g in
        let t : T (long_known i (get_or keywords i none)) = every_entry long_known keywords none tt i h in
        simp (sym e, lt-leb (length w) 8 l, a, b) at t
