-- Laws of counts and widths of characters: of joined ones, what the last adds, and that a count is no more than the bytes.
use Prim.Native.Nat.{ℕ, zero, suc, ◌+◌, ◌≤◌, ◌<◌}
use mathlib.Core.Path.{◌≡◌, refl, sym, ◌∙◌}
use mathlib.Core.Bool.{Bool, true, false}
use mathlib.Core.List.{List, [], ◌∷◌, ◌++◌}
use native.Mathlib.Omega.{arith}
use native.Mathlib.Decide.{dec_lt}
use native.Mathlib.Nat.{add-zero, zero-add, add_assoc}
use lib.Dec.{eqb, lit≤}
use lib.ListN.{length, get_or, take, drop}
use lib.Seq.{take-suc}
use Rattle.utf8.specs.declared.Char.{Char}
use Rattle.utf8.specs.Chars.{ended, first_char, char_at, chars, widths}
use Rattle.utf8.specs.Count.{one, count}
use Rattle.utf8.proofs.First.{first_least, char_at_in, chars_at, chars_end}
use Rattle.utf8.proofs.Places.{code_there}

pub one_le : (t : Bool) → one t ≤ 1
one_le true = lit≤ tt
one_le false = lit≤ tt

pub le_one : (n : ℕ) (t : Bool) → n ≡ one t → n ≤ 1
le_one n t e = rw e (one_le t)

pub count_append : (test : Char → Bool) (r t : List Char) → count test (r ++ t) ≡ count test r + count test t
count_append test [] t = sym (zero-add _)
count_append test (c ∷ r) t = rw (count_append test r t) (sym (add_assoc (one (test c)) (count test r) (count test t)))

pub widths_append : (r t : List Char) → widths (r ++ t) ≡ widths r + widths t
widths_append [] t = sym (zero-add _)
widths_append (c ∷ r) t = rw (widths_append r t) (sym (add_assoc c.width (widths r) (widths t)))

module _ (r : List Char) (n : ℕ) (h : n < length r) where
  pub count_last : (test : Char → Bool) → count test (take (suc n) r) ≡ count test (take n r) + one (test (get_or r n ended))
  count_last test = rw (take-suc r n ended h, count_append test (take n r) (get_or r n ended ∷ []), add-zero (one (test (get_or r n ended))))

  pub widths_last : widths (take (suc n) r) ≡ widths (take n r) + (get_or r n ended).width
  widths_last = rw (take-suc r n ended h, widths_append (take n r) (get_or r n ended ∷ []), add-zero (get_or r n ended).width)

-- ---- of characters at a place
-- none of them is without a byte
pub count_fits : (test : Char → Bool) (k : ℕ) (s : List ℕ) (p : ℕ) → count test (take k (chars (drop p s))) ≤ widths (take k (chars (drop p s)))
count_fits test zero s p = lit≤ tt
count_fits test (suc k) s p =
    elim (dec_lt p (length s)) [
      | yes h ↦
          let c = first_char (drop p s) in
          rw (chars_at s p h) (omega (arith, le_one (one (test c)) (test c) refl, first_least (drop p s), count_fits test k s (p + c.width)))
      | no h ↦ rw (chars_end s p (omega arith)) (lit≤ tt)
    ]

-- the test of one for an ASCII code is that of the byte at its place
pub code_at : (s : List ℕ) (p : ℕ) (c : Char) (x : ℕ) → p < length s → c ≡ char_at s p → x < 0x80 → eqb c.code x ≡ eqb (get_or s p 0) x
code_at s p c x h e l = rw (e ∙ char_at_in s p h) (code_there s p x h l)
