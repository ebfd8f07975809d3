-- Laws of the text of characters at a place.
use Prim.Native.Nat.{ℕ, suc, ◌+◌, ◌-◌, ◌≤◌, ◌<◌}
use mathlib.Core.Path.{◌≡◌, refl, ap, ap₂, ◌∙◌}
use mathlib.Core.Bool.{Bool, true, false, cond, not, ◌||◌}
use mathlib.Core.List.{List, [], ◌∷◌, ◌++◌}
use native.Mathlib.Omega.{arith}
use lib.ListN.{length, take, drop}
use lib.Seq.{take-nil}
use Rattle.utf8.specs.declared.Char.{Char}
use Rattle.utf8.specs.Chars.{char_at, chars, encode, encoded}
use Rattle.utf8.proofs.First.{chars_end, there_chars}
use Rattle.utf8.specs.Count.{is_cr}
use Rattle.spans.specs.Body.{clean}
use Rattle.writing.specs.Text.{text}

pub text_encoded : (cs : List Char) → text true cs ≡ encoded cs
unfolding text
text_encoded [] = refl
text_encoded (c ∷ cs) = ap (λ l. encode c.code ++ l) (text_encoded cs)

cond_not : (t : Bool) (x y : List ℕ) → cond (not t) x y ≡ cond t y x
cond_not true x y = refl
cond_not false x y = refl

pub text_clean : (cs : List Char) → text false cs ≡ clean cs
unfolding text clean
text_clean [] = refl
text_clean (c ∷ cs) = ap₂ ◌++◌ (cond_not (is_cr c) (encode c.code) []) (text_clean cs)

-- the text of at most `left` characters at a place
abbrev pub text_at : Bool → ℕ → List ℕ → ℕ → List ℕ
text_at crs left s p = text crs (take left (chars (drop p s)))

module _ (crs : Bool) (left : ℕ) (s : List ℕ) (p : ℕ) where
  pub text_none : left ≤ 0 → text_at crs left s p ≡ []
  unfolding text
  text_none l = let z : left ≡ 0 = omega arith in ap (λ n. text_at crs n s p) z

  pub text_end : length s ≤ p → text_at crs left s p ≡ []
  unfolding text
  text_end h = ap (λ cs. text crs (take left cs)) (chars_end s p h) ∙ ap (text crs) (take-nil left)

  -- one character more
  module _ (c : Char) (l : 0 < left) (h : p < length s) (e : c ≡ char_at s p) where
    text_next : text_at crs left s p ≡ cond (crs || not (is_cr c)) (encode c.code) [] ++ text_at crs (left - 1) s (p + c.width)
    unfolding text
    text_next =
        let one_more : left ≡ suc (left - 1) = omega arith in
        ap (λ n. text_at crs n s p) one_more ∙ ap (λ cs. text crs (take (suc (left - 1)) cs)) (there_chars s p c h e)

    pub text_kept : crs || not (is_cr c) ≡ true → text_at crs left s p ≡ encode c.code ++ text_at crs (left - 1) s (p + c.width)
    text_kept t = rw t at text_next

    pub text_dropped : crs || not (is_cr c) ≡ false → text_at crs left s p ≡ text_at crs (left - 1) s (p + c.width)
    text_dropped t = rw t at text_next
