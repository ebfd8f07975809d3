-- Laws of the value of a string's body at a place.
use Prim.Native.Nat.{ℕ, suc, ◌+◌, ◌≤◌, ◌<◌}
use mathlib.Core.Path.{◌≡◌, ap, ◌∙◌}
use mathlib.Core.Bool.{Bool}
use mathlib.Core.List.{List, [], ◌++◌}
use lib.Dec.{lit<}
use lib.ListN.{length, get_or, drop}
use Rattle.utf8.specs.declared.Char.{Char}
use Rattle.utf8.specs.Chars.{char_at, chars, encode}
use Rattle.utf8.proofs.First.{chars_end}
use Rattle.escapes.specs.Answers.{Meaning, character, no_character, Escape, bytes_of}
use Rattle.escapes.specs.Escape.{escape_of}
use Rattle.quotes.specs.Body.{Body, escape, body_from, body}
use Rattle.quotes.proofs.Reading.{at_quote, at_lf, at_slash, at_plain}

abbrev value_of : Body → List ℕ
value_of b = b.value

-- the value of the body at a place
abbrev pub value_at : List ℕ → ℕ → List ℕ
value_at s p = (body 34 (chars (drop p s))).value

module _ (s : List ℕ) (p : ℕ) where
  pub value_end : length s ≤ p → value_at s p ≡ []
  unfolding body_from
  value_end h = ap (λ r. (body 34 r).value) (chars_end s p h)

  module _ (h : p < length s) where
    pub value_quote : get_or s p 0 ≡ 34 → value_at s p ≡ []
    value_quote e = ap value_of (at_quote 34 (lit< tt) s p h e)

    module _ (no_quote : get_or s p 0 ≡ 34 → ⊥) where
      pub value_lf : get_or s p 0 ≡ 10 → value_at s p ≡ []
      value_lf e = ap value_of (at_lf 34 (lit< tt) s p h no_quote e)

      module _ (slash : get_or s p 0 ≡ 92) (x : Escape) (is : x ≡ escape_of 34 (chars (drop (p + 1) s))) where
        abbrev after_escape : Meaning → List ℕ
        after_escape g = (escape (suc x.len) g (body 34 (chars (drop (p + (x.len + 1)) s)))).value

        value_slash : value_at s p ≡ after_escape x.meaning
        value_slash = ap value_of (at_slash 34 (lit< tt) s p h no_quote slash x is)

        pub value_bad : (error : ℕ) → x.meaning ≡ no_character error → value_at s p ≡ []
        value_bad error g = value_slash ∙ ap after_escape g

        pub value_escape : (code : ℕ) (byte : Bool) → x.meaning ≡ character code byte → value_at s p ≡ bytes_of (character code byte) ++ value_at s (p + (x.len + 1))
        value_escape code byte g = value_slash ∙ ap after_escape g

      pub value_plain : (get_or s p 0 ≡ 10 → ⊥) → (get_or s p 0 ≡ 92 → ⊥) → (c : Char) → c ≡ char_at s p → value_at s p ≡ encode c.code ++ value_at s (p + c.width)
      value_plain no_lf no_slash c e = ap value_of (at_plain 34 (lit< tt) s p h no_quote no_lf no_slash c e)
