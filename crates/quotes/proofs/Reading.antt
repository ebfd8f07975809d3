-- For another reader of a body, as one that writes its value: the body at a place by the character there.
use Prim.Native.Nat.{ℕ, suc, ◌+◌, ◌<◌}
use mathlib.Core.Path.{◌≡◌, ap, ◌∙◌}
use mathlib.Core.Bool.{true, false}
use mathlib.Core.List.{List}
use native.Mathlib.Omega.{arith}
use lib.Dec.{eqb, lit<}
use lib.ListN.{length, get_or, drop}
use borrow.Author.Tests.{eq-eqb, ne_eqb}
use Rattle.utf8.specs.declared.Char.{Char}
use Rattle.utf8.specs.Chars.{char_at, chars}
use Rattle.utf8.proofs.First.{char_at_in, chars_ascii, there_chars}
use Rattle.utf8.proofs.Places.{code_there}
use Rattle.errors.specs.Numbers.{OPEN_QUOTE}
use Rattle.escapes.specs.Answers.{Escape}
use Rattle.escapes.specs.Escape.{escape_of}
use Rattle.quotes.specs.Body.{ends, plain, escape, body_from, body}
use Rattle.escapes.proofs.Heads.{escape_rest}
use Rattle.quotes.proofs.Bodies.{body_skip}

module _ (quote : ℕ) (low : quote < 0x80) (s : List ℕ) (p : ℕ) (h : p < length s) where
  pub at_quote : get_or s p 0 ≡ quote → body quote (chars (drop p s)) ≡ ends 1 true 0
  unfolding body_from
  at_quote e = rw (chars_ascii s p h (omega arith), eq-eqb _ _ e)

  module _ (no_quote : get_or s p 0 ≡ quote → ⊥) where
    pub at_lf : get_or s p 0 ≡ 10 → body quote (chars (drop p s)) ≡ ends 0 false OPEN_QUOTE
    unfolding body_from
    at_lf e = rw (chars_ascii s p h (omega arith), ne_eqb _ _ no_quote, eq-eqb _ _ e)

    -- after a backslash the escape there, and then the body after it
    pub at_slash : get_or s p 0 ≡ 92 → (x : Escape) → x ≡ escape_of quote (chars (drop (p + 1) s))
        → body quote (chars (drop p s)) ≡ escape (suc x.len) x.meaning (body quote (chars (drop (p + (x.len + 1)) s)))
    unfolding body_from
    at_slash slash x is =
        let r = chars (drop (p + 1) s) in
        rw (chars_ascii s p h (omega arith), ne_eqb _ _ no_quote, slash, ← is)
        (ap (escape (suc x.len) x.meaning) (body_skip quote x.len r ∙ ap (body quote) (escape_rest quote low s p x is)))

    pub at_plain : (get_or s p 0 ≡ 10 → ⊥) → (get_or s p 0 ≡ 92 → ⊥) → (c : Char) → c ≡ char_at s p
        → body quote (chars (drop p s)) ≡ plain c (body quote (chars (drop (p + c.width) s)))
    unfolding body_from
    at_plain no_lf no_slash c e =
        let same : (x : ℕ) → x < 0x80 → eqb c.code x ≡ eqb (get_or s p 0) x = λ x l. ap (λ (y : Char). eqb y.code x) (e ∙ char_at_in s p h) ∙ code_there s p x h l in
        rw (there_chars s p c h e, same quote low, ne_eqb _ _ no_quote, same 10 (lit< tt), ne_eqb _ _ no_lf, same 92 (lit< tt), ne_eqb _ _ no_slash)
