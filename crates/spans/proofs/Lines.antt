-- Laws of a comment's line: one step at a place of a text, by the byte there; and what the place of the closing says.
use Prim.Native.Nat.{ℕ, zero, suc, ◌+◌, ◌-◌, ◌≤◌, ◌<◌, min}
use Prim.Native.Char.{code}
use mathlib.Core.Path.{◌≡◌, refl, sym, ap, ◌∙◌}
use mathlib.Core.Bool.{Bool, true, false, cond, not, ◌&&◌}
use mathlib.Core.List.{List, [], ◌∷◌}
use mathlib.Core.Logic.{⊎_elim}
use native.Mathlib.Omega.{arith}
use native.Mathlib.Decide.{dec_lt}
use lib.Dec.{eqb, lit<}
use lib.ListN.{length, get_or, take, drop, drop_of_length-le, length-drop}
use lib.Seq.{take-length}
use borrow.Author.Tests.{eq-eqb, eqb-true, eqb-false, ne_eqb}
use Rattle.std.specs.List.{list_all, take_while}
use Rattle.std.proofs.lemmas.List.Sums.{take_while-cons}
use Rattle.basics.proofs.Choice.{either}
use Rattle.basics.proofs.Lists.{drop_next}
use Rattle.utf8.specs.declared.Char.{Char}
use Rattle.utf8.specs.Chars.{first_char, char_at, chars}
use Rattle.utf8.proofs.First.{chars_at, chars_end, chars_ascii, there_chars}
use Rattle.utf8.proofs.Places.{ascii_only, test_there, code_there}
use Rattle.blanks.specs.Blank.{is_space}
use Rattle.blanks.proofs.Blanks.{space_high}
use Rattle.spans.specs.declared.line.Stop.{Stop}
use Rattle.spans.specs.declared.line.Stop.TheVariants.{Closed, End}
use Rattle.utf8.proofs.Count.{code_at}
use Rattle.spans.specs.Line.{blank_to_end, ends_line}
use Rattle.spans.specs.Steps.{stop_from}

module _ (s : List ℕ) (p : ℕ) where
  pub blank_end : length s ≤ p → blank_to_end (chars (drop p s)) ≡ true
  unfolding blank_to_end
  blank_end h = rw (chars_end s p h)

  module _ (h : p < length s) where
    pub blank_lf : get_or s p 0 ≡ code "\n" → blank_to_end (chars (drop p s)) ≡ true
    unfolding blank_to_end
    blank_lf e = rw (chars_at s p h, code_there s p (code "\n") h (lit< tt), eq-eqb _ _ e)

    module _ (n : get_or s p 0 ≡ code "\n" → ⊥) where
      pub blank_other : is_space (get_or s p 0) ≡ false → blank_to_end (chars (drop p s)) ≡ false
      unfolding blank_to_end
      blank_other e = rw (chars_at s p h, code_there s p (code "\n") h (lit< tt), ne_eqb _ _ n, test_there s p is_space space_high h, e)

      pub blank_next : is_space (get_or s p 0) ≡ true → blank_to_end (chars (drop p s)) ≡ blank_to_end (chars (drop (p + 1) s))
      unfolding blank_to_end
      blank_next e = rw (chars_ascii s p h (ascii_only is_space space_high _ e), ne_eqb _ _ n, e)

-- ---- the same in std's words
abbrev pub not_lf : ℕ → Bool
not_lf b = not (eqb b 10)

module _ (s : List ℕ) where
  blank_bytes : (n p : ℕ) → length s ≤ p + n → list_all is_space (take_while not_lf (drop p s)) ≡ blank_to_end (chars (drop p s))
  blank_bytes zero p m = let h : length s ≤ p = omega arith in rw (blank_end s p h, drop_of_length-le s h)
  blank_bytes (suc n) p m =
      elim (dec_lt p (length s)) [
        | yes h ↦
            ap (λ l. list_all is_space (take_while not_lf l)) (drop_next s p 0 h)
            ∙ ap (list_all is_space) (take_while-cons not_lf (get_or s p 0) (drop (p + 1) s))
            ∙ (⊎_elim
            (λ (e : eqb (get_or s p 0) 10 ≡ true). rw e (sym (blank_lf s p h (eqb-true _ _ e))))
            (λ (e : eqb (get_or s p 0) 10 ≡ false).
            rw e
            (⊎_elim
            (λ (t : is_space (get_or s p 0) ≡ true). rw t (blank_bytes n (p + 1) (omega arith) ∙ sym (blank_next s p h (eqb-false _ _ e) t)))
            (λ (t : is_space (get_or s p 0) ≡ false). rw t (sym (blank_other s p h (eqb-false _ _ e) t)))
            (either (is_space (get_or s p 0)))))
            (either (eqb (get_or s p 0) 10)))
        | no h ↦ let k : length s ≤ p = omega arith in rw (blank_end s p k, drop_of_length-le s k)
      ]

  -- of what is left of the text after a place
  pub blank_left : (p m : ℕ) → m ≡ min p (length s) → list_all is_space (take_while not_lf (take (length s - m) (drop m s))) ≡ blank_to_end (chars (drop p s))
  blank_left p m is =
      let whole : length s - m ≡ length (drop m s) = omega (arith, length-drop m s) in
      rw (whole, take-length (drop m s))
      (blank_bytes (length s) m (omega arith)
      ∙ elim (dec_lt p (length s)) [
        | yes h ↦ let e : m ≡ p = omega arith in rw e
        | no h ↦ blank_end s m (omega arith) ∙ sym (blank_end s p (omega arith))
      ])

-- ---- the search for the comment's end
module _ (s : List ℕ) (p : ℕ) (star : Bool) where
  pub stop_end : length s ≤ p → stop_from p star (chars (drop p s)) ≡ End false
  unfolding stop_from
  stop_end h = rw (chars_end s p h)

  module _ (h : p < length s) where
    pub stop_lf : get_or s p 0 ≡ code "\n" → stop_from p star (chars (drop p s)) ≡ End true
    unfolding stop_from
    stop_lf e = rw (chars_at s p h, code_there s p (code "\n") h (lit< tt), eq-eqb _ _ e)

    module _ (n : get_or s p 0 ≡ code "\n" → ⊥) (c : Char) (e : c ≡ char_at s p) where
      stop_step : stop_from p star (chars (drop p s))
          ≡ cond (star && eqb (get_or s p 0) (code "/")) (Closed (p + c.width)) (stop_from (p + c.width) (eqb (get_or s p 0) (code "*")) (chars (drop (p + c.width) s)))
      unfolding stop_from
      stop_step = rw (there_chars s p c h e, code_at s p c (code "\n") h e (lit< tt), ne_eqb _ _ n, code_at s p c (code "/") h e (lit< tt), code_at s p c (code "*") h e (lit< tt))

      pub stop_closed : star && eqb (get_or s p 0) (code "/") ≡ true → stop_from p star (chars (drop p s)) ≡ Closed (p + c.width)
      stop_closed k = rw k at stop_step

      pub stop_next : star && eqb (get_or s p 0) (code "/") ≡ false
          → stop_from p star (chars (drop p s)) ≡ stop_from (p + c.width) (eqb (get_or s p 0) (code "*")) (chars (drop (p + c.width) s))
      stop_next k = rw k at stop_step

-- ---- what the search says of the line
abbrev pub line_ends : List ℕ → Stop → Bool
line_ends s (Closed p) = blank_to_end (chars (drop p s))
line_ends s (End lf) = true

next_chars : (s : List ℕ) (p : ℕ) (c : Char) (r : List Char) → c ∷ r ≡ chars (drop p s) → r ≡ chars (drop (p + c.width) s)
next_chars s p c r e =
    elim (dec_lt p (length s)) [
      | yes h ↦
          let f = e ∙ chars_at s p h in
          let g : c ≡ first_char (drop p s) = cc in
          let k : r ≡ chars (drop (p + (first_char (drop p s)).width) s) = cc in
          rw g k
      | no h ↦ let f = e ∙ chars_end s p (omega arith) in let z : ◌≡◌ {A = ℕ} 0 1 = cc in absurd (omega arith)
    ]

line_of : (s : List ℕ) (p : ℕ) (star : Bool) (r : List Char) → r ≡ chars (drop p s) → ends_line star r ≡ line_ends s (stop_from p star r)
unfolding ends_line stop_from
line_of s p star [] e = refl
line_of s p star (c ∷ r) e =
    let n = next_chars s p c r e in
    go (eqb c.code (code "\n")) (star && eqb c.code (code "/")) n (line_of s (p + c.width) (eqb c.code (code "*")) r n)
  where
    go : (t u : Bool) → r ≡ chars (drop (p + c.width) s)
        → ends_line (eqb c.code (code "*")) r ≡ line_ends s (stop_from (p + c.width) (eqb c.code (code "*")) r)
        → cond t true (cond u (blank_to_end r) (ends_line (eqb c.code (code "*")) r))
        ≡ line_ends s (cond t (End true) (cond u (Closed (p + c.width)) (stop_from (p + c.width) (eqb c.code (code "*")) r)))
    go true u n ih = refl
    go false true n ih = ap blank_to_end n
    go false false n ih = ih

pub ends_line_of : (s : List ℕ) (p : ℕ) → ends_line false (chars (drop p s)) ≡ line_ends s (stop_from p false (chars (drop p s)))
ends_line_of s p = line_of s p false (chars (drop p s)) refl
