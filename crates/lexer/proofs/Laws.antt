-- `lex` has the laws of LexLaws.antt.
use Prim.Native.Nat.{ℕ, ◌+◌, ◌-◌, ◌≤◌, ◌<◌}
use mathlib.Core.Path.{◌≡◌, refl, sym, ap, ◌∙◌, subst}
use mathlib.Core.Bool.{Bool, true, false, true≢false}
use mathlib.Core.List.{List, [], ◌∷◌, ◌++◌}
use mathlib.Core.Logic.{◌≢◌}
use native.Mathlib.Omega.{arith}
use native.Mathlib.Nat.{add-zero, add_assoc}
use native.Mathlib.Decide.{dec_lt}
use lib.Dec.{eqb}
use lib.ListN.{length, drop, length-drop, drop_of_length-le}
use lib.Seq.{drop-append-le, drop-append-add}
use borrow.Author.Tests.{eqb-true, eqb-false, not-false}
use Rattle.basics.proofs.Choice.{cond_ind}
use Rattle.utf8.specs.declared.Char.{Char}
use Rattle.utf8.specs.Chars.{peek}
use Rattle.utf8.proofs.Ends.{Ends, ends_drop}
use Rattle.kinds.specs.Kinds.{EOF}
use Rattle.digits.specs.Digit.{is_decimal}
use Rattle.words.specs.Word.{is_letter}
use Rattle.blanks.specs.Blank.{is_space, is_blank, Skip, skip}
use Rattle.blanks.proofs.Lengths.{skip_bound, skip_inside, skip_over, mark_stops}
use Rattle.lexer.specs.Lexeme.{taken, Shut, inserted_semicolon, raise}
use Rattle.lexer.specs.Lex.{lex_by, lex_token, lex}
use Rattle.lexer.proofs.LexLaws.{Moves, LexLaws}
use Rattle.lexer.proofs.Fine.{Fine, fine_cond, fine_to, fine_semicolon}
use Rattle.lexer.proofs.Rules.{fine_word, fine_number, fine_string, fine_char, fine_raw, fine_operator, fine_dot, fine_slash}

-- ---- one token, after the blanks
-- a line feed that is no blank stands under the mark
feed_marked : (m : Bool) (c : ℕ) → is_blank m c ≡ false → c ≡ 10 → m ≡ true
unfolding is_blank is_space
feed_marked m c e z = not-false m (rw z at e)

fine_by : (m : Bool) (c : Char) (r t : List Char) → is_blank m c.code ≡ false → Fine m (c ∷ r) (lex_by m c.code (c ∷ r)) (lex_by m c.code (c ∷ (r ++ t)))
unfolding lex_by
fine_by m c r t b =
    let a = c.code in
    let q : List Char = c ∷ r in
    fine_cond m q (is_letter a) _ _ _ _ (λ e. fine_word m c r t e)
    (λ _. fine_cond m q (is_decimal a) _ _ _ _ (λ e. fine_number m c r t (λ _. e))
    (λ _. fine_cond m q (eqb a 10) _ _ _ _ (λ e. fine_semicolon m q (feed_marked m a b (eqb-true a 10 e)))
    (λ f.
    let n = eqb-false a 10 f in
    fine_cond m q (eqb a 34) _ _ _ _ (λ _. fine_string m c r t n)
    (λ _. fine_cond m q (eqb a 39) _ _ _ _ (λ _. fine_char m c r t n)
    (λ _. fine_cond m q (eqb a 96) _ _ _ _ (λ _. fine_raw m c r t n)
    (λ _. fine_cond m q (eqb a 46) _ _ _ _ (λ e. fine_dot m c r t (eqb-true a 46 e))
    (λ _. fine_cond m q (eqb a 47) _ _ _ _ (λ _. fine_slash m c r t n) (λ _. fine_operator m c r t n))))))))

fine_token : (m : Bool) (r t : List Char) → is_blank m (peek r) ≡ false → Fine m r (lex_token m r) (lex_token m (r ++ t))
unfolding lex_token
fine_token true [] t b = fine_to true [] _ _ inserted_semicolon (fine_semicolon true [] refl) (λ h. absurd h)
fine_token false [] t b =
    record { none = refl; bound = omega arith; only = λ e. (refl, refl); local = λ h s. absurd h; moves = λ k. absurd (k refl) }
fine_token m (c ∷ r) t b = fine_by m c r t b

-- what follows the blanks is no blank
skip_stops : (m : Bool) (r : List Char) → is_blank m (peek (drop (skip m r).len r)) ≡ false
unfolding skip
skip_stops m [] = unfold is_blank is_space in refl
skip_stops m (c ∷ r) =
    cond_ind (λ (x : Skip). is_blank m (peek (drop x.len (c ∷ r))) ≡ false) (is_blank m c.code) _ _ (λ _. skip_stops m r) (λ e. e)

-- ---- blanks and a token
module _ (m : Bool) (r : List Char) where
  abbrev rest : List Char
  rest = drop (skip m r).len r

  fine : (t : List Char) → Fine m rest (lex_token m rest) (lex_token m (rest ++ t))
  fine t = fine_token m rest t (skip_stops m r)

  taken_is : taken (lex m r) ≡ (skip m r).len + (lex_token m rest).len
  unfolding lex
  taken_is = rw ((fine []).none, add-zero)

  law_bound : taken (lex m r) ≤ length r
  law_bound = omega (arith, taken_is, (fine []).bound, length-drop (skip m r).len r, skip_bound m r)

  law_moves : (lex m r).kind ≢ EOF → Moves m (lex m r)
  unfolding lex
  law_moves k = (fine []).moves k

  -- a text that ends in a line feed still does after its blanks, unless EOF is there
  kept : Ends r → (lex m r).kind ≢ EOF → Ends rest
  unfolding lex lex_token
  kept h k =
      elim (dec_lt (skip m r).len (length r)) [
        | yes l ↦ ends_drop (skip m r).len r l h
        | no l ↦ let e : length r ≤ (skip m r).len = omega arith in absurd (none m (drop_of_length-le r e) k)
      ]
    where
      none : (n : Bool) → drop (skip n r).len r ≡ [] → (lex_token n (drop (skip n r).len r)).kind ≢ EOF → ⊥
      none true e k = mark_stops r h e
      none false e k = k (rw e)

  module _ (h : Ends r) (k : (lex m r).kind ≢ EOF) (s : Shut (lex m r).error) where
    law_local : (t : List Char) → lex m (r ++ t) ≡ lex m r
    unfolding lex
    law_local t =
        rw (
          skip_inside m r t (λ z. subst Ends z (kept h k)),
          drop-append-le (skip m r).len r t (skip_bound m r),
          ((fine t).local (kept h k) s).0,
        )

    law_seam : drop (taken (lex m r)) r ≡ [] → (lex m r).mark ≡ false
    unfolding lex
    law_seam e = go (lex_token m rest).mark ((fine []).local (kept h k) s).1
      where
        all : length r - taken (lex m r) ≡ 0
        all = sym (length-drop (taken (lex m r)) r) ∙ ap length e

        go : (b : Bool) → (b ≡ true → (lex_token m rest).len < length rest) → b ≡ false
        go true f = absurd (omega (arith, f refl, length-drop (skip m r).len r, taken_is, all))
        go false f = refl

law_blank : (m : Bool) (r t : List Char) → (lex m r).kind ≡ EOF → lex m (r ++ t) ≡ raise (length r) (lex false t)
unfolding lex
law_blank true r t k = absurd (true≢false ((fine true r []).only k).0)
law_blank false r t k = rw (skip_over false r t ((fine false r []).only k).1, drop-append-add r t (skip false t).len, add_assoc)

pub lex_laws : LexLaws lex
lex_laws =
    record {
      bound = law_bound;
      end = unfold lex lex_token skip in refl;
      blank = law_blank;
      local = λ m r t h k s. law_local m r h k s t;
      seam = law_seam;
      moves = law_moves;
    }
