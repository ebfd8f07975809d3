-- What a text and a value leave in the text area.
use Prim.Native.Nat.{ℕ, suc, ◌+◌, ◌-◌, ◌≤◌}
use mathlib.Core.Path.{◌≡◌, sym, ap, ◌∙◌}
use mathlib.Core.Bool.{Bool, true, false, cond}
use mathlib.Core.List.{List, [], ◌∷◌, ◌++◌}
use native.Mathlib.Nat.{add-zero, zero-add}
use native.Mathlib.Omega.{arith}
use lib.ListN.{length, take, drop, set}
use lib.Seq.{sets, sets-eq}
use Rattle.utf8.specs.Chars.{chars}
use Rattle.lexer.specs.declared.lexed.Text.{Text}
use Rattle.lexer.specs.declared.lexed.Value.{Value}
use Rattle.lexer.specs.declared.lexed.Lexed.{Lexed}
use Rattle.lexer.specs.Placed.{text_of, value_of, said}
use Rattle.scanner.specs.Scan.{written, to_area}

-- text and value by the way of making them, as they are written
module _ (src : List ℕ) (start : ℕ) (x : Lexed) (area : List ℕ) (to : ℕ) where
  pub said_text : {t : Text} → x.text.making ≡ t → sets area to (text_of t (take x.chars (chars (drop start src))) (take (x.end - start) (drop start src))) ≡ sets area to (said src start x).lexeme.text
  unfolding said
  said_text e = rw e

  pub said_value : {v : Value} → x.value.making ≡ v → sets area to (value_of v (chars (drop (start + 1) src))) ≡ sets area to (said src start x).lexeme.value
  unfolding said
  said_value e = rw e

-- what is written in two steps
pub sets_append : (area : List ℕ) (to : ℕ) (xs ys : List ℕ) → sets area to (xs ++ ys) ≡ sets (sets area to xs) (to + length xs) ys
sets_append area to [] ys = rw add-zero
sets_append area to (x ∷ xs) ys =
    let e : suc to + length xs ≡ to + suc (length xs) = omega arith in
    sets_append (set area to x) (suc to) xs ys ∙ ap (λ n. sets (sets (set area to x) (suc to) xs) n ys) e

sets_written : (area xs : List ℕ) → length xs ≤ length area → sets area 0 xs ≡ written xs area
sets_written area xs h = rw zero-add at (sets-eq xs area 0 (omega arith))

-- the text, if it is to be written
abbrev pub TextWritten : List ℕ → List ℕ → Bool → List ℕ → ℕ → Type 0
TextWritten area text differs after to = (after ≡ sets area 0 (cond differs text [])) × (to ≡ length (cond differs text []))

pub text_written : (area text : List ℕ) {differs : Bool} {after : List ℕ} {to : ℕ} → differs ≡ true → after ≡ sets area 0 text → to ≡ length text → TextWritten area text differs after to
text_written area text d e n = rw d (e, n)

pub text_none : (area text : List ℕ) {differs : Bool} {after : List ℕ} {to : ℕ} → differs ≡ false → after ≡ area → to ≡ 0 → TextWritten area text differs after to
text_none area text d e n = rw d (e, n)

-- both parts, each written or not
both : (area one two : List ℕ) {mid : List ℕ} {to : ℕ} → mid ≡ sets area 0 one → to ≡ length one → length (one ++ two) ≤ length area → sets mid to two ≡ written (one ++ two) area
both area one two e n room =
    rw (e, n)
    (ap (λ k. sets (sets area 0 one) k two) (sym (zero-add (length one))) ∙ sym (sets_append area 0 one two) ∙ sets_written area (one ++ two) room)

-- and then the value
module _ (src : List ℕ) (start : ℕ) (x : Lexed) (area : List ℕ) {mid : List ℕ} {to : ℕ} (w : TextWritten area (said src start x).lexeme.text x.text.differs mid to)
    (room : length (to_area (said src start x)) ≤ length area) where
  all : sets mid to (cond x.value.differs (said src start x).lexeme.value []) ≡ written (to_area (said src start x)) area
  unfolding said
  all = both area (cond x.text.differs (said src start x).lexeme.text []) (cond x.value.differs (said src start x).lexeme.value []) w.0 w.1 room

  pub value_written : {after : List ℕ} → x.value.differs ≡ true → after ≡ sets mid to (said src start x).lexeme.value → after ≡ written (to_area (said src start x)) area
  value_written d e = e ∙ ap (λ v. sets mid to (cond v (said src start x).lexeme.value [])) (sym d) ∙ all

  pub value_none : x.value.differs ≡ false → mid ≡ written (to_area (said src start x)) area
  value_none d = ap (λ v. sets mid to (cond v (said src start x).lexeme.value [])) (sym d) ∙ all
