-- What is said of a number is right: how long its text is, and where it differs from the bytes read.
use Prim.Native.Nat.{ℕ, zero, suc, ◌+◌, ◌-◌, ◌≤◌, ◌<◌}
use mathlib.Core.Path.{◌≡◌, refl, sym, ap, ◌∙◌}
use mathlib.Core.Bool.{true, false, not, false≢true, and-false}
use mathlib.Core.List.{List, [], ◌∷◌, ◌++◌}
use mathlib.Core.Logic.{◌≢◌}
use native.Mathlib.Omega.{arith}
use native.Mathlib.Nat.{add-zero}
use lib.ListN.{length, get_or, take, drop, length-map}
use lib.Seq.{get_or-take}
use borrow.Author.Tests.{ne_eqb}
use Rattle.basics.specs.Same.{same}
use Rattle.basics.specs.Between.{between}
use Rattle.basics.proofs.Choice.{between_true}
use Rattle.basics.proofs.Lists.{same_refl, same_length}
use Rattle.utf8.specs.declared.Char.{Char}
use Rattle.utf8.specs.Chars.{ended, chars, octets, encode, encoded}
use Rattle.utf8.proofs.Places.{place_fits}
use Rattle.utf8.proofs.Encoding.{encode_ascii}
use Rattle.std.specs.Prelude.{Option}
use Rattle.kinds.specs.Kinds.{STRING}
use Rattle.kinds.specs.declared.kind.Kind.{Kind}
use Rattle.kinds.specs.Number.{kind_number}
use Rattle.errors.specs.declared.fault.Fault.{Fault}
use Rattle.errors.specs.Faults.{error_number}
use Rattle.numbers.specs.declared.Spelling.{Spelling}
use Rattle.numbers.specs.declared.Spelling.TheVariants.{AsRead, LowerPrefix, OctalPrefix, LowerExponent}
use Rattle.numbers.specs.Number.{number}
use Rattle.numbers.specs.Spelling.{lower_second, gain_o, lower_e, number_text}
use Rattle.numbers.proofs.Tested.{Spelled, number_ascii, number_spelled, number_within, number_kind}
use Rattle.lexer.specs.declared.lexed.Text.TheVariants.{Number as NumberText}
use Rattle.lexer.specs.declared.lexed.Lexed.{Lexed}
use Rattle.lexer.specs.Lexeme.{shown}
use Rattle.lexer.specs.Words.{lex_number}
use Rattle.lexer.specs.Made.{shown_as, no_value, gained_by, respelled_by}
use Rattle.lexer.specs.Making.{is_number, spelling_of}
use Rattle.lexer.specs.Placed.{text_differs_in, placed, said}
use Rattle.lexer.proofs.Said.{alike, exact_length, text_same, text_some}
use Rattle.lexer.proofs.Ascii.{AsciiFacts, ascii_facts}
use Rattle.lexer.proofs.Ways.{way_number, number_taken}
use Rattle.lexer.proofs.NumberStarts.{some_read, two_read}

-- ---- how long the text is
second_length : (bytes : List ℕ) → length (lower_second bytes) ≡ length bytes
second_length [] = refl
second_length (a ∷ []) = refl
second_length (a ∷ b ∷ bytes) = refl

gained_length : (bytes : List ℕ) → 1 ≤ length bytes → length (gain_o bytes) ≡ length bytes + 1
gained_length [] h = absurd (omega arith)
gained_length (a ∷ bytes) h = omega arith

lowered_length : (bytes : List ℕ) → length (lower_e bytes) ≡ length bytes
lowered_length bytes = length-map bytes _

text_length_lem : (sp : Spelling) (r : List Char) (bytes : List ℕ) → Spelled sp r (length bytes) → length (number_text sp bytes) ≡ length bytes + gained_by sp
unfolding number_text
text_length_lem AsRead r bytes h = sym (add-zero _)
text_length_lem LowerPrefix r bytes h = omega (arith, second_length bytes)
text_length_lem OctalPrefix r bytes h = gained_length bytes h
text_length_lem LowerExponent r bytes h = omega (arith, lowered_length bytes)

-- a byte more at most
pub gained_most : (sp : Spelling) → gained_by sp ≤ 1
gained_most AsRead = omega arith
gained_most LowerPrefix = omega arith
gained_most OctalPrefix = omega arith
gained_most LowerExponent = omega arith

-- ---- where it differs
second_differs : (cs : List Char) → (get_or cs 0 ended).code < 0x80 → between 65 (get_or cs 1 ended).code 90 ≡ true → same (lower_second (encoded cs)) (encoded cs) ≡ false
unfolding same
second_differs [] l u = absurd (false≢true u)
second_differs (a ∷ []) l u = absurd (false≢true u)
second_differs (a ∷ b ∷ cs) l u =
    let c = b.code in
    rw (encode_ascii a.code l, encode_ascii c (omega (arith, (between_true 65 c 90 u).1)), u, ne_eqb (c + 32) c (λ e. omega arith), and-false)

-- nor is it what an exponent in lower case makes
second_lowered : (cs : List Char) → (get_or cs 0 ended).code < 0x80 → between 65 (get_or cs 1 ended).code 90 ≡ true → (get_or cs 1 ended).code ≢ 69
    → same (lower_second (encoded cs)) (lower_e (encoded cs)) ≡ false
unfolding same
second_lowered [] l u n = absurd (false≢true u)
second_lowered (a ∷ []) l u n = absurd (false≢true u)
second_lowered (a ∷ b ∷ cs) l u n =
    let c = b.code in
    rw (encode_ascii a.code l, encode_ascii c (omega (arith, (between_true 65 c 90 u).1)), u, ne_eqb c 69 n, ne_eqb (c + 32) c (λ e. omega arith), and-false)

-- a later difference is one of the whole
behind : (front bytes : List ℕ) → same (lower_e bytes) bytes ≡ false → same (lower_e (front ++ bytes)) (front ++ bytes) ≡ false
unfolding same
behind [] bytes e = e
behind (b ∷ front) bytes e = rw (behind front bytes e, and-false)

exponent_differs : (cs : List Char) (i : ℕ) → (get_or cs i ended).code ≡ 69 → same (lower_e (encoded cs)) (encoded cs) ≡ false
unfolding same encode octets
exponent_differs [] i e = absurd (omega (arith, e))
exponent_differs (c ∷ cs) zero e = rw e
exponent_differs (c ∷ cs) (suc i) e = behind (encode c.code) (encoded cs) (exponent_differs cs i e)

text_differs_lem : (sp : Spelling) (cs : List Char) → ((i : ℕ) → i < length (encoded cs) → (get_or cs i ended).code < 0x80) → Spelled sp cs (length (encoded cs))
    → text_differs_in (number_text sp (encoded cs)) (encoded cs) ≡ respelled_by sp
unfolding number_text
text_differs_lem AsRead cs low h = text_same (encoded cs) (encoded cs) refl
text_differs_lem LowerPrefix cs low h =
    let bytes = encoded cs in
    text_some (lower_second bytes) bytes (omega (arith, second_length bytes, h.0)) ∙ ap not (second_differs cs (low 0 (omega (arith, h.0))) h.1)
text_differs_lem OctalPrefix cs low h =
    let bytes = encoded cs in
    let l = gained_length bytes h in
    text_some (gain_o bytes) bytes (omega (arith, l)) ∙ ap not (same_length (gain_o bytes) bytes (λ e. omega (arith, e, l)))
text_differs_lem LowerExponent cs low h =
    let bytes = encoded cs in
    text_some (lower_e bytes) bytes (omega (arith, lowered_length bytes, h.1)) ∙ ap not (exponent_differs cs h.0 h.2)

-- ---- no earlier spelling makes it
no_octal : (text bytes : List ℕ) → 1 ≤ length bytes → length text ≡ length bytes → same text (gain_o bytes) ≡ false
no_octal text bytes some e = same_length text (gain_o bytes) (λ z. omega (arith, z, e, gained_length bytes some))

spelling_is : (sp : Spelling) (cs : List Char) → ((i : ℕ) → i < length (encoded cs) → (get_or cs i ended).code < 0x80) → Spelled sp cs (length (encoded cs))
    → spelling_of (number_text sp (encoded cs)) (encoded cs) ≡ sp
unfolding number_text
spelling_is AsRead cs low h = rw (same_refl (encoded cs))
spelling_is LowerPrefix cs low h =
    let bytes = encoded cs in
    let first = low 0 (omega (arith, h.0)) in
    rw (second_differs cs first h.1, no_octal (lower_second bytes) bytes (omega (arith, h.0)) (second_length bytes), second_lowered cs first h.1 h.2)
spelling_is OctalPrefix cs low h =
    let bytes = encoded cs in
    rw (same_length (gain_o bytes) bytes (λ e. omega (arith, e, gained_length bytes h)), same_refl (gain_o bytes))
spelling_is LowerExponent cs low h =
    let bytes = encoded cs in
    rw (exponent_differs cs h.0 h.2, no_octal (lower_e bytes) bytes (omega (arith, h.1)) (lowered_length bytes), same_refl (lower_e bytes))

-- the first characters of a text tell of a spelling what the text does
spelled_take : (sp : Spelling) (r : List Char) (n : ℕ) → Spelled sp r n → Spelled sp (take n r) n
spelled_take AsRead r n h = tt
spelled_take LowerPrefix r n h = rw (get_or-take n r 1 ended (omega (arith, h.0))) h
spelled_take OctalPrefix r n h = h
spelled_take LowerExponent r n h = (h.0, h.1, ap (λ c. c.code) (get_or-take n r h.0 ended h.1) ∙ h.2)

module _ (s : List ℕ) (at : ℕ) where
  pub number_facts : AsciiFacts (number (chars (drop at s))).len s at
  number_facts = let r = chars (drop at s) in ascii_facts (number r).len s at (number_within r, number_ascii r)

  pub number_end : at ≤ length s → at + (number (chars (drop at s))).len ≤ length s
  number_end h = rw number_facts.width at (place_fits (number (chars (drop at s))).len s at h)

  -- the answer that the code makes
  abbrev pub numeral_at : Kind → Option Fault → ℕ → Spelling → Lexed
  numeral_at kind error end spelling =
      record {
        end = end;
        chars = end - at;
        lfs = 0;
        strays = 0;
        kind = kind;
        inserted = false;
        mark = true;
        error = error;
        code = 0;
        text = shown_as (NumberText spelling) (end - at + gained_by spelling) (respelled_by spelling);
        value = no_value;
      }

  read : at + (number (chars (drop at s))).len - at ≡ (number (chars (drop at s))).len
  read = omega arith

  pub numeral_said : is_number (chars (drop at s)) ≡ true → (kind : Kind) (error : Option Fault)
      → kind_number kind ≡ (number (chars (drop at s))).kind → error_number error ≡ (number (chars (drop at s))).error
      → said s at (numeral_at kind error (at + (number (chars (drop at s))).len) (number (chars (drop at s))).spelling) ≡ placed s at (lex_number (chars (drop at s)))
  unfolding said placed lex_number same
  numeral_said starts kind error k m =
      let r = chars (drop at s) in
      let x = number r in
      let f = number_facts in
      let cs = take x.len r in
      let h : Spelled x.spelling cs (length (encoded cs)) = rw f.size (spelled_take x.spelling r x.len (number_spelled r)) in
      let low : (i : ℕ) → i < length (encoded cs) → (get_or cs i ended).code < 0x80 = rw f.size (λ i l. rw (get_or-take x.len r i ended l) (number_ascii r i l).0) in
      alike
      (record {
        lexeme = rw (read, ← f.shown, k, m);
        end = rw f.width;
        lfs = sym f.lfs;
        strays = sym f.strays;
        text_making =
            ap NumberText (sym (spelling_is x.spelling cs low h))
            ∙ way_number cs (shown x.kind x.len (number_text x.spelling (encoded cs)) x.error true)
            (omega (arith, text_length_lem x.spelling cs (encoded cs) h, f.size, some_read r starts)) (number_taken x.len r starts (some_read r starts) (two_read r starts));
        value_making = rw (ne_eqb x.kind STRING (number_kind r STRING refl));
        text_length = exact_length (respelled_by x.spelling) _ 0 _ (rw read (omega (arith, f.size, text_length_lem x.spelling cs (encoded cs) h))) (λ _. refl);
        value_length = refl;
        text_differs = rw (f.width, ← f.shown) (sym (text_differs_lem x.spelling cs low h));
        value_differs = rw (ne_eqb x.kind STRING (number_kind r STRING refl));
      })
