-- A simple token that was given is one that the lexer says.
use Prim.Native.Nat.{ℕ, ◌+◌, ◌-◌, ◌≤◌, ◌<◌}
use mathlib.Core.Path.{◌≡◌, refl, sym, ap, ◌∙◌}
use mathlib.Core.Bool.{Bool, true, false}
use mathlib.Core.List.{List}
use mathlib.Core.Logic.{⊎_elim}
use native.Mathlib.Nat.{add-zero}
use native.Mathlib.Omega.{arith}
use lib.Dec.{eqb}
use lib.ListN.{length, take, drop, get_or, length-drop}
use lib.Seq.{take_all}
use borrow.Author.Tests.{ne_eqb, eqb-true, eqb-false}
use Rattle.std.specs.Prelude.{None}
use Rattle.basics.proofs.Choice.{either}
use Rattle.utf8.specs.Chars.{chars}
use Rattle.swar.specs.Number.{number_of}
use Rattle.swar.proofs.Numbers.{Bytes}
use Rattle.kinds.specs.declared.kind.Kind.{Kind}
use Rattle.kinds.specs.Kinds.{EOF, IDENT, STRING}
use Rattle.kinds.specs.Number.{kind_number}
use Rattle.kinds.specs.Table.{ident_token, sets_mark}
use Rattle.keywords.proofs.Slots.{kind_found}
use Rattle.words.specs.Word.{is_letter, word_len}
use Rattle.lexer.specs.declared.lexed.Text.{Text}
use Rattle.lexer.specs.declared.lexed.Text.TheVariants.{Empty, AsRead}
use Rattle.lexer.specs.declared.lexed.Lexed.{Lexed}
use Rattle.lexer.specs.Lex.{lex_token}
use Rattle.lexer.specs.Made.{shown_as, answer_with}
use Rattle.lexer.specs.Placed.{placed, said}
use Rattle.lexer.proofs.Known.{word_known, word_no_string}
use Rattle.lexer.proofs.Dispatch.{word_is}
use Rattle.lexer.proofs.Tokens.{identifier_said, keyword_said}
use Rattle.batch.specs.declared.next.Next.{Next}
use Rattle.scanner.specs.Steps.{token_by}
use Rattle.batch.specs.Simple.{keyword_in, simple_token, word_token, Gave}
use Rattle.batch.specs.KindOf.{kind_of}
use Rattle.batch.proofs.WordKinds.{numbered, word_below}

module _ (src : List ℕ) (at safe position : ℕ) where
  -- a token of ASCII characters that is no string
  module _ (kind : Kind) (end n : ℕ) (inserted mark : Bool) (making : Text) (bytes : ℕ) where
    abbrev lexed : Lexed
    lexed = answer_with None kind end n inserted mark (shown_as making bytes false)

    token_is : eqb (kind_number kind) STRING ≡ false → simple_token (kind_number kind) inserted position at (at + bytes) ≡ token_by lexed at position
    token_is e = rw (e, add-zero bytes, add-zero at)

    pub gives_plain : ((m : Bool) → said src at lexed ≡ placed src at (lex_token m (chars (drop at src)))) → n ≡ end - at
        → eqb (kind_number kind) EOF ≡ false → eqb (kind_number kind) STRING ≡ false → end < safe + 16
        → {r : Next} → r ≡ record { token = simple_token (kind_number kind) inserted position at (at + bytes); place = end; mark = mark }
        → Gave src at safe position r
    gives_plain reads ascii known no-string near {r} e =
        record {
          x = lexed;
          reads = reads;
          plain = refl;
          ascii = ascii;
          feeds = refl;
          known = known;
          near = near;
          token = ap (λ (y : Next). y.token) e ∙ token_is no-string;
          place = ap (λ (y : Next). y.place) e;
          mark = ap (λ (y : Next). y.mark) e;
        }

  -- a word
  module _ (h : at < length src) (l : is_letter (get_or src at 0) ≡ true) (kind : Kind) (end : ℕ) (e : end ≡ at + word_len (chars (drop at src)))
      (k : kind_number kind ≡ ident_token (take (end - at) (take (length src - at) (drop at src)))) (near : end < safe + 16)
      {r : Next} (is : r ≡ record { token = word_token (kind_number kind) position at end; place = end; mark = sets_mark (kind_number kind) }) where
    known : eqb (kind_number kind) EOF ≡ false
    known = ne_eqb (kind_number kind) EOF (λ z. word_known _ (sym k ∙ z))

    no_string : eqb (kind_number kind) STRING ≡ false
    no_string = ne_eqb (kind_number kind) STRING (λ z. word_no_string _ (sym k ∙ z))

    identifier : kind_number kind ≡ IDENT → Gave src at safe position r
    identifier i =
        let whole : at + (end - at) ≡ end = omega (arith, e) in
        gives_plain kind end (end - at) false true AsRead (end - at)
        (λ m. identifier_said src at end kind e k l i ∙ ap (placed src at) (word_is m src at h l)) refl known no_string near
        (is ∙ rw (i, whole))

    keyword : (kind_number kind ≡ IDENT → ⊥) → Gave src at safe position r
    keyword n =
        gives_plain kind end (end - at) false (sets_mark (kind_number kind)) Empty 0
        (λ m. keyword_said src at end kind e k n ∙ ap (placed src at) (word_is m src at h l)) refl known no_string near
        (is ∙ rw (ne_eqb (kind_number kind) IDENT n, add-zero at))

    pub gives_word : Gave src at safe position r
    gives_word = ⊎_elim (λ i. identifier (eqb-true (kind_number kind) IDENT i)) (λ n. keyword (eqb-false (kind_number kind) IDENT n)) (either (eqb (kind_number kind) IDENT))

-- a word of fewer than eight bytes, by its length
pub gives_short : (src : List ℕ) (at safe position : ℕ) → at < length src → is_letter (get_or src at 0) ≡ true
    → (number n : ℕ) → n ≡ word_len (chars (drop at src)) → number ≡ ident_token (take n (drop at src)) → at + n < safe + 16
    → {r : Next} → r ≡ record { token = word_token number position at (at + n); place = at + n; mark = sets_mark number }
    → Gave src at safe position r
gives_short src at safe position h l number n e k near is =
    let same : at + n - at ≡ n = omega arith in
    let known : kind_number (kind_of number) ≡ number = numbered number (omega (arith, k, word_below (take n (drop at src)))) in
    gives_word src at safe position h l (kind_of number) (at + n) (ap (λ m. at + m) e)
    (known ∙ k ∙ rw (same, take_all (length src - at) (drop at src) (omega (arith, length-drop at src)))) near (is ∙ rw known)

-- the kind that the tables of the keywords tell
pub kind_told : (s : List ℕ) (number n kind : ℕ) → Bytes s → n ≤ 8 → n ≤ length s → number ≡ number_of (take n s)
    → kind ≡ keyword_in number n → kind ≡ ident_token (take n s)
kind_told s number n kind bytes short inside e k = k ∙ rw e (kind_found s n bytes short inside)
