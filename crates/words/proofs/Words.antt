-- Laws of words: one character of a run at a place, by the byte there; and that it is the longest run.
use Prim.Native.Nat.{ℕ, ◌+◌, ◌≤◌, ◌<◌}
use Prim.Native.Char.{code}
use mathlib.Core.Path.{◌≡◌, refl}
use mathlib.Core.Bool.{true, false}
use mathlib.Core.List.{List}
use native.Mathlib.Omega.{arith}
use native.Mathlib.Nat.{add-zero}
use lib.ListN.{length, get_or, drop}
use borrow.Author.Tests.{ne_eqb}
use Rattle.basics.proofs.Choice.{above_it}
use Rattle.utf8.specs.Chars.{chars}
use Rattle.utf8.proofs.First.{chars_at, chars_end, chars_ascii}
use Rattle.utf8.proofs.Places.{ascii_only, test_there}
use Rattle.utf8.proofs.Runs.{Run}
use Rattle.words.specs.Word.{is_letter, is_word, word_len}

-- no character above 127 is a letter, or part of a word
pub letter_high : (c : ℕ) → 0x80 ≤ c → is_letter c ≡ false
unfolding is_letter
letter_high c h =
    rw (
      above_it (code "a") c (code "z") (omega arith) (omega arith),
      above_it (code "A") c (code "Z") (omega arith) (omega arith),
      ne_eqb c (code "_") (λ e. omega arith),
    )

pub word_high : (c : ℕ) → 0x80 ≤ c → is_word c ≡ false
unfolding is_word
word_high c h = rw (letter_high c h, above_it (code "0") c (code "9") (omega arith) (omega arith))

module _ (s : List ℕ) (p : ℕ) where
  pub word_end : length s ≤ p → p + word_len (chars (drop p s)) ≡ p
  unfolding word_len
  word_end h = rw (chars_end s p h) (add-zero p)

  module _ (h : p < length s) where
    pub word_more : is_word (get_or s p 0) ≡ true → p + word_len (chars (drop p s)) ≡ p + 1 + word_len (chars (drop (p + 1) s))
    unfolding word_len
    word_more e = rw (chars_ascii s p h (ascii_only is_word word_high _ e), e) (omega arith)

    pub word_stop : is_word (get_or s p 0) ≡ false → p + word_len (chars (drop p s)) ≡ p
    unfolding word_len
    word_stop e = rw (chars_at s p h, test_there s p is_word word_high h, e) (add-zero p)

-- the run's bound, place and locality are those of utf8's Runs
pub word_run : Run is_word word_len
unfolding word_len
word_run = record { none = refl; next = λ c r. refl }

pub feed_no_word : is_word (code "\n") ≡ false
unfolding is_word is_letter
feed_no_word = refl
