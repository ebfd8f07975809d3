-- The marks of eight bytes are those of each byte, and the bytes before the first mark tell the run's length.
use Prim.Native.Nat.{ℕ, zero, suc, ◌+◌, ◌-◌, ◌^◌, ◌≤◌, ◌<◌, min}
use Prim.Native.Char.{code}
use mathlib.Core.Path.{◌≡◌, sym, ap, ap₂, ◌∙◌}
use mathlib.Core.Bool.{Bool, true, false, ◌||◌, true≢false}
use mathlib.Core.List.{List}
use mathlib.Core.Logic.{inl, inr}
use native.Mathlib.Decide.{dec_lt}
use native.Mathlib.Numerals.{add-one}
use native.Mathlib.Omega.{arith}
use lib.Bits.{bit_or, bit_xor}
use lib.Dec.{eqb, eqb→eq}
use lib.ListN.{length, take, drop, get_or, length-drop}
use Rattle.basics.proofs.Choice.{either}
use Rattle.basics.proofs.Every.{every_below}
use Rattle.basics.proofs.Lists.{reach}
use Rattle.swar.specs.Number.{number_of}
use Rattle.swar.specs.Lanes.{lanes}
use Rattle.swar.proofs.Numbers.{Bytes}
use Rattle.swar.specs.Marks.{mark, ascii_between, before_mark}
use Rattle.swar.proofs.Each.{small, lanes_self, lanes_same, lanes_each, or_all, xor_all}
use Rattle.swar.proofs.Marks.{mark_small, marks_or}
use Rattle.swar.proofs.Runs.{run_skip, run_marked}
use Rattle.utf8.specs.Chars.{chars}
use Rattle.utf8.proofs.First.{chars_le}
use Rattle.utf8.proofs.Runs.{run_bound}
use Rattle.words.specs.Word.{is_letter, is_word, word_len}
use Rattle.words.specs.Marks.{other_mark}
use Rattle.words.proofs.Words.{word_end, word_more, word_stop, word_run}

-- what the code tests, in one byte
abbrev lower : ℕ → ℕ
lower b = bit_or b 0x20

abbrev is_part : ℕ → Bool
is_part b = (ascii_between (code "a") (code "z") (lower b) || ascii_between (code "0") (code "9") b) || eqb b (code "_")

-- at each of the 256 bytes
mark_right : (b : ℕ) → b < 256 → bit_xor (mark is_part b) 0x80 ≡ other_mark b
unfolding other_mark is_word is_letter
mark_right b h = eqb→eq _ _ (every_below (λ b. eqb (bit_xor (mark is_part b) 0x80) (other_mark b)) 256 tt b h)

pub others_each : (w l d u : ℕ) → w < 2 ^ 64 → l ≡ lanes 8 (mark (ascii_between (code "a") (code "z"))) (bit_or w 0x2020_2020_2020_2020)
    → d ≡ lanes 8 (mark (ascii_between (code "0") (code "9"))) w → u ≡ lanes 8 (mark (λ b. eqb b (code "_"))) w
    → bit_xor (bit_or (bit_or l d) u) 0x8080_8080_8080_8080 ≡ lanes 8 other_mark w
others_each w l d u h e f g =
    let self = sym (lanes_self 8 w h) in
    let letter = ascii_between (code "a") (code "z") in
    let digit = ascii_between (code "0") (code "9") in
    let letters : l ≡ lanes 8 (mark (λ b. letter (lower b))) w =
    e ∙ ap (lanes 8 (mark letter)) (or_all w (λ b. b) self (λ b l. l) 0x20 (omega arith)) ∙ lanes_each (mark letter) lower (small lower tt) 8 w in
    let two = ap₂ bit_or letters f ∙ marks_or (λ b. letter (lower b)) digit w in
    let three = ap₂ bit_or two g ∙ marks_or (λ b. letter (lower b) || digit b) (λ b. eqb b (code "_")) w in
    xor_all w (mark is_part) three (mark_small is_part) 0x80 (omega arith)
    ∙ lanes_same (λ b. bit_xor (mark is_part b) 0x80) other_mark 8 w mark_right

word_pos : (b : ℕ) → is_word b ≡ true → 0 < b
unfolding is_word is_letter
word_pos zero e = absurd (true≢false (sym e))
word_pos (suc b) e = omega arith

module _ (s : List ℕ) (p : ℕ) where
  run_next : is_word (get_or s p 0) ≡ true → word_len (chars (drop p s)) ≡ suc (word_len (chars (drop (suc p) s)))
  run_next e = let more = rw (add-one p) at (word_more s p (reach s p (word_pos (get_or s p 0) e)) e) in omega (arith, more)

  run_none : is_word (get_or s p 0) ≡ false → word_len (chars (drop p s)) ≡ 0
  run_none e = elim (dec_lt p (length s)) [ yes h ↦ omega (arith, word_stop s p h e) | no h ↦ omega (arith, word_end s p (omega arith)) ]

-- the run at a place, as far as eight bytes go, in the form that the code has
pub run_zeros : (s : List ℕ) → Bytes s → (p w m : ℕ) → w ≡ number_of (take 8 (drop p s)) → m ≡ lanes 8 other_mark w
    → before_mark 8 m ≡ min 8 (word_len (chars (drop p s)))
unfolding other_mark
run_zeros s bytes p w m e f =
    ap (before_mark 8) (f ∙ ap (lanes 8 other_mark) e)
    ∙ run_marked (λ p. word_len (chars (drop p s))) is_word s (p + 8) (λ p _. run_next s p) (λ p _. run_none s p) bytes 8 p (omega arith)

-- k characters on in a run
pub word_skip : (s : List ℕ) (k p : ℕ) → k ≤ word_len (chars (drop p s)) → word_len (chars (drop p s)) ≡ k + word_len (chars (drop (p + k) s))
word_skip s = run_skip (λ p. word_len (chars (drop p s))) next
  where
    next : (p : ℕ) → 0 < word_len (chars (drop p s)) → word_len (chars (drop p s)) ≡ suc (word_len (chars (drop (suc p) s)))
    next p l = elim (either (is_word (get_or s p 0))) [ inl e ↦ run_next s p e | inr e ↦ absurd (omega (arith, run_none s p e)) ]

pub run_room : (s : List ℕ) (p : ℕ) → word_len (chars (drop p s)) ≤ length s - p
run_room s p = omega (arith, run_bound word_run (chars (drop p s)), chars_le (drop p s), length-drop p s)
