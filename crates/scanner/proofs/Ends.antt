-- The line starts of a token that has no line feed but perhaps its last byte, after its blanks.
use Prim.Native.Nat.{ℕ, zero, suc, ◌+◌, ◌-◌, ◌≤◌, ◌<◌}
use mathlib.Core.Path.{◌≡◌, refl, sym, ap, ◌∙◌}
use mathlib.Core.Bool.{Bool, true, false, cond, false≢true}
use mathlib.Core.List.{List, [], ◌∷◌, ◌++◌}
use mathlib.Core.Logic.{◌⊎◌, inl, inr, ⊎_elim}
use native.Mathlib.Omega.{arith}
use native.Mathlib.Decide.{dec_lt}
use native.Mathlib.Nat.{add-zero, add-suc, add_assoc}
use lib.Dec.{eqb, ltb}
use lib.ListN.{length, get_or, take, drop, set, length-drop}
use lib.Seq.{sets, get_or-drop, take-add, take-suc, drop-cons, length-take-le}
use borrow.Author.Tests.{eqb-true, eqb-false, ltb-false, lt-ltb, eq-eqb, ne_eqb}
use Rattle.utf8.specs.declared.Char.{Char}
use Rattle.utf8.specs.Steps.{decoded}
use Rattle.utf8.specs.Chars.{ended, char_of, first_char, chars, widths}
use Rattle.utf8.proofs.Bytes.{View, none, one, two, three, four, view}
use Rattle.utf8.proofs.First.{first_is, first_least, chars_at, chars_end, ascii, ascii_there}
use Rattle.utf8.proofs.Places.{place_chars}
use Rattle.utf8.specs.Count.{is_lf, count}
use Rattle.utf8.proofs.Count.{count_last, widths_last}
use Rattle.lines.specs.Starts.{starts_read}
use Rattle.lines.proofs.Reading.{starts_append}
use Rattle.blanks.specs.Blank.{skip}
use Rattle.lexer.specs.declared.lexed.Lexed.{Lexed}
use Rattle.lexer.specs.Placed.{placed, said}
use Rattle.state.specs.declared.state.State.{State}
use Rattle.scanner.specs.Steps.{starts_from}
use Rattle.scanner.specs.Quick.{ends_in_feed, start_after}
use Rattle.scanner.proofs.Areas.{sets_append}
use Rattle.scanner.proofs.LineStarts.{starts_none}
use Rattle.scanner.proofs.Pass.{skip_feeds, starts_feeds, left, skipped, token, read, skipped_is, left_behind, read_bound, token_feeds, token_end}

-- ---- the last byte of a character
-- a character that starts above 127 also ends there
last_high : {n : ℕ} (f : ℕ → ℕ) → View (f 0) (f 1) (f 2) (f 3) n → 0x80 ≤ f 0 → 0x80 ≤ f ((char_of n (f 0) (f 1) (f 2) (f 3)).width - 1)
last_high f none h = h
last_high f (one l) h = h
last_high f (two k l m n) h = m
last_high f (three k l m n o p) h = o
last_high f (four k l m n o p q r) h = q

first_last_high : (s : List ℕ) → 0 < length s → 0x80 ≤ get_or s 0 0 → 0x80 ≤ get_or s ((first_char s).width - 1) 0
unfolding decoded
first_last_high s z h = rw (first_is s z) (last_high (λ i. get_or s i 0) (view (get_or s 0 0) (get_or s 1 0) (get_or s 2 0) (get_or s 3 0)) h)

-- so a byte of ASCII that ends a character is all of it
last_low : (s : List ℕ) (p : ℕ) → p < length s → get_or s (p + ((first_char (drop p s)).width - 1)) 0 < 0x80 → first_char (drop p s) ≡ ascii (get_or s p 0)
last_low s p h l =
    elim (dec_lt (get_or s p 0) 0x80) [
      | yes k ↦ ascii_there s p h k
      | no k ↦
          let z : 0 < length (drop p s) = omega (arith, length-drop p s) in
          let b : get_or (drop p s) 0 0 ≡ get_or s p 0 = simp (get_or-drop, add-zero) in
          let t = rw get_or-drop at (first_last_high (drop p s) z (rw b (omega arith))) in
          absurd (omega arith)
    ]

-- ---- the last of some characters
module _ (s : List ℕ) (p m : ℕ) (h : m < length (chars (drop p s))) where
  abbrev r : List Char
  r = chars (drop p s)

  abbrev last : Char
  last = get_or r m ended

  -- its place
  abbrev q : ℕ
  q = p + widths (take m r)

  there : chars (drop q s) ≡ last ∷ drop (suc m) r
  there = place_chars m s p ∙ drop-cons r m ended h

  inside : q < length s
  inside =
      elim (dec_lt q (length s)) [
        | yes l ↦ l
        | no l ↦ absurd (omega (arith, ap length (sym (chars_end s q (omega arith)) ∙ there)))
      ]

  last_is : first_char (drop q s) ≡ last
  last_is = cc (chars_at s q inside, there)

  -- where a line feed is the last byte, it is the last character
  last_feed : get_or s (p + widths (take (suc m) r) - 1) 0 ≡ 10 → last.code ≡ 10
  last_feed e =
      let w : p + widths (take (suc m) r) - 1 ≡ q + ((first_char (drop q s)).width - 1) = rw last_is (omega (arith, widths_last r m h, rw last_is at (first_least (drop q s)))) in
      let a = last_low s q inside (omega (arith, ap (λ i. get_or s i 0) w)) in
      let v : (first_char (drop q s)).width ≡ 1 = rw a in
      let i : q + ((first_char (drop q s)).width - 1) ≡ q = omega arith in
      ap (λ (c : Char). c.code) (sym last_is ∙ a) ∙ ap (λ j. get_or s j 0) (sym (w ∙ i)) ∙ e

-- ---- the starts of characters with a line feed at their end
starts_one : (size o : ℕ) (r : List Char) (m : ℕ) → m < length r → count is_lf (take (suc m) r) ≡ 1 → (get_or r m ended).code ≡ 10 → o + suc m < size
    → starts_read size o (take (suc m) r) ≡ (o + suc m) ∷ []
unfolding starts_read
starts_one size o r m h e f l =
    let b = eq-eqb (get_or r m ended).code 10 f in
    let z : count is_lf (take m r) ≡ 0 = omega (arith, rw b at (count_last r m h is_lf)) in
    rw (
      take-suc r m ended h,
      starts_append size o (take m r) (get_or r m ended ∷ []),
      starts_none size o (take m r) z,
      length-take-le m r (omega arith),
      b,
      lt-ltb (suc (o + m)) size (omega arith),
      add-suc,
    )

starts_last_byte : (size o : ℕ) (s : List ℕ) (p n : ℕ) → n ≤ length (chars (drop p s)) → count is_lf (take n (chars (drop p s))) ≡ 1
    → get_or s (p + widths (take n (chars (drop p s))) - 1) 0 ≡ 10 → o + n < size → starts_read size o (take n (chars (drop p s))) ≡ (o + n) ∷ []
starts_last_byte size o s p zero h e f l = absurd (omega arith)
starts_last_byte size o s p (suc m) h e f l = starts_one size o (chars (drop p s)) m h e (last_feed s p m h f) l

-- ---- a token without a line feed but perhaps its last byte
ends_by : (src : List ℕ) (x : Lexed) → ends_in_feed src x ≡ true → (x.lfs ≡ 0) ⊎ ((x.lfs ≡ 1) × (get_or src (x.end - 1) 0 ≡ 10))
unfolding ends_in_feed
ends_by src x e = go (eqb x.lfs 0) (ltb 1 x.lfs) (eqb (get_or src (x.end - 1) 0) 10) refl refl refl e
  where
    go : (a b d : Bool) → eqb x.lfs 0 ≡ a → ltb 1 x.lfs ≡ b → eqb (get_or src (x.end - 1) 0) 10 ≡ d → cond a true (cond b false d) ≡ true
        → (x.lfs ≡ 0) ⊎ ((x.lfs ≡ 1) × (get_or src (x.end - 1) 0 ≡ 10))
    go true b d p q r t = inl (eqb-true _ _ p)
    go false true d p q r t = absurd (false≢true t)
    go false false true p q r t =
        let n : x.lfs ≡ 0 → ⊥ = eqb-false x.lfs 0 p in
        let l = ltb-false 1 x.lfs q in
        inr (omega arith, eqb-true _ _ r)
    go false false false p q r t = absurd (false≢true t)

-- after the blanks
module _ (src : List ℕ) (s : State) (start : ℕ) (at : start ≡ s.place + (skip s.mark (left src s start)).len) where
  pub blanks_starts : {lfs n : ℕ} → lfs ≡ (skip s.mark (left src s start)).lfs → skipped src s start ≤ n → n ≤ length (left src s start) → s.offset + n < s.size
      → lfs ≡ length (starts_from src s (skipped src s start))
  blanks_starts f h b l =
      starts_feeds s.size s.offset (skipped src s start) _ (left src s start) (omega arith)
      (f ∙ skip_feeds s.mark (left src s start) ∙ ap (λ k. count is_lf (take k (left src s start))) (sym (skipped_is src s start at)))
      (omega arith)

  module _ (x : Lexed) (e : said src start x ≡ placed src start (token src s start)) where
    abbrev taken' : ℕ
    taken' = read src s start at x e

    module _ (l : s.offset + taken' < s.size) (f : ends_in_feed src x ≡ true) where
      token_starts : starts_read s.size (s.offset + skipped src s start) (take x.chars (chars (drop start src))) ≡ start_after x (s.offset + taken')
      token_starts =
          ⊎_elim (λ z. rw (eq-eqb x.lfs 0 z) (starts_none s.size (s.offset + skipped src s start) _ (sym (token_feeds src s start at x e) ∙ z)))
          (λ z. rw (ne_eqb x.lfs 0 (omega arith), ← add_assoc s.offset (skipped src s start) x.chars)
          (starts_last_byte s.size (s.offset + skipped src s start) src start x.chars
          (omega (arith, read_bound src s start at x e, length-drop (skipped src s start) (left src s start), ap length (left_behind src s start at)))
          (sym (token_feeds src s start at x e) ∙ z.0)
          (rw (token_end src s start at x e) at z.1)
          (omega arith)))
          (ends_by src x f)

      -- the starts of the blanks, and the one after the token
      pub starts_parted : starts_from src s taken' ≡ starts_from src s (skipped src s start) ++ start_after x (s.offset + taken')
      starts_parted =
          rw (
            take-add (skipped src s start) x.chars (left src s start),
            starts_append s.size s.offset (take (skipped src s start) (left src s start)) (take x.chars (drop (skipped src s start) (left src s start))),
            length-take-le (skipped src s start) (left src s start) (omega (arith, read_bound src s start at x e)),
            left_behind src s start at,
            token_starts,
          )

-- ---- what is written: the starts of the blanks, and the one after the token
module _ (table : List ℕ) (lines : ℕ) (xs : List ℕ) {mid : List ℕ} (e : mid ≡ sets table lines xs) (x : Lexed) (offset : ℕ) where
  pub end_one : {lfs : ℕ} → lfs ≡ length xs → 0 < x.lfs → set mid (lines + lfs) offset ≡ sets table lines (xs ++ start_after x offset)
  end_one n h = rw (ne_eqb x.lfs 0 (omega arith), n, e) (sym (sets_append table lines xs (offset ∷ [])))
