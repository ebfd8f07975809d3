-- Laws of blanks: one of them at a place, by the byte there.
use Prim.Native.Nat.{ℕ, zero, suc, ◌+◌, ◌/◌, ◌^◌, ◌≤◌, ◌<◌}
use Prim.Native.Char.{code}
use mathlib.Core.Path.{◌≡◌, refl, sym, ap, ◌∙◌}
use mathlib.Core.Bool.{Bool, true, false, cond, not, ◌&&◌, ◌||◌, beq, true≢false, false≢true}
use mathlib.Core.List.{List}
use native.Mathlib.Decide.{dec_lt}
use native.Mathlib.Omega.{arith}
use native.Mathlib.Nat.{add-zero, zero-add}
use lib.Bits.{bit_and}
use lib.Dec.{ltb, eqb}
use lib.ListN.{length, get_or, drop}
use borrow.Author.Tests.{ltb-true, eqb-true, lt-ltb, eq-eqb, ne_eqb}
use Rattle.basics.proofs.Choice.{same_test}
use Rattle.basics.proofs.Every.{every_below}
use Rattle.basics.proofs.Lists.{reach}
use Rattle.utf8.specs.Chars.{chars}
use Rattle.utf8.proofs.First.{chars_at, chars_end, chars_ascii}
use Rattle.utf8.proofs.Places.{ascii_only, test_there}
use Rattle.std.specs.Prelude.{Option, Some, None}
use Rattle.blanks.specs.declared.Skipped.{Skipped}
use Rattle.blanks.specs.Blank.{is_space, is_blank, Skip, nothing, before, skip, skipped_at}

-- what was skipped before a place p, with k line feeds and the last line at l, and what is still skipped from there
abbrev pub joined : ℕ → ℕ → Option ℕ → Skip → Skipped
joined p k l x = record { end = p + x.len; lfs = k + x.lfs; line = cond (ltb 0 x.line) (Some (p + x.line)) l }

-- no character above a space is blank
pub blank_above : (mark : Bool) (c : ℕ) → code " " < c → is_blank mark c ≡ false
unfolding is_blank is_space
blank_above mark c h =
    rw (ne_eqb c (code " ") (λ e. omega arith), ne_eqb c (code "\t") (λ e. omega arith), ne_eqb c (code "\r") (λ e. omega arith), ne_eqb c (code "\n") (λ e. omega arith))

-- none above 127 is a space or a blank
pub space_high : (c : ℕ) → 0x80 ≤ c → is_space c ≡ false
unfolding is_space
space_high c h = rw (ne_eqb c (code " ") (λ e. omega arith), ne_eqb c (code "\t") (λ e. omega arith), ne_eqb c (code "\r") (λ e. omega arith))

pub blank_high : (mark : Bool) (c : ℕ) → 0x80 ≤ c → is_blank mark c ≡ false
blank_high mark c h = blank_above mark c (omega arith)

-- 0, which stands for the end, is no blank either
blank_pos : (mark : Bool) (b : ℕ) → is_blank mark b ≡ true → 0 < b
unfolding is_blank is_space
blank_pos mark zero e = absurd (true≢false (sym e))
blank_pos mark (suc b) e = omega arith

tab_blank : (mark : Bool) → is_blank mark (code "\t") ≡ true
unfolding is_blank is_space
tab_blank mark = refl

pub space_blank : (mark : Bool) → is_blank mark (code " ") ≡ true
unfolding is_blank is_space
space_blank mark = refl

pub feed_blank : is_blank false (code "\n") ≡ true
unfolding is_blank is_space
feed_blank = refl

feed_marked : is_blank true (code "\n") ≡ false
unfolding is_blank is_space
feed_marked = refl

-- a byte that stops at once: one above a space, or a line feed under the mark
pub stop_test : (mark : Bool) (b : ℕ) → ltb (code " ") b || (eqb b (code "\n") && mark) ≡ true → is_blank mark b ≡ false
stop_test mark b e = go (ltb (code " ") b) (eqb b (code "\n")) refl refl mark e
  where
    go : (t u : Bool) → ltb (code " ") b ≡ t → eqb b (code "\n") ≡ u → (m : Bool) → t || (u && m) ≡ true → is_blank m b ≡ false
    go true u f g m e = blank_above m b (ltb-true (code " ") b f)
    go false true f g true e = rw (eqb-true b (code "\n") g) feed_marked
    go false true f g false e = absurd (false≢true e)
    go false false f g m e = absurd (false≢true e)

-- bit b of a number says whether a byte b up to 32 is blank
abbrev pub bits : Bool → ℕ
bits mark = cond mark 0x1_0000_2200 0x1_0000_2600

abbrev says : Bool → ℕ → Bool
says mark b = beq (eqb (bit_and (bits mark / 2 ^ b) 1) 0) (not (is_blank mark b))

pub bits_say : (mark : Bool) (b : ℕ) → b < 33 → eqb (bit_and (bits mark / 2 ^ b) 1) 0 ≡ not (is_blank mark b)
unfolding is_blank is_space
bits_say true b h = same_test _ _ (every_below (says true) 33 tt b h)
bits_say false b h = same_test _ _ (every_below (says false) 33 tt b h)

pub joined_start : (at : ℕ) (x : Skip) → skipped_at at x ≡ joined at 0 None x
joined_start at x = rw (zero-add x.lfs)

joined_stop : (p k : ℕ) (l : Option ℕ) → joined p k l nothing ≡ record { end = p; lfs = k; line = l }
joined_stop p k l = rw (add-zero p, add-zero k)

skipped_is : {e e' k k' : ℕ} {l l' : Option ℕ} → e ≡ e' → k ≡ k' → l ≡ l' → ◌≡◌ {A = Skipped} (record { end = e; lfs = k; line = l }) (record { end = e'; lfs = k'; line = l' })
skipped_is a b c = cc

-- a space before
joined_space : (p k : ℕ) (l : Option ℕ) (c : ℕ) (x : Skip) → (c ≡ code "\n" → ⊥) → joined p k l (before c x) ≡ joined (p + 1) k l x
joined_space p k l c x n = rw (ne_eqb c (code "\n") n) (skipped_is (omega arith) refl (go x.line))
  where
    go : (y : ℕ) → cond (ltb 0 (cond (ltb 0 y) (suc y) 0)) (Some (p + cond (ltb 0 y) (suc y) 0)) l ≡ cond (ltb 0 y) (Some (p + 1 + y)) l
    go zero = refl
    go (suc y) = let e : p + suc (suc y) ≡ p + 1 + suc y = omega arith in rw (lt-ltb 0 (suc y) (omega arith), lt-ltb 0 (suc (suc y)) (omega arith), e)

-- a line feed before
joined_feed : (p k : ℕ) (l : Option ℕ) (c : ℕ) (x : Skip) → c ≡ code "\n" → joined p k l (before c x) ≡ joined (p + 1) (k + 1) (Some (p + 1)) x
joined_feed p k l c x e = rw (eq-eqb c (code "\n") e) (skipped_is (omega arith) (omega arith) (go x.line))
  where
    go : (y : ℕ) → cond (ltb 0 (cond (ltb 0 y) (suc y) 1)) (Some (p + cond (ltb 0 y) (suc y) 1)) l ≡ cond (ltb 0 y) (Some (p + 1 + y)) (Some (p + 1))
    go zero = refl
    go (suc y) = let e : p + suc (suc y) ≡ p + 1 + suc y = omega arith in rw (lt-ltb 0 (suc y) (omega arith), lt-ltb 0 (suc (suc y)) (omega arith), e)

-- ---- at a place of a text
module _ (mark : Bool) (s : List ℕ) where
  -- the blanks from a place on
  abbrev pub from : ℕ → Skip
  from p = skip mark (chars (drop p s))

  module _ (p : ℕ) where
    skip_end : length s ≤ p → from p ≡ nothing
    unfolding skip
    skip_end h = rw (chars_end s p h)

    skip_one : is_blank mark (get_or s p 0) ≡ true → from p ≡ before (get_or s p 0) (from (p + 1))
    unfolding skip
    skip_one e = rw (chars_ascii s p (reach s p (blank_pos mark (get_or s p 0) e)) (ascii_only (is_blank mark) (blank_high mark) _ e), e)

    skip_none : p < length s → is_blank mark (get_or s p 0) ≡ false → from p ≡ nothing
    unfolding skip
    skip_none h e = rw (chars_at s p h, test_there s p (is_blank mark) (blank_high mark) h, e)

    module _ (k : ℕ) (l : Option ℕ) where
      pub step_end : length s ≤ p → joined p k l (from p) ≡ record { end = p; lfs = k; line = l }
      step_end h = ap (joined p k l) (skip_end h) ∙ joined_stop p k l

      pub step_none : is_blank mark (get_or s p 0) ≡ false → joined p k l (from p) ≡ record { end = p; lfs = k; line = l }
      step_none e = elim (dec_lt p (length s)) [ yes h ↦ ap (joined p k l) (skip_none h e) ∙ joined_stop p k l | no h ↦ step_end (omega arith) ]

      pub step_space : is_blank mark (get_or s p 0) ≡ true → (get_or s p 0 ≡ code "\n" → ⊥) → joined p k l (from p) ≡ joined (p + 1) k l (from (p + 1))
      step_space e n = ap (joined p k l) (skip_one e) ∙ joined_space p k l (get_or s p 0) (from (p + 1)) n

      pub step_feed : is_blank mark (get_or s p 0) ≡ true → get_or s p 0 ≡ code "\n" → joined p k l (from p) ≡ joined (p + 1) (k + 1) (Some (p + 1)) (from (p + 1))
      step_feed e f = ap (joined p k l) (skip_one e) ∙ joined_feed p k l (get_or s p 0) (from (p + 1)) f

  -- n tabs from a place on
  pub step_tabs : (n p k : ℕ) (l : Option ℕ) → ((i : ℕ) → i < n → get_or s (p + i) 0 ≡ code "\t") → joined p k l (from p) ≡ joined (p + n) k l (from (p + n))
  step_tabs zero p k l f = rw (add-zero p)
  step_tabs (suc n) p k l f =
      let first : get_or s p 0 ≡ code "\t" = rw (add-zero p) at (f 0 (omega arith)) in
      let place : p + 1 + n ≡ p + suc n = omega arith in
      let rest : (i : ℕ) → i < n → get_or s (p + 1 + i) 0 ≡ code "\t" = λ i h. let e : p + suc i ≡ p + 1 + i = omega arith in rw e at (f (suc i) (omega arith)) in
      step_space p k l (rw first (tab_blank mark)) (λ e. omega (arith, first)) ∙ rw place at (step_tabs n (p + 1) k l rest)
