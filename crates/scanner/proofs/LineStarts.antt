-- The line starts that blanks record: none without a line feed among them, and with one the place after it.
use Prim.Native.Nat.{ℕ, suc, ◌+◌, ◌≤◌, ◌<◌}
use mathlib.Core.Path.{◌≡◌, refl, sym, ap, ◌∙◌}
use mathlib.Core.Bool.{Bool, true, false, cond}
use mathlib.Core.List.{List, [], ◌∷◌, append-nil}
use mathlib.Core.Logic.{◌⊎◌, inl, inr}
use native.Mathlib.Numerals.{add-one}
use native.Mathlib.Omega.{arith}
use lib.Dec.{eqb, ltb}
use lib.ListN.{length, take, drop}
use lib.Seq.{take-add}
use borrow.Author.Tests.{lt-ltb}
use Rattle.utf8.specs.declared.Char.{Char}
use Rattle.utf8.specs.Chars.{chars}
use Rattle.utf8.specs.Count.{is_lf, count}
use Rattle.lines.specs.Starts.{starts_read}
use Rattle.lines.proofs.Counts.{starts_le}
use Rattle.lines.proofs.Reading.{starts_append}
use Rattle.blanks.specs.Blank.{is_blank, Skip, nothing, before, skip}
use Rattle.lexer.specs.declared.lexed.Lexed.{Lexed}
use Rattle.lexer.specs.Placed.{placed, said}
use Rattle.state.specs.declared.state.State.{State}
use Rattle.scanner.specs.Steps.{starts_from}
use Rattle.scanner.proofs.Pass.{skip_feeds, left, skipped, token, skipped_is, left_behind, read, token_feeds}

pub none_left : {A : Type 0} (l : List A) → length l ≤ 0 → l ≡ []
none_left [] h = refl
none_left (x ∷ l) h = absurd (omega arith)

-- without line feeds there are none
pub starts_none : (size o : ℕ) (cs : List Char) → count is_lf cs ≡ 0 → starts_read size o cs ≡ []
starts_none size o cs e = none_left (starts_read size o cs) (omega (arith, starts_le size o cs))

-- blanks have a last line feed just where they have one
skip_line : (mark : Bool) (r : List Char) → (((skip mark r).lfs ≡ 0) × ((skip mark r).line ≡ 0)) ⊎ ((0 < (skip mark r).lfs) × (0 < (skip mark r).line))
unfolding skip
skip_line mark [] = inl (refl, refl)
skip_line mark (c ∷ r) = go (is_blank mark c.code) (eqb c.code 10) (skip mark r) (skip_line mark r)
  where
    go : (b f : Bool) (x : Skip) → ((x.lfs ≡ 0) × (x.line ≡ 0)) ⊎ ((0 < x.lfs) × (0 < x.line))
        → let y = cond b (record { len = suc x.len; lfs = cond f (suc x.lfs) x.lfs; line = cond (ltb 0 x.line) (suc x.line) (cond f 1 0) }) nothing in
        ((y.lfs ≡ 0) × (y.line ≡ 0)) ⊎ ((0 < y.lfs) × (0 < y.line))
    go false f x h = inl (refl, refl)
    go true true x (inl h) = rw h.1 (inr (omega arith, omega arith))
    go true true x (inr h) = rw (lt-ltb _ _ h.1) (inr (omega arith, omega arith))
    go true false x (inl h) = rw h.1 (inl (h.0, refl))
    go true false x (inr h) = rw (lt-ltb _ _ h.1) (inr (h.0, omega arith))

-- it is one of them
pub skip_line_within : (mark : Bool) (r : List Char) → (skip mark r).line ≤ (skip mark r).len
unfolding skip
skip_line_within mark [] = omega arith
skip_line_within mark (c ∷ r) = go (is_blank mark c.code) (ltb 0 x.line) (eqb c.code 10) (skip_line_within mark r)
  where
    x : Skip
    x = skip mark r

    go : (b t f : Bool) → x.line ≤ x.len
        → let y = cond b (record { len = suc x.len; lfs = cond f (suc x.lfs) x.lfs; line = cond t (suc x.line) (cond f 1 0) }) nothing in y.line ≤ y.len
    go false t f h = omega arith
    go true true f h = omega arith
    go true false true h = omega arith
    go true false false h = omega arith

-- one line feed among the blanks, before the size, starts the line after it
pub skip_start : (mark : Bool) (size o : ℕ) (r : List Char) → (skip mark r).lfs ≡ 1 → o + (skip mark r).len < size
    → starts_read size o (take (skip mark r).len r) ≡ (o + (skip mark r).line) ∷ []
unfolding skip starts_read
skip_start mark size o [] e l = absurd (omega (arith, e))
skip_start mark size o (c ∷ r) e l =
    go (is_blank mark c.code) (eqb c.code 10) refl (skip_line mark r) (skip_start mark size (suc o) r) e l
  where
    x : Skip
    x = skip mark r

    go : (b f : Bool) → eqb c.code 10 ≡ f → ((x.lfs ≡ 0) × (x.line ≡ 0)) ⊎ ((0 < x.lfs) × (0 < x.line))
        → (x.lfs ≡ 1 → suc o + x.len < size → starts_read size (suc o) (take x.len r) ≡ (suc o + x.line) ∷ [])
        → (cond b (before c.code x) nothing).lfs ≡ 1 → o + (cond b (before c.code x) nothing).len < size
        → starts_read size o (take (cond b (before c.code x) nothing).len (c ∷ r)) ≡ (o + (cond b (before c.code x) nothing).line) ∷ []
    go false f q h ih e l = absurd (omega (arith, e))
    go true true q (inl h) ih e l =
        rw (q, lt-ltb (suc o) size (omega arith), h.1, starts_none size (suc o) (take x.len r) (sym (skip_feeds mark r) ∙ h.0), add-one o)
    go true true q (inr h) ih e l = absurd (omega (arith, rw q at e))
    go true false q (inl h) ih e l = absurd (omega (arith, rw q at e))
    go true false q (inr h) ih e l =
        let f : suc o + x.line ≡ o + suc x.line = omega arith in
        rw (q, lt-ltb 0 x.line h.1) (ih (rw q at e) (omega arith) ∙ ap (λ n. n ∷ []) f)

-- ---- with a token after the blanks that has no line feed
module _ (src : List ℕ) (s : State) (start : ℕ) (at : start ≡ s.place + (skip s.mark (left src s start)).len)
    (x : Lexed) (e : said src start x ≡ placed src start (token src s start)) (z : x.lfs ≡ 0) where
  abbrev here : ℕ
  here = read src s start at x e

  abbrev n : ℕ
  n = skipped src s start

  blanks_alone : starts_from src s here ≡ starts_read s.size s.offset (take n (left src s start))
  blanks_alone =
      rw (
        take-add n x.chars (left src s start),
        starts_append s.size s.offset (take n (left src s start)) (take x.chars (drop n (left src s start))),
        left_behind src s start at,
        starts_none s.size _ (take x.chars (chars (drop start src))) (sym (token_feeds src s start at x e) ∙ z),
      )
      (append-nil _)

  pub starts_one : (skip s.mark (left src s start)).lfs ≡ 1 → s.offset + here < s.size
      → starts_from src s here ≡ (s.offset + (skip s.mark (left src s start)).line) ∷ []
  starts_one f l =
      let k = skipped_is src s start at in
      blanks_alone
      ∙ ap (λ m. starts_read s.size s.offset (take m (left src s start))) k
      ∙ skip_start s.mark s.size s.offset (left src s start) f (omega arith)
