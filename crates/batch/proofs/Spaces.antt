-- Blanks between most tokens: a space or nothing, then what is no blank, or a line feed, tabs and what is no blank.
use Prim.Native.Nat.{ℕ, zero, suc, ◌+◌, ◌<◌}
use mathlib.Core.Path.{◌≡◌, sym, ◌∙◌}
use mathlib.Core.Bool.{Bool, true, false, cond}
use mathlib.Core.Logic.{⊎_elim}
use mathlib.Core.List.{List}
use native.Mathlib.Nat.{add-zero}
use native.Mathlib.Omega.{arith}
use borrow.Author.Tests.{lt-ltb}
use lib.Dec.{ltb}
use lib.ListN.{get_or, drop}
use Rattle.std.specs.Prelude.{Some, None}
use Rattle.utf8.specs.Chars.{chars}
use Rattle.blanks.specs.declared.Skipped.{Skipped}
use Rattle.blanks.specs.Blank.{is_blank, Skip, skip, skipped_at}
use Rattle.blanks.proofs.Blanks.{joined, from, joined_start, blank_above, space_blank, feed_blank, step_none, step_space, step_feed, step_tabs}
use Rattle.batch.specs.Near.{SpaceTo, line_from}

module _ (mark : Bool) (s : List ℕ) (at p : ℕ) (space : SpaceTo s at p) where
  -- at most a space stands before the place p
  space_before : skipped_at at (from mark s at) ≡ joined p 0 None (from mark s p)
  space_before =
      ⊎_elim (λ e. rw e (joined_start at (from mark s at)))
      (λ w. rw w.1 (joined_start at (from mark s at) ∙ step_space mark s at 0 None (rw w.0 (space_blank mark)) (λ f. omega (arith, w.0, f)))) space

  pub near_stop : is_blank mark (get_or s p 0) ≡ false → ◌≡◌ {A = Skipped} (record { end = p; lfs = 0; line = None }) (skipped_at at (skip mark (chars (drop at s))))
  near_stop e = sym (space_before ∙ step_none mark s p 0 None e)

  pub near_line : mark ≡ false → get_or s p 0 ≡ 10 → (n : ℕ) → ((i : ℕ) → i < n → get_or s (p + 1 + i) 0 ≡ 9) → 32 < get_or s (p + 1 + n) 0
      → ◌≡◌ {A = Skipped} (record { end = p + 1 + n; lfs = 1; line = Some (p + 1) }) (skipped_at at (skip mark (chars (drop at s))))
  near_line m f n tabs above =
      let blank : is_blank mark (get_or s p 0) ≡ true = rw (f, m) feed_blank in
      sym (
      space_before
      ∙ step_feed mark s p 0 None blank f
      ∙ step_tabs mark s n (p + 1) 1 (Some (p + 1)) tabs
      ∙ step_none mark s (p + 1 + n) 1 (Some (p + 1)) (blank_above mark _ above)
      )

-- the place after the last line feed of blanks, or where they start
pub line_skipped : (at : ℕ) (x : Skip) → line_from at (skipped_at at x).line ≡ at + x.line
line_skipped at x = go x.line
  where
    go : (n : ℕ) → line_from at (cond (ltb 0 n) (Some (at + n)) None) ≡ at + n
    go zero = sym (add-zero at)
    go (suc n) = rw (lt-ltb 0 (suc n) (omega arith))
