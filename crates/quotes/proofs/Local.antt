-- A body reads characters of the text and no LF; in a text that ends in an LF it is the same with more text after it.
use Prim.Native.Nat.{ℕ, zero, suc, ◌+◌, ◌≤◌, ◌<◌, suc-le-suc}
use mathlib.Core.Path.{◌≡◌, sym, subst}
use mathlib.Core.List.{List, [], ◌∷◌, ◌++◌}
use mathlib.Core.Logic.{⊎_elim}
use native.Mathlib.Omega.{arith}
use native.Mathlib.Nat.{add-zero, zero-add, suc-add, le_of_suc-le-suc}
use lib.Dec.{eqb}
use lib.ListN.{length, get_or}
use borrow.Author.Tests.{eqb-true, eqb-false}
use Rattle.basics.proofs.Choice.{cond_ind}
use Rattle.utf8.specs.declared.Char.{Char}
use Rattle.utf8.specs.Chars.{ended}
use Rattle.utf8.proofs.Ends.{Ends, ends_tail, ends_more, ends_next, ends_some}
use Rattle.escapes.specs.Answers.{Meaning, character, no_character}
use Rattle.escapes.specs.Escape.{escape_of}
use Rattle.quotes.specs.Body.{Body, escape, body_from, body}
use Rattle.escapes.proofs.Heads.{Heads, heads_bound, heads_at, escape_heads}
use Rattle.escapes.proofs.Local.{escape_local}

-- ---- what holds of the quote and of all codes but LF holds of what a body reads
module _ (P : ℕ → Type 0) (all : (c : ℕ) → (c ≡ 10 → ⊥) → P c) (quote : ℕ) (at-quote : P quote) where
  in_escape : (r : List Char) → Heads P (escape_of quote r).len r
  in_escape r = escape_heads P (λ c l h. all c (λ e. omega arith)) quote at-quote r

  after_escape : (c : Char) (r : List Char) (n : ℕ) (g : Meaning) (b : Body) → P c.code → Heads P n r → Heads P (n + b.len) r → Heads P (escape (suc n) g b).len (c ∷ r)
  after_escape c r n (no_character error) b p h k = (p, h)
  after_escape c r n (character code byte) b p h k = rw (suc-add n b.len) (p, k)

  pub body_heads : (r : List Char) (k : ℕ) → Heads P k r → Heads P (k + (body_from quote k r).len) r
  unfolding body_from
  body_heads [] k h = rw (add-zero k) h
  body_heads (c ∷ r) (suc k) h = rw (suc-add k (body_from quote k r).len) (h.0, body_heads r k h.1)
  body_heads (c ∷ r) zero h =
      let n = (escape_of quote r).len in
      rw (zero-add (body_from quote 0 (c ∷ r)).len)
      (cond_ind (λ (b : Body). Heads P b.len (c ∷ r)) (eqb c.code quote) _ _ (λ e. (subst P (sym (eqb-true c.code quote e)) at-quote, tt))
      (λ _. cond_ind (λ (b : Body). Heads P b.len (c ∷ r)) (eqb c.code 10) _ _ (λ _. tt)
      (λ f. cond_ind (λ (b : Body). Heads P b.len (c ∷ r)) (eqb c.code 92) _ _
      (λ _. after_escape c r n (escape_of quote r).meaning (body_from quote n r) (all c.code (eqb-false c.code 10 f)) (in_escape r) (body_heads r n (in_escape r)))
      (λ _. (all c.code (eqb-false c.code 10 f), rw (zero-add (body_from quote 0 r).len) at (body_heads r 0 tt))))))

  whole : (r : List Char) → Heads P (body quote r).len r
  whole r = rw (zero-add (body quote r).len) at (body_heads r 0 tt)

pub body_bound : (quote : ℕ) (r : List Char) → (body quote r).len ≤ length r
body_bound quote r = heads_bound (λ _. Unit {0}) _ r (whole (λ _. Unit {0}) (λ c h. tt) quote tt r)

abbrev NoLf : ℕ → Type 0
NoLf c = c ≡ 10 → ⊥

pub body_no_lf : (quote : ℕ) → (quote ≡ 10 → ⊥) → (r : List Char) (i : ℕ) → i < (body quote r).len → (get_or r i ended).code ≡ 10 → ⊥
body_no_lf quote q r = heads_at NoLf _ r (whole NoLf (λ c h. h) quote q r)

-- ---- in a text that ends in a line feed
before : (n : ℕ) (r : List Char) → Heads NoLf n r → Ends r → n < length r
before zero r h e = ends_some r e
before (suc n) [] h e = absurd e
before (suc n) (c ∷ r) h e = suc-le-suc (before n r h.1 (ends_tail c r e h.0))

module _ (quote : ℕ) (q : quote ≡ 10 → ⊥) where
  from_local : (r t : List Char) (k : ℕ) → k < length r → Ends r → body_from quote k (r ++ t) ≡ body_from quote k r
  unfolding body_from
  from_local [] t k l h = absurd h
  from_local (c ∷ r) t (suc k) l h = from_local r t k (le_of_suc-le-suc l) (ends_more c r h (omega arith))
  from_local (c ∷ r) t zero l h =
      ⊎_elim (λ (is : c.code ≡ 10). rw is)
      (λ (k : Ends r).
      rw (
        escape_local quote r t k,
        from_local r t (escape_of quote r).len (before _ r (in_escape NoLf (λ c n. n) quote q r) k) k,
        from_local r t 0 (ends_some r k) k,
      ))
      (ends_next c r h)

  -- the body is the same with more text after it, and does not read the line feed
  pub body_local : (r t : List Char) → Ends r → (body quote (r ++ t) ≡ body quote r) × ((body quote r).len < length r)
  body_local r t h = (from_local r t 0 (ends_some r h) h, before _ r (whole NoLf (λ c n. n) quote q r) h)
