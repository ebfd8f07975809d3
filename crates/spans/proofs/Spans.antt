-- Laws of spans: they are within the text, one that is not closed is all of it, and one that is closed does not depend on what comes after.
use Prim.Native.Nat.{ℕ, suc, pred, ◌≤◌, ◌<◌, suc-le-suc}
use Prim.Native.Char.{code}
use mathlib.Core.Path.{◌≡◌, refl, sym, ap, ◌∙◌}
use mathlib.Core.Bool.{Bool, true, false, cond, ◌&&◌, true≢false, false≢true}
use mathlib.Core.List.{List, [], ◌∷◌, ◌++◌}
use native.Mathlib.Omega.{arith}
use lib.Dec.{eqb, lit≤}
use lib.ListN.{length, get_or}
use borrow.Author.Tests.{eqb-true, eqb-false}
use Rattle.basics.proofs.Choice.{and_split}
use Rattle.utf8.specs.declared.Char.{Char}
use Rattle.utf8.specs.Chars.{ended}
use Rattle.spans.specs.Span.{Span, unclosed, last, longer_span, to_stop, to_star_slash}
use Rattle.utf8.proofs.Ends.{Ends, ends_tail, ends_more, ends_some}

pub record Spanned (r : List Char) (s : Span) : Type 0 where
  pub bound : s.len ≤ length r
  pub some : s.closed ≡ true → 0 < s.len
  pub all : s.closed ≡ false → s.len ≡ length r

spanned_none : Spanned [] unclosed
spanned_none = record { bound = lit≤ tt; some = λ e. absurd (false≢true e); all = λ e. refl }

-- the next character closes it, or not
spanned_cond : (t : Bool) (c : Char) (r : List Char) (s : Span) → Spanned r s → Spanned (c ∷ r) (cond t last (longer_span s))
spanned_cond true c r s i = record { bound = omega arith; some = λ e. lit≤ tt; all = λ e. absurd (true≢false e) }
spanned_cond false c r s i = record { bound = omega (arith, i.bound); some = λ e. omega arith; all = λ e. ap suc (i.all e) }

pub stop_spanned : (x : ℕ) (r : List Char) → Spanned r (to_stop x r)
unfolding to_stop
stop_spanned x [] = spanned_none
stop_spanned x (c ∷ r) = spanned_cond (eqb c.code x) c r (to_stop x r) (stop_spanned x r)

pub slash_spanned : (star : Bool) (r : List Char) → Spanned r (to_star_slash star r)
unfolding to_star_slash
slash_spanned star [] = spanned_none
slash_spanned star (c ∷ r) =
    spanned_cond (star && eqb c.code (code "/")) c r (to_star_slash (eqb c.code (code "*")) r) (slash_spanned (eqb c.code (code "*")) r)

-- ---- more text after it
local_cond : (t : Bool) (s s' : Span) → (s.closed ≡ true → s' ≡ s) → (cond t last (longer_span s)).closed ≡ true → cond t last (longer_span s') ≡ cond t last (longer_span s)
local_cond true s s' f e = refl
local_cond false s s' f e = ap longer_span (f e)

pub stop_local : (x : ℕ) (r t : List Char) → (to_stop x r).closed ≡ true → to_stop x (r ++ t) ≡ to_stop x r
unfolding to_stop
stop_local x [] t e = absurd (false≢true e)
stop_local x (c ∷ r) t e = local_cond (eqb c.code x) (to_stop x r) (to_stop x (r ++ t)) (stop_local x r t) e

pub slash_local : (star : Bool) (r t : List Char) → (to_star_slash star r).closed ≡ true → to_star_slash star (r ++ t) ≡ to_star_slash star r
unfolding to_star_slash
slash_local star [] t e = absurd (false≢true e)
slash_local star (c ∷ r) t e =
    local_cond (star && eqb c.code (code "/")) (to_star_slash (eqb c.code (code "*")) r) (to_star_slash (eqb c.code (code "*")) (r ++ t)) (slash_local (eqb c.code (code "*")) r t) e

-- ---- in a text that ends in a line feed
pub line_closed : (r : List Char) → Ends r → (to_stop (code "\n") r).closed ≡ true
unfolding to_stop
line_closed [] h = absurd h
line_closed (c ∷ r) h = go (eqb c.code (code "\n")) refl (line_closed r)
  where
    go : (t : Bool) → eqb c.code (code "\n") ≡ t → (Ends r → (to_stop (code "\n") r).closed ≡ true) → (cond t last (longer_span (to_stop (code "\n") r))).closed ≡ true
    go true e f = refl
    go false e f = f (ends_tail c r h (eqb-false c.code (code "\n") e))

-- a span that another character closes leaves the line feed
left_cond : (t : Bool) (c : Char) (r : List Char) (s : Span) → Spanned r s → Ends (c ∷ r) → (t ≡ true → c.code ≡ code "\n" → ⊥) → (Ends r → s.closed ≡ true → s.len < length r)
    → (cond t last (longer_span s)).closed ≡ true → (cond t last (longer_span s)).len < suc (length r)
left_cond true c r s i h n f e = omega (arith, ends_some r (ends_tail c r h (n refl)))
left_cond false c r s i h n f e = omega (arith, f (ends_more c r h (omega (arith, i.bound, i.some e))) e)

pub stop_left : (x : ℕ) (r : List Char) → (x ≡ code "\n" → ⊥) → Ends r → (to_stop x r).closed ≡ true → (to_stop x r).len < length r
unfolding to_stop
stop_left x [] n h e = absurd h
stop_left x (c ∷ r) n h e =
    left_cond (eqb c.code x) c r (to_stop x r) (stop_spanned x r) h (λ k g. n (sym (eqb-true c.code x k) ∙ g)) (stop_left x r n) e

pub slash_left : (star : Bool) (r : List Char) → Ends r → (to_star_slash star r).closed ≡ true → (to_star_slash star r).len < length r
unfolding to_star_slash
slash_left star [] h e = absurd h
slash_left star (c ∷ r) h e =
    let next = eqb c.code (code "*") in
    left_cond (star && eqb c.code (code "/")) c r (to_star_slash next r) (slash_spanned next r) h (λ k g. not_feed (and_split star _ k).1 g) (slash_left next r) e
  where
    not_feed : eqb c.code (code "/") ≡ true → c.code ≡ code "\n" → ⊥
    not_feed k g = let z = eqb-true c.code (code "/") k in omega arith

-- ---- the character that closes a span is its last one
pub record Closing (x : ℕ) (r : List Char) (s : Span) (n : ℕ) : Type 0 where
  pub len : s.len ≡ suc n
  pub inside : n < length r
  pub code : (get_or r n ended).code ≡ x

pub stop_closing : (x : ℕ) (r : List Char) → (to_stop x r).closed ≡ true → Closing x r (to_stop x r) (pred (to_stop x r).len)
unfolding to_stop
stop_closing x [] e = absurd (false≢true e)
stop_closing x (c ∷ r) e = go (eqb c.code x) refl (stop_closing x r) e
  where
    go : (t : Bool) → eqb c.code x ≡ t → ((to_stop x r).closed ≡ true → Closing x r (to_stop x r) (pred (to_stop x r).len))
        → (cond t last (longer_span (to_stop x r))).closed ≡ true → Closing x (c ∷ r) (cond t last (longer_span (to_stop x r))) (pred (cond t last (longer_span (to_stop x r))).len)
    go true k f e = record { len = refl; inside = omega arith; code = eqb-true c.code x k }
    go false k f e =
        let i = f e in
        record { len = refl; inside = rw i.len (suc-le-suc i.inside); code = rw i.len i.code }
