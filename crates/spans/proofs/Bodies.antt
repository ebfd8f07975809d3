-- Laws of a body that is read character by character: what was read of it and what is left make the whole.
use Prim.Native.Nat.{ℕ, ◌+◌, ◌≤◌, ◌<◌}
use Prim.Native.Char.{code}
use mathlib.Core.Path.{◌≡◌, refl, sym, ap, ◌∙◌}
use mathlib.Core.Bool.{Bool, true, false, ◌&&◌}
use mathlib.Core.List.{List, [], ◌∷◌}
use native.Mathlib.Omega.{arith}
use native.Mathlib.Nat.{add-zero, zero-add, add_assoc}
use lib.Dec.{eqb, lit≤, lit<}
use lib.ListN.{length, get_or, take, drop}
use borrow.Author.Tests.{ne_eqb}
use Rattle.utf8.specs.declared.Char.{Char}
use Rattle.utf8.specs.Chars.{char_at, chars, widths, is_stray}
use Rattle.utf8.proofs.First.{chars_end, char_at_ascii, there_chars, there_least, there_fits}
use Rattle.spans.specs.declared.body.Body.{Body}
use Rattle.spans.specs.Span.{Span, unclosed, last, longer_span, to_stop, to_star_slash}
use Rattle.utf8.specs.Count.{is_lf, is_cr, one, count}
use Rattle.spans.specs.Body.{body_of}
use Rattle.spans.specs.Steps.{empty_at, grown}
use Rattle.spans.specs.Counted.{Counted}
use Rattle.utf8.proofs.Count.{one_le, code_at}

pub same_body : {e e' n n' l l' c c' s s' : ℕ} {t t' : Bool} → e ≡ e' → n ≡ n' → t ≡ t' → l ≡ l' → c ≡ c' → s ≡ s'
    → ◌≡◌ {A = Body} (record { end = e; chars = n; closed = t; lfs = l; crs = c; strays = s }) (record { end = e'; chars = n'; closed = t'; lfs = l'; crs = c'; strays = s' })
same_body f g u h k m = cc

-- ---- what was read, and a span of the characters left
abbrev pub joined : Body → Span → List Char → Body
joined b s r =
    record {
      end = b.end + widths (take s.len r);
      chars = b.chars + s.len;
      closed = s.closed;
      lfs = b.lfs + count is_lf (take s.len r);
      crs = b.crs + count is_cr (take s.len r);
      strays = b.strays + count is_stray (take s.len r);
    }

joined_more : (b : Body) (c : Char) (s : Span) (r : List Char) → joined b (longer_span s) (c ∷ r) ≡ joined (grown b c false) s r
unfolding grown
joined_more b c s r =
    same_body (sym (add_assoc b.end c.width _)) (omega arith) refl
    (sym (add_assoc b.lfs (one (is_lf c)) _)) (sym (add_assoc b.crs (one (is_cr c)) _)) (sym (add_assoc b.strays (one (is_stray c)) _))

joined_last : (b : Body) (c : Char) (r : List Char) → joined b last (c ∷ r) ≡ grown b c true
unfolding grown
joined_last b c r = same_body (omega arith) refl refl (omega arith) (omega arith) (omega arith)

joined_none : (b : Body) → b.closed ≡ false → joined b unclosed [] ≡ b
joined_none b e = same_body (add-zero _) (add-zero _) (sym e) (add-zero _) (add-zero _) (add-zero _)

-- the whole body, of a text: f finds the span in what is left
abbrev pub whole : (List Char → Span) → List ℕ → Body → Body
whole f s b = joined b (f (chars (drop b.end s))) (chars (drop b.end s))

whole_start : (f : List Char → Span) (s : List ℕ) (at : ℕ) → body_of at (f (chars (drop at s))) (chars (drop at s)) ≡ whole f s (empty_at at)
unfolding body_of
whole_start f s at = same_body refl (sym (zero-add _)) refl (sym (zero-add _)) (sym (zero-add _)) (sym (zero-add _))

module _ (f : List Char → Span) (s : List ℕ) (b : Body) where
  whole_end : f [] ≡ unclosed → length s ≤ b.end → b.closed ≡ false → whole f s b ≡ b
  whole_end e h k = rw (chars_end s b.end h, e) (joined_none b k)

  module _ (h : b.end < length s) where
    whole_last : ((r : List Char) → f (char_at s b.end ∷ r) ≡ last) → whole f s b ≡ grown b (char_at s b.end) true
    whole_last e = rw (there_chars s b.end _ h refl, e) (joined_last b (char_at s b.end) (chars (drop (b.end + (char_at s b.end).width) s)))

    whole_more : (g : List Char → Span) → ((r : List Char) → f (char_at s b.end ∷ r) ≡ longer_span (g r)) → whole f s b ≡ whole g s (grown b (char_at s b.end) false)
    unfolding grown
    whole_more g e =
        let r = chars (drop (b.end + (char_at s b.end).width) s) in
        rw (there_chars s b.end _ h refl, e) (joined_more b (char_at s b.end) (g r) r)

-- ---- the two spans at the byte of a place
module _ (s : List ℕ) (p : ℕ) (h : p < length s) (r : List Char) where
  pub stop_last : (x : ℕ) → x < 0x80 → eqb (get_or s p 0) x ≡ true → to_stop x (char_at s p ∷ r) ≡ last
  unfolding to_stop
  stop_last x l e = rw (code_at s p _ x h refl l, e)

  pub stop_more : (x : ℕ) → x < 0x80 → eqb (get_or s p 0) x ≡ false → to_stop x (char_at s p ∷ r) ≡ longer_span (to_stop x r)
  unfolding to_stop
  stop_more x l e = rw (code_at s p _ x h refl l, e)

  module _ (star : Bool) where
    pub slash_last : star && eqb (get_or s p 0) (code "/") ≡ true → to_star_slash star (char_at s p ∷ r) ≡ last
    unfolding to_star_slash
    slash_last e = rw (code_at s p _ (code "/") h refl (lit< tt), e)

    pub slash_more : star && eqb (get_or s p 0) (code "/") ≡ false → to_star_slash star (char_at s p ∷ r) ≡ longer_span (to_star_slash (eqb (get_or s p 0) (code "*")) r)
    unfolding to_star_slash
    slash_more e = rw (code_at s p _ (code "/") h refl (lit< tt), e, code_at s p _ (code "*") h refl (lit< tt))

-- ---- one character more
counted_empty : (at : ℕ) → Counted (empty_at at)
counted_empty at = record { chars = omega arith; lfs = lit≤ tt; crs = lit≤ tt; strays = lit≤ tt }

counted_grown : (b : Body) (c : Char) (t : Bool) → 1 ≤ c.width → Counted b → Counted (grown b c t)
unfolding grown
counted_grown b c t w k =
    record {
      chars = omega arith;
      lfs = omega (arith, one_le (is_lf c));
      crs = omega (arith, one_le (is_cr c));
      strays = omega (arith, one_le (is_stray c));
    }

module _ (s : List ℕ) (b : Body) (h : b.end < length s) (t : Bool) where
  pub grown_ascii : get_or s b.end 0 < 0x80 → (x y : ℕ) → x ≡ one (eqb (get_or s b.end 0) (code "\n")) → y ≡ one (eqb (get_or s b.end 0) (code "\r"))
      → record { end = b.end + 1; chars = b.chars + 1; closed = t; lfs = b.lfs + x; crs = b.crs + y; strays = b.strays } ≡ grown b (char_at s b.end) t
  unfolding grown
  grown_ascii l x y e k =
      rw (char_at_ascii s b.end h l, ne_eqb (get_or s b.end 0) 0xFFFD (λ z. omega arith), e, k) (same_body refl refl refl refl refl (sym (add-zero _)))

  pub grown_wide : 0x80 ≤ get_or s b.end 0 → (c : Char) → c ≡ char_at s b.end → (x : ℕ) → x ≡ one (is_stray c)
      → record { end = b.end + c.width; chars = b.chars + 1; closed = t; lfs = b.lfs; crs = b.crs; strays = b.strays + x } ≡ grown b (char_at s b.end) t
  unfolding grown
  grown_wide l c e x k =
      rw (
        ← e,
        code_at s b.end c (code "\n") h e (lit< tt),
        code_at s b.end c (code "\r") h e (lit< tt),
        ne_eqb (get_or s b.end 0) (code "\n") (λ z. omega arith),
        ne_eqb (get_or s b.end 0) (code "\r") (λ z. omega arith),
        k,
      )
      (same_body refl refl refl (sym (add-zero _)) (sym (add-zero _)) refl)

-- ---- a loop that reads a body: w is the whole one, of a text s; f finds the span in what is left
pub record PartRead (w : Body) (f : List Char → Span) (s : List ℕ) (b : Body) : Type 0 where
  pub counted : Counted b
  pub not_yet : b.closed ≡ false
  pub rest : w ≡ whole f s b

pub part_start : (f : List Char → Span) (s : List ℕ) (at : ℕ) (b : Body) → b ≡ empty_at at → PartRead (body_of at (f (chars (drop at s))) (chars (drop at s))) f s b
part_start f s at b e = rw e (record { counted = counted_empty at; not_yet = refl; rest = whole_start f s at })

module _ (w : Body) (f : List Char → Span) (s : List ℕ) (b : Body) (i : PartRead w f s b) where
  pub part_end : f [] ≡ unclosed → length s ≤ b.end → b ≡ w
  part_end e h = sym (i.rest ∙ whole_end f s b e h i.not_yet)

  module _ (h : b.end < length s) (a : Body) (t : Bool) (e : a ≡ grown b (char_at s b.end) t) where
    pub part_last : t ≡ true → ((r : List Char) → f (char_at s b.end ∷ r) ≡ last) → a ≡ w
    part_last k l = e ∙ ap (grown b (char_at s b.end)) k ∙ sym (i.rest ∙ whole_last f s b h l)

    -- the body that has grown ends farther on, within the text
    pub grown_end : (b.end < a.end) × (a.end ≤ length s)
    unfolding grown
    grown_end =
        let z = ap (λ (x : Body). x.end) e in
        (omega (arith, there_least s b.end _ h refl), omega (arith, there_fits s b.end _ h refl))

    pub part_next : t ≡ false → (g : List Char → Span) → ((r : List Char) → f (char_at s b.end ∷ r) ≡ longer_span (g r)) → PartRead w g s a
    unfolding grown
    part_next k g l =
        record {
          counted = rw e (counted_grown b (char_at s b.end) t (there_least s b.end _ h refl) i.counted);
          not_yet = ap (λ (x : Body). x.closed) e ∙ k;
          rest = i.rest ∙ whole_more f s b h g l ∙ ap (whole g s) (sym (e ∙ ap (grown b (char_at s b.end)) k));
        }
