-- Runs of ASCII characters that are written as themselves: where they end, and all of them read as one step.
use Prim.Native.Nat.{ℕ, zero, suc, ◌+◌, ◌-◌, ◌≤◌, ◌<◌, min, max, suc-le-suc}
use mathlib.Core.Path.{◌≡◌, refl, sym, ap, ◌∙◌}
use mathlib.Core.Bool.{Bool, true, false, cond, false≢true}
use mathlib.Core.List.{List, [], ◌∷◌}
use mathlib.Core.Logic.{⊎_elim}
use native.Mathlib.Decide.{dec_lt}
use native.Mathlib.Nat.{add-zero}
use native.Mathlib.Omega.{arith}
use lib.Dec.{eqb, ltb}
use lib.Seq.{take-length}
use lib.ListN.{length, get_or, take, drop, drop_of_length-le, length-drop}
use borrow.Author.Tests.{ne_eqb, eqb-false, ltb-true}
use Rattle.std.specs.List.{prefix_len}
use Rattle.basics.proofs.Choice.{either, cond_ind}
use Rattle.basics.proofs.Lists.{drop_next}
use Rattle.quotes.specs.declared.content.Content.{Content}
use Rattle.quotes.specs.Body.{ReadBody, quoted_at}
use Rattle.quotes.specs.Plain.{is_plain_byte, plain_len}
use Rattle.quotes.specs.Steps.{nothing_read, added, plain_piece, body_end}
use Rattle.quotes.proofs.Places.{joined, joined_start, step_quote, step_ascii}

-- ---- such a byte
record Plain (quote b : ℕ) : Type 0 where
  no_quote : b ≡ quote → ⊥
  no_lf : b ≡ 10 → ⊥
  no_slash : b ≡ 92 → ⊥
  low : b < 0x80

plain_is : (quote b : ℕ) → is_plain_byte quote b ≡ true → Plain quote b
unfolding is_plain_byte
plain_is quote b = go (eqb b quote) (eqb b 10) (eqb b 92) refl refl refl
  where
    go : (t u v : Bool) → eqb b quote ≡ t → eqb b 10 ≡ u → eqb b 92 ≡ v → cond t false (cond u false (cond v false (ltb b 0x80))) ≡ true → Plain quote b
    go true u v f g h e = absurd (false≢true e)
    go false true v f g h e = absurd (false≢true e)
    go false false true f g h e = absurd (false≢true e)
    go false false false f g h e = record { no_quote = eqb-false _ _ f; no_lf = eqb-false _ _ g; no_slash = eqb-false _ _ h; low = ltb-true b 0x80 e }

-- ---- the run at a place
module _ (quote : ℕ) where
  pub plain_bound : (t : List ℕ) → plain_len quote t ≤ length t
  unfolding plain_len
  plain_bound [] = omega arith
  plain_bound (b ∷ t) = cond_ind (λ n. n ≤ suc (length t)) (is_plain_byte quote b) _ _ (λ _. suc-le-suc (plain_bound t)) (λ _. omega arith)

  plain_none : (t : List ℕ) → length t ≡ 0 → plain_len quote t ≡ 0
  plain_none t h = omega (arith, plain_bound t)

  -- in std's word
  plain_counted : (t : List ℕ) → prefix_len (is_plain_byte quote) t ≡ plain_len quote t
  unfolding plain_len
  plain_counted [] = refl
  plain_counted (b ∷ t) = cond_ind (λ (n : ℕ). cond (is_plain_byte quote b) (1 + prefix_len (is_plain_byte quote) t) 0 ≡ n) (is_plain_byte quote b) _ _ (λ e. rw (e, plain_counted t) (omega arith)) (λ e. rw e)

  module _ (s : List ℕ) (p : ℕ) where
    pub plain_over : length s ≤ p → plain_len quote (drop p s) ≡ 0
    unfolding plain_len
    plain_over h = rw (drop_of_length-le s h)

    -- of what is left of the text after a place
    pub plain_left : (m : ℕ) → m ≡ min p (length s) → prefix_len (is_plain_byte quote) (take (length s - m) (drop m s)) ≡ plain_len quote (drop p s)
    plain_left m is =
        let whole : length s - m ≡ length (drop m s) = omega (arith, length-drop m s) in
        rw (whole, take-length (drop m s))
        (plain_counted (drop m s)
        ∙ elim (dec_lt p (length s)) [
          | yes h ↦ let e : m ≡ p = omega arith in rw e
          | no h ↦ plain_none (drop m s) (omega (arith, length-drop m s)) ∙ sym (plain_over (omega arith))
        ])

    pub plain_reach : p + plain_len quote (drop p s) ≤ max p (length s)
    plain_reach = omega (arith, plain_bound (drop p s), length-drop p s)

    module _ (h : p < length s) where
      pub plain_next : is_plain_byte quote (get_or s p 0) ≡ true → plain_len quote (drop p s) ≡ suc (plain_len quote (drop (p + 1) s))
      unfolding plain_len
      plain_next e = rw (drop_next s p 0 h, e)

      pub plain_stop : is_plain_byte quote (get_or s p 0) ≡ false → plain_len quote (drop p s) ≡ 0
      unfolding plain_len
      plain_stop e = rw (drop_next s p 0 h, e)

    -- one that begins with the byte at a place, and ends at the place given
    module _ (end : ℕ) (is : end ≡ p + 1 + plain_len quote (drop (p + 1) s)) where
      pub run_len : end - p ≡ suc (plain_len quote (drop (p + 1) s))
      run_len = omega (arith, is)

      pub run_some : (p ≤ end) × (1 ≤ end - p)
      run_some = (omega (arith, is), omega (arith, is))

      pub run_fits : p < length s → p + (end - p) ≤ length s
      run_fits h = omega (arith, is, plain_bound (drop (p + 1) s), length-drop (p + 1) s)

-- ---- n characters and one more are a step of n + 1
one_more : (q : Content) (m code b : ℕ) → added (added q (plain_piece (suc m) code)) (plain_piece 1 b) ≡ added q (plain_piece (suc (suc m)) code)
unfolding added
one_more q m code b =
    let e1 : q.chars + suc m + 1 ≡ q.chars + suc (suc m) = omega arith in
    let e2 : q.count + suc m + 1 ≡ q.count + suc (suc m) = omega arith in
    let e3 : cond (eqb (q.count + suc m) 0) b (cond (eqb q.count 0) code q.code) ≡ cond (eqb q.count 0) code q.code = rw (ne_eqb (q.count + suc m) 0 (λ z. omega arith)) in
    let e4 : q.strays + 0 + 0 ≡ q.strays + 0 = omega arith in
    let e5 : q.bytes + suc m + 1 ≡ q.bytes + suc (suc m) = omega arith in
    λ i. record { chars = e1 i; count = e2 i; code = e3 i; escaped = q.escaped; strays = e4 i; bytes = e5 i }

module _ (quote : ℕ) (low : quote < 0x80) (s : List ℕ) (q : Content) where
  step_one : (p : ℕ) (x : Content) → p < length s → Plain quote (get_or s p 0) → joined x (quoted_at quote s p) ≡ joined (added x (plain_piece 1 (get_or s p 0))) (quoted_at quote s (p + 1))
  step_one p x h f = step_ascii quote low s p x h f.no_quote f.no_lf f.no_slash f.low

  -- after a character, n more
  more : (code n p m : ℕ) → n ≡ plain_len quote (drop p s)
      → joined (added q (plain_piece (suc m) code)) (quoted_at quote s p) ≡ joined (added q (plain_piece (suc m + n) code)) (quoted_at quote s (p + n))
  more code zero p m e = rw (add-zero p, add-zero (suc m))
  more code (suc n) p m e =
      elim (dec_lt p (length s)) [
        | yes h ↦ go h (is_plain_byte quote (get_or s p 0)) refl (more code n (p + 1) (suc m))
        | no h ↦ absurd (omega (arith, plain_over quote s p (omega arith)))
      ]
    where
      go : p < length s → (t : Bool) → is_plain_byte quote (get_or s p 0) ≡ t
          → (n ≡ plain_len quote (drop (p + 1) s) → joined (added q (plain_piece (suc (suc m)) code)) (quoted_at quote s (p + 1)) ≡ joined (added q (plain_piece (suc (suc m) + n) code)) (quoted_at quote s (p + 1 + n)))
          → joined (added q (plain_piece (suc m) code)) (quoted_at quote s p) ≡ joined (added q (plain_piece (suc m + suc n) code)) (quoted_at quote s (p + suc n))
      go h false f ih = absurd (omega (arith, plain_stop quote s p h f))
      go h true f ih =
          let place : p + suc n ≡ p + 1 + n = omega arith in
          let total : suc m + suc n ≡ suc (suc m) + n = omega arith in
          rw (place, total)
          (step_one p (added q (plain_piece (suc m) code)) h (plain_is quote (get_or s p 0) f)
          ∙ ap (λ x. joined x (quoted_at quote s (p + 1))) (one_more q m code (get_or s p 0))
          ∙ ih (omega (arith, plain_next quote s p h f)))

  -- the run that begins at a place where such a byte stands
  pub step_run : (p n : ℕ) → n ≡ suc (plain_len quote (drop (p + 1) s))
      → p < length s → (get_or s p 0 ≡ quote → ⊥) → (get_or s p 0 ≡ 10 → ⊥) → (get_or s p 0 ≡ 92 → ⊥) → get_or s p 0 < 0x80
      → joined q (quoted_at quote s p) ≡ joined (added q (plain_piece n (get_or s p 0))) (quoted_at quote s (p + n))
  step_run p n is h no_quote no_lf no_slash l =
      let m = plain_len quote (drop (p + 1) s) in
      let place : p + n ≡ p + 1 + m = omega (arith, is) in
      let total : n ≡ suc 0 + m = omega (arith, is) in
      rw (place, total) (step_ascii quote low s p q h no_quote no_lf no_slash l ∙ more (get_or s p 0) m (p + 1) 0 refl)

-- ---- a body of n such characters that is closed after them
abbrev pub closed_at : ℕ → ℕ → ℕ → ReadBody
closed_at p n code =
    record { end = p + n + 1; chars = n + 1; closed = true; error = 0; count = n; code = code; escaped = false; strays = 0; bytes = n }

module _ (quote : ℕ) (low : quote < 0x80) (s : List ℕ) (p : ℕ) where
  none_closed : p < length s → get_or s p 0 ≡ quote → closed_at p 0 0 ≡ quoted_at quote s p
  unfolding body_end
  none_closed h f = rw (add-zero p) (step_quote quote low s p nothing_read h refl f ∙ sym (joined_start (quoted_at quote s p)))

  some_closed : (n : ℕ) → suc n ≡ plain_len quote (drop p s) → p + suc n < length s → get_or s (p + suc n) 0 ≡ quote → is_plain_byte quote (get_or s p 0) ≡ true
      → closed_at p (suc n) (get_or s p 0) ≡ quoted_at quote s p
  unfolding body_end added
  some_closed n e h f t =
      let b = get_or s p 0 in
      let there : p < length s = omega arith in
      let y = plain_is quote b t in
      let run = step_run quote low s nothing_read p (suc n) (e ∙ plain_next quote s p there t) there y.no_quote y.no_lf y.no_slash y.low in
      let z : suc n ≡ 0 + suc n = omega arith in
      let fresh : cond (eqb (0 + suc n) 0) 0 b ≡ b = rw (ne_eqb (0 + suc n) 0 (λ e. omega arith)) in
      (λ i. record { end = p + suc n + 1; chars = z i + 1; closed = true; error = 0; count = z i; code = b; escaped = false; strays = 0; bytes = z i })
      ∙ step_quote quote low s (p + suc n) (added nothing_read (plain_piece (suc n) b)) h fresh f
      ∙ sym run ∙ sym (joined_start (quoted_at quote s p))

  pub run_closed : (n : ℕ) → n ≡ plain_len quote (drop p s) → p + n < length s → get_or s (p + n) 0 ≡ quote
      → closed_at p n (cond (eqb n 0) 0 (get_or s p 0)) ≡ quoted_at quote s p
  run_closed zero e h f = none_closed (omega arith) (rw (add-zero p) at f)
  run_closed (suc n) e h f =
      rw (ne_eqb (suc n) 0 (λ z. omega arith))
      (⊎_elim (some_closed n e h f) (λ t. absurd (omega (arith, e, plain_stop quote s p (omega arith) t))) (either (is_plain_byte quote (get_or s p 0))))
