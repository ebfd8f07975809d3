-- What a token shows when its own scan returns: its text and its value, from the text area or from the source.
use Prim.Native.Nat.{ℕ, zero, suc, ◌+◌, ◌-◌, ◌≤◌, ◌<◌}
use mathlib.Core.Path.{◌≡◌, refl, sym, ap, ◌∙◌}
use mathlib.Core.Bool.{Bool, true, false, cond, not}
use mathlib.Core.List.{List, [], ◌∷◌, ◌++◌, append_assoc}
use native.Mathlib.Nat.{add-sub_cancel_left}
use native.Mathlib.Omega.{arith}
use native.Mathlib.Decide.{dec_lt}
use lib.Dec.{eqb}
use lib.ListN.{length, take, drop, length-append, length-drop}
use lib.Seq.{length-take-le, take-append_seam, drop-append_seam, drop-drop, take-take}
use borrow.Author.Tests.{le-leb, not-false, eqb-true}
use Rattle.basics.specs.Same.{same}
use Rattle.basics.proofs.Lists.{same_true}
use Rattle.utf8.specs.Chars.{chars, widths}
use Rattle.utf8.proofs.First.{chars_at, chars_end, first_least}
use Rattle.utf8.proofs.Places.{place_fits}
use Rattle.kinds.specs.Kinds.{STRING}
use Rattle.lexer.specs.Lexeme.{Lexeme}
use Rattle.lexer.specs.Placed.{placed, value_read, text_differs_in}
use Rattle.parts.specs.Shown.{Shown, shown_in, shown_of}
use Rattle.scanner.specs.Scan.{written, to_area, part_from, text_part, value_part}

-- bytes that are shown
abbrev pub shows : List ℕ → Shown
shows bytes = record { bytes = bytes; refusal = 0 }

-- ---- a part of one buffer
part_shown : (buffer : List ℕ) (area : Bool) (start : ℕ) (bytes : List ℕ) → start + length bytes ≤ length buffer → take (length bytes) (drop start buffer) ≡ bytes
    → shown_in buffer (part_from area start (length bytes)) ≡ shows bytes
part_shown buffer area start bytes h e =
    rw (le-leb start (start + length bytes) (omega arith), le-leb (start + length bytes) (length buffer) h, add-sub_cancel_left start (length bytes), e)

-- between what stands before it and after it
inside_shown : (before bytes behind : List ℕ) (area : Bool) → shown_in (before ++ (bytes ++ behind)) (part_from area (length before) (length bytes)) ≡ shows bytes
inside_shown before bytes behind area =
    part_shown (before ++ (bytes ++ behind)) area (length before) bytes
    (omega (arith, length-append before (bytes ++ behind), length-append bytes behind))
    (rw (drop-append_seam before (bytes ++ behind)) (take-append_seam bytes behind))

-- as the source has it
source_shown : (src : List ℕ) (start k : ℕ) (bytes : List ℕ) → start + k ≤ length src → bytes ≡ take k (drop start src)
    → shown_in src (part_from false start (length bytes)) ≡ shows bytes
source_shown src start k bytes h e =
    let l : length bytes ≡ k = ap length e ∙ length-take-le k (drop start src) (omega (arith, length-drop start src)) in
    part_shown src false start bytes (omega arith) (rw l (sym e))

-- ---- the text, written first, with anything after it
text_by : (src : List ℕ) (start k : ℕ) (text behind : List ℕ) → start + k ≤ length src → (t : Bool) → text_differs_in text (take k (drop start src)) ≡ t
    → shown_of src (cond t text [] ++ behind) (part_from t (cond t 0 start) (length text)) ≡ shows text
unfolding shown_of
text_by src start k text behind h true e = inside_shown [] text behind true
text_by src start k [] behind h false e = part_shown src false start [] (omega arith) refl
text_by src start k (b ∷ text) behind h false e =
    source_shown src start k (b ∷ text) h (same_true (b ∷ text) (take k (drop start src)) (not-false _ e))

-- ---- the value, written after the text
-- the bytes of a token without the first
drop_one : (w : ℕ) (l : List ℕ) → drop 1 (take (suc w) l) ≡ take w (drop 1 l)
drop_one zero [] = refl
drop_one (suc w) [] = refl
drop_one w (b ∷ l) = refl

-- the first m of them stand in the source after its first
quoted_shown : (src : List ℕ) (start k m : ℕ) (value : List ℕ) → start + k ≤ length src → m < k → value ≡ take m (drop 1 (take k (drop start src)))
    → shown_in src (part_from false (start + 1) (length value)) ≡ shows value
quoted_shown src start zero m value h l e = absurd (omega arith)
quoted_shown src start (suc k) m value h l e =
    source_shown src (start + 1) m value (omega arith)
    (e ∙ rw (drop_one k (drop start src), drop-drop 1 start src) (take-take m k (drop (start + 1) src) (omega arith)))

-- of a token of w bytes, with one or two quotes
inner_less : (w : ℕ) (t : Bool) → 0 < w → w - cond t 1 2 < w
inner_less w true h = omega arith
inner_less w false h = omega arith

read_shown : (src : List ℕ) (start k : ℕ) (t : Bool) (value : List ℕ) (string : Bool) → start + k ≤ length src → (string ≡ true → 0 < k)
    → value ≡ cond string (take (length (take k (drop start src)) - cond t 1 2) (drop 1 (take k (drop start src)))) []
    → shown_in src (part_from false (cond string (start + 1) start) (length value)) ≡ shows value
read_shown src start k t value true h f e =
    quoted_shown src start k (k - cond t 1 2) value h (inner_less k t (f refl))
    (rw (length-take-le k (drop start src) (omega (arith, length-drop start src))) at e)
read_shown src start k t value false h f e = rw e (part_shown src false start [] (omega arith) refl)

written_value : (t : Bool) (text value behind : List ℕ) → shown_in ((cond t text [] ++ value) ++ behind) (part_from true (cond t (length text) 0) (length value)) ≡ shows value
written_value true text value behind = rw (append_assoc text value behind) (inside_shown text value behind true)
written_value false text value behind = inside_shown [] value behind true

-- shown from the area, if it is not what the token's bytes hold
value_by : (src : List ℕ) (start k : ℕ) (x : Lexeme) (t : Bool) (text behind : List ℕ) → start + k ≤ length src → (eqb x.kind STRING ≡ true → 0 < k)
    → (v : Bool) → not (same x.value (value_read x (take k (drop start src)))) ≡ v
    → shown_of src ((cond t text [] ++ cond v x.value []) ++ behind)
    (part_from v (cond v (cond t (length text) 0) (cond (eqb x.kind STRING) (start + 1) start)) (length x.value))
    ≡ shows x.value
unfolding shown_of
value_by src start k x t text behind h f true e = written_value t text x.value behind
value_by src start k x t text behind h f false e =
    read_shown src start k (eqb x.error 6) x.value (eqb x.kind STRING) h f
    (same_true x.value (value_read x (take k (drop start src))) (not-false _ e))

-- ---- a token at a place of a source
-- characters take bytes
some_widths : (src : List ℕ) (start n : ℕ) → 0 < n → n ≤ length (chars (drop start src)) → 0 < widths (take n (chars (drop start src)))
some_widths src start zero h g = absurd (omega arith)
some_widths src start (suc n) h g =
    elim (dec_lt start (length src)) [
      | yes l ↦ rw (chars_at src start l) (omega (arith, first_least (drop start src)))
      | no l ↦ absurd (omega (arith, ap length (chars_end src start (omega arith))))
    ]

module _ (src : List ℕ) (start : ℕ) (x : Lexeme) (area : List ℕ) (h : start ≤ length src) where
  pub text_shown_lem : shown_of src (written (to_area (placed src start x)) area) (text_part start (placed src start x)) ≡ shows x.text
  unfolding placed
  text_shown_lem =
      let k = widths (take x.len (chars (drop start src))) in
      let p = placed src start x in
      rw (append_assoc (cond p.text_differs x.text []) (cond p.value_differs x.value []) (drop (length (to_area p)) area))
      (text_by src start k x.text (cond p.value_differs x.value [] ++ drop (length (to_area p)) area) (place_fits x.len src start h) p.text_differs refl)

  -- a string has its opening quote
  pub value_shown : (x.kind ≡ STRING → 0 < x.len) → x.len ≤ length (chars (drop start src))
      → shown_of src (written (to_area (placed src start x)) area) (value_part start (placed src start x)) ≡ shows x.value
  unfolding placed
  value_shown f g =
      let k = widths (take x.len (chars (drop start src))) in
      let p = placed src start x in
      value_by src start k x p.text_differs x.text (drop (length (to_area p)) area) (place_fits x.len src start h)
      (λ e. some_widths src start x.len (f (eqb-true x.kind STRING e)) g) p.value_differs refl
