-- The text of an INT or a FLOAT is read again as it is.
use Prim.Native.Nat.{ℕ, zero, suc, ◌+◌, ◌≤◌, ◌<◌}
use Prim.Native.Char.{code}
use mathlib.Core.Path.{◌≡◌, refl, sym, ap, ap₂, subst, ◌∙◌}
use mathlib.Core.Bool.{Bool, true, false, cond, ◌&&◌, ◌||◌}
use mathlib.Core.List.{List, [], ◌∷◌, map}
use native.Mathlib.Omega.{arith}
use lib.Dec.{eqb, lit<}
use lib.ListN.{length, take, drop, get_or, length-map}
use Rattle.utf8.specs.declared.Char.{Char}
use Rattle.utf8.specs.Chars.{chars}
use Rattle.utf8.proofs.First.{ascii}
use Rattle.errors.specs.Numbers.{BAD_OCTAL}
use Rattle.digits.specs.Digit.{is_decimal}
use Rattle.numbers.specs.declared.Spelling.{Spelling}
use Rattle.numbers.specs.declared.Spelling.TheVariants.{AsRead, LowerPrefix, OctalPrefix, LowerExponent}
use Rattle.numbers.specs.Spelling.{lower, lower_second, gain_o, lower_e, number_text}
use Rattle.numbers.specs.Number.{Numeral, after_chars, prefixed, starts_number, without_i, number}
use Rattle.numbers.proofs.Tested.{Spelled, number_ascii, number_within, number_spelled}
use Rattle.lexer.specs.Making.{is_number}
use Rattle.lexer.proofs.Ways.{number_taken}
use Rattle.lexer.proofs.NumberStarts.{some_read, two_read}
use Rattle.writing.specs.Spelled.{lower_exponent}
use Rattle.quantity_query.specs.Given.{starts_octal}
use Rattle.quantity_scans.proofs.AsciiBytes.{AllLow, low_chars, taken}
use Rattle.quantity_scans.proofs.Lowered.{e_char, by_e, low, number_e}
use Rattle.quantity_scans.proofs.Zeros.{Real, number_plain, number_whole, number_cut}
use Rattle.quantity_scans.proofs.Respelled.{spelled_as, prefixed_as, ShownBy, without_shows, zero_by_lem}

-- a text of a number of n characters that is read again: as that kind, to its end, and as it is
pub record ReadAgain (kind n : ℕ) (t : List ℕ) : Type 0 where
  pub starts : starts_number (get_or t 0 0) (get_or t 1 0) ≡ true
  pub kind_is : (number (chars t)).kind ≡ kind
  pub all : (number (chars t)).len ≡ length t
  pub plain : (number (chars t)).spelling ≡ AsRead
  pub size : length t ≤ n + cond (starts_octal t) 1 0

-- by the number that it is read as
again : (kind n : ℕ) (t : List ℕ) (x : Numeral) → number (chars t) ≡ x → starts_number (get_or t 0 0) (get_or t 1 0) ≡ true → x.kind ≡ kind → x.len ≡ length t → x.spelling ≡ AsRead
    → length t ≤ n + cond (starts_octal t) 1 0 → ReadAgain kind n t
again kind n t x e st k l sp h =
    record {
      starts = st;
      kind_is = ap (λ (y : Numeral). y.kind) e ∙ k;
      all = ap (λ (y : Numeral). y.len) e ∙ l;
      plain = ap (λ (y : Numeral). y.spelling) e ∙ sp;
      size = h;
    }

starts_bytes : (t : List ℕ) → is_number (map ascii t) ≡ starts_number (get_or t 0 0) (get_or t 1 0)
starts_bytes [] = refl
starts_bytes (a ∷ []) = refl
starts_bytes (a ∷ b ∷ t) = refl

-- ---- by the bytes that were read
module _ (bytes : List ℕ) where
  abbrev w : List Char
  w = map ascii bytes

  abbrev x : Numeral
  x = number w

  -- they are the number that starts there
  record Read : Type 0 where
    lows : AllLow bytes
    starts : is_number w ≡ true
    real : Real x.kind
    all : x.len ≡ length bytes

  abbrev Again : List ℕ → Type 0
  Again = ReadAgain x.kind (length bytes)

  as_read : Read → x.spelling ≡ AsRead → Again bytes
  as_read r sp = again x.kind (length bytes) bytes x (ap number (low_chars bytes r.lows)) (sym (starts_bytes bytes) ∙ r.starts) refl r.all sp (omega arith)

lowered_low : (t : List ℕ) → AllLow t → AllLow (lower_e t)
lowered_low [] h = tt
lowered_low (b ∷ t) h = (go (eqb b (code "E")), lowered_low t h.1)
  where
    go : (e : Bool) → cond e (code "e") b < 0x80
    go true = omega arith
    go false = h.0

lowered_chars : (t : List ℕ) → map ascii (lower_e t) ≡ map e_char (map ascii t)
lowered_chars [] = refl
lowered_chars (b ∷ t) = ap (λ r. ascii (lower_exponent b) ∷ r) (lowered_chars t)

lowered_byte : (t : List ℕ) (i : ℕ) → get_or (lower_e t) i 0 ≡ lower_exponent (get_or t i 0)
lowered_byte [] i = refl
lowered_byte (b ∷ t) zero = refl
lowered_byte (b ∷ t) (suc i) = lowered_byte t i

lower_exponent_lem : (bytes : List ℕ) → Read bytes → (x bytes).spelling ≡ LowerExponent → Again bytes (lower_e bytes)
lower_exponent_lem bytes r sp =
    let e = ap number (low_chars (lower_e bytes) (lowered_low bytes r.lows) ∙ lowered_chars bytes) ∙ number_e (w bytes) in
    let l = length-map bytes lower_exponent in
    again (x bytes).kind (length bytes) (lower_e bytes) _ e
    (rw (lowered_byte bytes 0, lowered_byte bytes 1)
    (ap₂ (λ a b. a || b) (by_e is_decimal refl (get_or bytes 0 0)) (ap₂ (λ a b. a && b) (by_e (λ b. eqb b (code ".")) refl (get_or bytes 0 0)) (by_e is_decimal refl (get_or bytes 1 0)))
    ∙ sym (starts_bytes bytes) ∙ r.starts))
    refl (r.all ∙ sym l) (ap low sp) (omega (arith, l))

-- ---- a prefix: what its spelling shows
shown : (bytes : List ℕ) → Read bytes → (sp : Spelling) → (x bytes).spelling ≡ sp → ShownBy sp (w bytes) (x bytes)
shown bytes r sp e =
    let p = (number_plain (w bytes) r.real).0 in
    subst (λ s. ShownBy s (w bytes) (x bytes)) e (subst (λ (y : Numeral). ShownBy y.spelling (w bytes) y) (sym p) (without_shows (w bytes)))

-- how many characters there are at least
spelled : (bytes : List ℕ) → Read bytes → (sp : Spelling) → (x bytes).spelling ≡ sp → Spelled sp (w bytes) (length bytes)
spelled bytes r sp e = subst (Spelled sp (w bytes)) r.all (subst (λ s. Spelled s (w bytes) (x bytes).len) e (number_spelled (w bytes)))

lower_prefix : (bytes : List ℕ) → Read bytes → (x bytes).spelling ≡ LowerPrefix → Again bytes (lower_second bytes)
lower_prefix [] r sp = absurd (omega (arith, (spelled [] r LowerPrefix sp).0))
lower_prefix (a ∷ []) r sp = absurd (omega (arith, (spelled (a ∷ []) r LowerPrefix sp).0))
lower_prefix (a ∷ b ∷ rest) r sp =
    let u = shown (a ∷ b ∷ rest) r LowerPrefix sp in
    let q = ascii a ∷ ascii (lower b) ∷ map ascii rest in
    let y = spelled_as AsRead (x (a ∷ b ∷ rest)) in
    let is : without_i q ≡ y =
    zero_by_lem q (lower b) u.first refl ∙ u.again q ∙ ap (after_chars 2) (prefixed_as u.base u.error AsRead LowerPrefix (map ascii rest)) ∙ ap (spelled_as AsRead) (sym u.is) in
    let e = ap number (low_chars (a ∷ lower b ∷ rest) (r.lows.0, (u.low, r.lows.1.1))) ∙ number_whole q y is (r.all ∙ ap (λ i. suc (suc i)) (sym (length-map rest ascii))) in
    again (x (a ∷ b ∷ rest)).kind (length (a ∷ b ∷ rest)) (a ∷ lower b ∷ rest) y e (rw u.first) refl r.all refl (omega arith)

octal_base : (a : ℕ) (rest : List ℕ) → a ≡ code "0" → starts_octal (a ∷ code "o" ∷ rest) ≡ true
octal_base a rest z = rw z

octal_prefix : (bytes : List ℕ) → Read bytes → (x bytes).spelling ≡ OctalPrefix → Again bytes (gain_o bytes)
octal_prefix [] r sp = absurd (omega (arith, spelled [] r OctalPrefix sp))
octal_prefix (a ∷ rest) r sp =
    let u = shown (a ∷ rest) r OctalPrefix sp in
    let q = ascii a ∷ ascii (code "o") ∷ map ascii rest in
    let y = after_chars 2 (spelled_as AsRead (prefixed 8 BAD_OCTAL OctalPrefix (map ascii rest))) in
    let len : y.len ≡ suc (suc (length rest)) = omega (arith, ap (λ (v : Numeral). v.len) u.is, r.all) in
    let is : without_i q ≡ y = zero_by_lem q (code "o") u.first refl ∙ ap (after_chars 2) (prefixed_as 8 BAD_OCTAL AsRead OctalPrefix (map ascii rest)) in
    let e = ap number (low_chars (a ∷ code "o" ∷ rest) (r.lows.0, (lit< tt, r.lows.1))) ∙ number_whole q y is (len ∙ ap (λ i. suc (suc i)) (sym (length-map rest ascii))) in
    again (x (a ∷ rest)).kind (length (a ∷ rest)) (a ∷ code "o" ∷ rest) y e (rw u.first) (sym (ap (λ (v : Numeral). v.kind) u.is)) len refl
    (rw (octal_base a rest u.first) (omega arith))

text_again : (bytes : List ℕ) → Read bytes → Again bytes (number_text (x bytes).spelling bytes)
unfolding number_text
text_again bytes r = go (x bytes).spelling refl
  where
    go : (sp : Spelling) → (x bytes).spelling ≡ sp → Again bytes (number_text sp bytes)
    go AsRead = as_read bytes r
    go LowerPrefix = lower_prefix bytes r
    go OctalPrefix = octal_prefix bytes r
    go LowerExponent = lower_exponent_lem bytes r

-- ---- the text of a number at a place of a source
pub text_read : (s : List ℕ) (at : ℕ) → let r = chars (drop at s) in is_number r ≡ true → Real (number r).kind
    → ReadAgain (number r).kind (number r).len (number_text (number r).spelling (take (number r).len (drop at s)))
text_read s at st k =
    let r = chars (drop at s) in
    let n = (number r).len in
    let bytes = take n (drop at s) in
    let t = taken n s at (number_within r) (λ i h. (number_ascii r i h).0) in
    let some = some_read r st in
    let c : x bytes ≡ number r = ap number (sym t.is) ∙ number_cut r k some in
    rw (c, t.size) at (text_again bytes (record {
      lows = t.lows;
      starts = rw t.is at (number_taken n r st some (two_read r st));
      real = subst (λ (y : Numeral). Real y.kind) (sym c) k;
      all = ap (λ (y : Numeral). y.len) c ∙ sym t.size;
    }))
