-- Laws of encoding: it gives the bytes of a well-formed text back, its codes are Unicode scalar values, and each of these is read back.
use Prim.Native.Nat.{ℕ, zero, suc, pred, ◌+◌, ◌*◌, ◌/◌, ◌%◌, ◌≤◌, ◌<◌}
use mathlib.Core.Path.{◌≡◌, refl, sym, ap₂, ◌∙◌}
use mathlib.Core.Bool.{true, false, true≢false}
use mathlib.Core.List.{List, [], ◌∷◌, ◌++◌}
use mathlib.Core.Logic.{◌⊎◌, inl, inr, ⊎_elim}
use native.Mathlib.Omega.{arith}
use native.Mathlib.Decide.{dec_lt}
use native.Mathlib.Nat.{not-suc-le-zero, le_of_suc-le-suc}
use lib.ListN.{length, get_or, take, drop, take-append-drop}
use lib.Seq.{take-suc}
use borrow.Author.Tests.{lt-ltb, le-ltb}
use Rattle.basics.proofs.Choice.{in_between}
use Rattle.utf8.specs.declared.Char.{Char}
use Rattle.utf8.specs.Chars.{char_of, first_char, chars_from, chars, is_stray, no_stray, well_formed, octets, is_scalar, encode, encoded}
use Rattle.utf8.specs.Steps.{decoded}
use Rattle.utf8.proofs.Bytes.{View, none, one, two, three, four, view, sequence_one, sequence_two, sequence_three, sequence_four, low_least, high_most, low_e0, low_f0, high_ed, high_f4, low_fits, high_fits}
use Rattle.utf8.proofs.First.{first_is, first_least, first_most, first_fits, drop_pred}
use Rattle.utf8.proofs.Append.{no_stray_split}

-- ---- the bytes of a character, by the range of its code
list_two : {a b a' b' : ℕ} → a ≡ a' → b ≡ b' → ◌≡◌ {A = List ℕ} (a ∷ b ∷ []) (a' ∷ b' ∷ [])
list_two p q = cc

list_three : {a b c a' b' c' : ℕ} → a ≡ a' → b ≡ b' → c ≡ c' → ◌≡◌ {A = List ℕ} (a ∷ b ∷ c ∷ []) (a' ∷ b' ∷ c' ∷ [])
list_three p q r = cc

list_four : {a b c d a' b' c' d' : ℕ} → a ≡ a' → b ≡ b' → c ≡ c' → d ≡ d' → ◌≡◌ {A = List ℕ} (a ∷ b ∷ c ∷ d ∷ []) (a' ∷ b' ∷ c' ∷ d' ∷ [])
list_four p q r s = cc

pub octets_two : (n : ℕ) → 0x80 ≤ n → n < 0x800 → octets n ≡ (0xC0 + n / 64) ∷ (0x80 + n % 64) ∷ []
unfolding octets
octets_two n l h = simp (le-ltb n 0x80 l, lt-ltb n 0x800 h)

pub octets_three : (n : ℕ) → 0x800 ≤ n → n < 0x10000 → octets n ≡ (0xE0 + n / 4096) ∷ (0x80 + n / 64 % 64) ∷ (0x80 + n % 64) ∷ []
unfolding octets
octets_three n l h = simp (le-ltb n 0x80 (omega arith), le-ltb n 0x800 l, lt-ltb n 0x10000 h)

pub octets_four : (n : ℕ) → 0x10000 ≤ n → octets n ≡ (0xF0 + n / 262144) ∷ (0x80 + n / 4096 % 64) ∷ (0x80 + n / 64 % 64) ∷ (0x80 + n % 64) ∷ []
unfolding octets
octets_four n l = simp (le-ltb n 0x80 (omega arith), le-ltb n 0x800 (omega arith), le-ltb n 0x10000 l)

coded : {a b c d n : ℕ} → View a b c d n → is_stray (char_of n a b c d) ≡ false → octets (char_of n a b c d).code ≡ take (char_of n a b c d).width (a ∷ b ∷ c ∷ d ∷ [])
unfolding octets
coded none g = absurd (true≢false g)
coded {a} (one h) g = simp (lt-ltb a 0x80 h)
coded {a} {b} (two h k l m) g = octets_two (a % 32 * 64 + b % 64) (omega arith) (omega arith) ∙ list_two (omega arith) (omega arith)
coded {a} {b} {c} (three h k l m n o) g =
    let u = low_e0 a h in
    let v = low_least a in
    let w = high_most a in
    let x = a % 16 * 4096 + b % 64 * 64 + c % 64 in
    octets_three x (omega arith) (omega arith) ∙ list_three (omega arith) (omega arith) (omega arith)
coded {a} {b} {c} {d} (four h k l m n o p q) g =
    let u = low_f0 a h in
    let v = low_least a in
    let ww = high_most a in
    let x = a % 8 * 262144 + b % 64 * 4096 + c % 64 * 64 + d % 64 in
    octets_four x (omega arith) ∙ list_four (omega arith) (omega arith) (omega arith) (omega arith)

heads : (w : ℕ) (s : List ℕ) → w ≤ 4 → w ≤ length s → take w (get_or s 0 0 ∷ get_or s 1 0 ∷ get_or s 2 0 ∷ get_or s 3 0 ∷ []) ≡ take w s
heads zero s m h = refl
heads (suc zero) s m h = rw (take-suc s 0 0 (omega arith))
heads (suc (suc zero)) s m h = rw (take-suc s 1 0 (omega arith), take-suc s 0 0 (omega arith))
heads (suc (suc (suc zero))) s m h = rw (take-suc s 2 0 (omega arith), take-suc s 1 0 (omega arith), take-suc s 0 0 (omega arith))
heads (suc (suc (suc (suc zero)))) s m h =
    rw (take-suc s 3 0 (omega arith), take-suc s 2 0 (omega arith), take-suc s 1 0 (omega arith), take-suc s 0 0 (omega arith))
heads (suc (suc (suc (suc (suc w))))) s m h = absurd (omega arith)

first_octets : (s : List ℕ) → 0 < length s → is_stray (first_char s) ≡ false → octets (first_char s).code ≡ take (first_char s).width s
unfolding decoded
first_octets s z g =
    rw (first_is s z) (coded (view (get_or s 0 0) (get_or s 1 0) (get_or s 2 0) (get_or s 3 0)) (rw (first_is s z) at g)) ∙ heads (first_char s).width s (first_most s) (first_fits s z)

-- ---- Unicode scalar values
abbrev pub Scalar : ℕ → Type 0
Scalar n = (n < 0xD800) ⊎ ((0xE000 ≤ n) × (n < 0x110000))

scalar : {a b c d n : ℕ} → View a b c d n → is_stray (char_of n a b c d) ≡ false → Scalar (char_of n a b c d).code
scalar none g = absurd (true≢false g)
scalar (one h) g = inl (omega arith)
scalar {a} {b} (two h k l m) g = inl (omega arith)
scalar {a} {b} {c} (three h k l m n o) g =
    let v = low_least a in
    let w = high_most a in
    elim (dec_lt a 0xEE) [ yes x ↦ inl (omega (arith, high_ed a (omega arith))) | no x ↦ inr (omega arith, omega arith) ]
scalar {a} {b} {c} {d} (four h k l m n o p q) g =
    let u = low_f0 a h in
    let v = low_least a in
    let w = high_f4 a k in
    let y = high_most a in
    inr (omega arith, omega arith)

pub first_scalar : (s : List ℕ) → 0 < length s → is_stray (first_char s) ≡ false → Scalar (first_char s).code
unfolding decoded
first_scalar s z g = rw (first_is s z) (scalar (view (get_or s 0 0) (get_or s 1 0) (get_or s 2 0) (get_or s 3 0)) (rw (first_is s z) at g))

scalar_true : (n : ℕ) → Scalar n → is_scalar n ≡ true
scalar_true n s =
    ⊎_elim (λ h. rw (lt-ltb n 0xD800 h)) (λ h. rw (le-ltb n 0xD800 (omega arith), in_between 0xE000 n 0x10FFFF h.0 (omega arith))) s

pub encode_scalar : (n : ℕ) → Scalar n → encode n ≡ octets n
unfolding encode
encode_scalar n s = rw (scalar_true n s)

-- a code below 128 is written as itself
pub encode_ascii : (n : ℕ) → n < 0x80 → encode n ≡ n ∷ []
unfolding octets
encode_ascii n h = encode_scalar n (inl (omega arith)) ∙ simp (lt-ltb n 0x80 h)

-- ---- the codes give the bytes back
pub first_coded : (s : List ℕ) → 0 < length s → is_stray (first_char s) ≡ false → encode (first_char s).code ≡ take (first_char s).width s
first_coded s z g = encode_scalar (first_char s).code (first_scalar s z g) ∙ first_octets s z g

encoded_from : (k : ℕ) (s : List ℕ) → k ≤ length s → no_stray (chars_from k s) ≡ true → encoded (chars_from k s) ≡ drop k s
unfolding chars_from
encoded_from zero [] h g = refl
encoded_from (suc k) [] h g = absurd (not-suc-le-zero h)
encoded_from zero (b ∷ s) h g =
    let f = first_char (b ∷ s) in
    let q = no_stray_split f (chars_from (pred f.width) s) g in
    ap₂ ◌++◌ (first_coded (b ∷ s) (omega arith) q.0)
    (encoded_from (pred f.width) s (omega (arith, first_fits (b ∷ s) (omega arith))) q.1 ∙ sym (drop_pred f.width b s (first_least (b ∷ s))))
    ∙ take-append-drop f.width (b ∷ s)
encoded_from (suc k) (b ∷ s) h g = encoded_from k s (le_of_suc-le-suc h) g

-- a well-formed text is what its characters are written in
pub encoded_chars : (s : List ℕ) → well_formed s ≡ true → encoded (chars s) ≡ s
encoded_chars s g = encoded_from 0 s (omega arith) g

-- ---- and a code that is written is read back
abbrev spread : ℕ → Char
spread n = record { code = n; width = length (octets n) }

at_code : {n m w : ℕ} → n ≡ m → ◌≡◌ {A = Char} (record { code = n; width = w }) (record { code = m; width = w })
at_code e = cc

-- the digits of a code to the base 64; each step has few terms, since `omega` gives up on all of them at once
of_8 : (x : ℕ) → x < 8 → (0xF0 + x) % 8 ≡ x
of_8 x h = omega arith

of_64 : (y : ℕ) → y < 64 → (0x80 + y) % 64 ≡ y
of_64 y h = omega arith

summed : (n p q r x y z : ℕ) → n ≡ p * 64 + z → p ≡ q * 64 + y → q ≡ r * 64 + x → r * 262144 + x * 4096 + y * 64 + z ≡ n
summed n p q r x y z e f g = omega arith

four_digits : (n : ℕ) → n < 0x110000
    → (0xF0 + n / 262144) % 8 * 262144 + (0x80 + n / 4096 % 64) % 64 * 4096 + (0x80 + n / 64 % 64) % 64 * 64 + (0x80 + n % 64) % 64 ≡ n
four_digits n h =
    rw (of_8 (n / 262144) (omega arith), of_64 (n / 4096 % 64) (omega arith), of_64 (n / 64 % 64) (omega arith), of_64 (n % 64) (omega arith))
    (summed n (n / 64) (n / 4096) (n / 262144) (n / 4096 % 64) (n / 64 % 64) (n % 64) (omega arith) (omega arith) (omega arith))

module _ (n : ℕ) (t : List ℕ) where
  read_one : n < 0x80 → first_char (octets n ++ t) ≡ spread n
  unfolding decoded octets
  read_one h = rw (lt-ltb n 0x80 h, first_is (n ∷ t) (omega arith), sequence_one n (get_or t 0 0) (get_or t 1 0) (get_or t 2 0) h)

  read_two : 0x80 ≤ n → n < 0x800 → first_char (octets n ++ t) ≡ spread n
  unfolding decoded
  read_two l h =
      rw (
        octets_two n l h,
        first_is ((0xC0 + n / 64) ∷ (0x80 + n % 64) ∷ t) (omega arith),
        sequence_two (0xC0 + n / 64) (0x80 + n % 64) (get_or t 0 0) (get_or t 1 0) (omega arith) (omega arith) (omega arith) (omega arith),
      )
      (at_code (omega arith))

  read_three : 0x800 ≤ n → n < 0x10000 → (n < 0xD800) ⊎ (0xE000 ≤ n) → first_char (octets n ++ t) ≡ spread n
  unfolding decoded
  read_three l h s =
      let a = 0xE0 + n / 4096 in
      let b = 0x80 + n / 64 % 64 in
      let c = 0x80 + n % 64 in
      rw (
        octets_three n l h,
        first_is (a ∷ b ∷ c ∷ t) (omega arith),
        sequence_three a b c (get_or t 0 0) (omega arith) (omega arith)
            (low_fits a b (omega arith) (λ e. omega arith) (λ e. omega arith))
            (high_fits a b (omega arith) (λ e. ⊎_elim (λ x. omega arith) (λ x. omega arith) s) (λ e. omega arith)) (omega arith) (omega arith),
      )
      (at_code (omega arith))

  read_four : 0x10000 ≤ n → n < 0x110000 → first_char (octets n ++ t) ≡ spread n
  unfolding decoded
  read_four l h =
      let a = 0xF0 + n / 262144 in
      let b = 0x80 + n / 4096 % 64 in
      let c = 0x80 + n / 64 % 64 in
      let d = 0x80 + n % 64 in
      rw (
        octets_four n l,
        first_is (a ∷ b ∷ c ∷ d ∷ t) (omega arith),
        sequence_four a b c d (omega arith) (omega arith)
            (low_fits a b (omega arith) (λ e. omega arith) (λ e. omega arith))
            (high_fits a b (omega arith) (λ e. omega arith) (λ e. omega arith)) (omega arith) (omega arith) (omega arith) (omega arith),
      )
      (at_code (four_digits n h))

  read_octets : Scalar n → first_char (octets n ++ t) ≡ spread n
  read_octets s =
      elim (dec_lt n 0x80) [
        | yes x ↦ read_one x
        | no x ↦ elim (dec_lt n 0x800) [
          | yes y ↦ read_two (omega arith) y
          | no y ↦ elim (dec_lt n 0x10000) [
            | yes z ↦ read_three (omega arith) z (⊎_elim (λ u. inl u) (λ u. inr u.0) s)
            | no z ↦ ⊎_elim (λ u. absurd (omega arith)) (λ u. read_four (omega arith) u.1) s
          ]
        ]
      ]

  pub read_back : Scalar n → first_char (encode n ++ t) ≡ record { code = n; width = length (encode n) }
  read_back s = rw (encode_scalar n s) (read_octets s)
