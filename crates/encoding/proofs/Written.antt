-- Laws of what a code is written in, by its range: how many bytes, and the byte at a place.
use Prim.Native.Nat.{ℕ, zero, suc, ◌+◌, ◌-◌, ◌/◌, ◌%◌, ◌≤◌, ◌<◌}
use mathlib.Core.Path.{◌≡◌, refl, ◌∙◌}
use mathlib.Core.Bool.{cond}
use mathlib.Core.List.{List, [], ◌∷◌}
use mathlib.Core.Logic.{◌⊎◌, inl, inr, ⊎_elim}
use native.Mathlib.Omega.{arith}
use native.Mathlib.Decide.{dec_lt}
use lib.Dec.{eqb}
use lib.ListN.{length, get_or}
use borrow.Author.Tests.{le-ltb}
use Rattle.basics.proofs.Choice.{cond_ind, below_it, above_it}
use Rattle.utf8.specs.Chars.{encode}
use Rattle.encoding.specs.Steps.{digit, lead}
use Rattle.utf8.proofs.Encoding.{encode_ascii, encode_scalar, octets_two, octets_three, octets_four}

pub encode_two : (n : ℕ) → 0x80 ≤ n → n < 0x800 → encode n ≡ (0xC0 + n / 64) ∷ (0x80 + n % 64) ∷ []
encode_two n l h = encode_scalar n (inl (omega arith)) ∙ octets_two n l h

pub encode_three : (n : ℕ) → 0x800 ≤ n → n < 0x10000 → (n < 0xD800) ⊎ (0xE000 ≤ n) → encode n ≡ (0xE0 + n / 4096) ∷ (0x80 + n / 64 % 64) ∷ (0x80 + n % 64) ∷ []
encode_three n l h s = encode_scalar n (⊎_elim (λ u. inl u) (λ u. inr (u, omega arith)) s) ∙ octets_three n l h

pub encode_four : (n : ℕ) → 0x10000 ≤ n → n < 0x110000 → encode n ≡ (0xF0 + n / 262144) ∷ (0x80 + n / 4096 % 64) ∷ (0x80 + n / 64 % 64) ∷ (0x80 + n % 64) ∷ []
encode_four n l h = encode_scalar n (inr (omega arith, h)) ∙ octets_four n l

pub encode_surrogate : (n : ℕ) → 0xD800 ≤ n → n < 0xE000 → encode n ≡ []
unfolding encode
encode_surrogate n l h = rw (le-ltb n 0xD800 l, below_it 0xE000 n 0x10FFFF h)

pub encode_above : (n : ℕ) → 0x110000 ≤ n → encode n ≡ []
unfolding encode
encode_above n l = rw (le-ltb n 0xD800 (omega arith), above_it 0xE000 n 0x10FFFF (omega arith) l)

-- ---- as one view
data Written (n : ℕ) : List ℕ → Type 0 where
  one : n < 0x80 → Written n (n ∷ [])
  two : 0x80 ≤ n → n < 0x800 → Written n ((0xC0 + n / 64) ∷ (0x80 + n % 64) ∷ [])
  three : 0x800 ≤ n → n < 0x10000 → Written n ((0xE0 + n / 4096) ∷ (0x80 + n / 64 % 64) ∷ (0x80 + n % 64) ∷ [])
  four : 0x10000 ≤ n → n < 0x110000 → Written n ((0xF0 + n / 262144) ∷ (0x80 + n / 4096 % 64) ∷ (0x80 + n / 64 % 64) ∷ (0x80 + n % 64) ∷ [])
  none : Written n []

written : (n : ℕ) → Written n (encode n)
written n =
    elim (dec_lt n 0x80) [
      | yes h ↦ rw (encode_ascii n h) (one h)
      | no a ↦ elim (dec_lt n 0x800) [
        | yes h ↦ rw (encode_two n (omega arith) h) (two (omega arith) h)
        | no b ↦ elim (dec_lt n 0x10000) [
          | yes h ↦ elim (dec_lt n 0xD800) [
            | yes g ↦ rw (encode_three n (omega arith) h (inl g)) (three (omega arith) h)
            | no c ↦ elim (dec_lt n 0xE000) [
              | yes g ↦ rw (encode_surrogate n (omega arith) g) none
              | no d ↦ rw (encode_three n (omega arith) h (inr (omega arith))) (three (omega arith) h)
            ]
          ]
          | no c ↦ elim (dec_lt n 0x110000) [
            | yes h ↦ rw (encode_four n (omega arith) h) (four (omega arith) h)
            | no d ↦ rw (encode_above n (omega arith)) none
          ]
        ]
      ]
    ]

-- ---- the byte at a place
abbrev pub byte_of : ℕ → ℕ → ℕ → ℕ
byte_of n code k = cond (eqb k 0) ((lead n + digit code (n - 1 - k)) % 256) (0x80 + digit code (n - 1 - k) % 64)

at_place : {code : ℕ} {l : List ℕ} → Written code l → (k : ℕ) → k < length l → get_or l k 0 ≡ byte_of (length l) code k
unfolding lead digit
at_place {code} (one h) zero g = omega arith
at_place (one h) (suc k) g = absurd (omega arith)
at_place {code} (two l h) zero g = omega arith
at_place (two l h) (suc zero) g = refl
at_place (two l h) (suc (suc k)) g = absurd (omega arith)
at_place {code} (three l h) zero g = omega arith
at_place (three l h) (suc zero) g = refl
at_place (three l h) (suc (suc zero)) g = refl
at_place (three l h) (suc (suc (suc k))) g = absurd (omega arith)
at_place {code} (four l h) zero g = omega arith
at_place (four l h) (suc zero) g = refl
at_place (four l h) (suc (suc zero)) g = refl
at_place (four l h) (suc (suc (suc zero))) g = refl
at_place (four l h) (suc (suc (suc (suc k)))) g = absurd (omega arith)
at_place none k g = absurd (omega arith)

pub encode_at : (code k : ℕ) → k < length (encode code) → get_or (encode code) k 0 ≡ byte_of (length (encode code)) code k
encode_at code k h = at_place (written code) k h

-- ---- a code that is written in a byte or more
limit : {code : ℕ} {l : List ℕ} → Written code l → 0 < length l → code < 0x110000
limit (one h) g = omega arith
limit (two l h) g = omega arith
limit (three l h) g = omega arith
limit (four l h) g = omega arith
limit none g = absurd (omega arith)

pub code_limit : (code : ℕ) → 0 < length (encode code) → code < 0x110000
code_limit code h = limit (written code) h

pub digit_most : (code times : ℕ) → digit code times ≤ code
unfolding digit
digit_most code times =
    cond_ind (λ x. x ≤ code) (eqb times 0) _ _ (λ _. omega arith)
    (λ _. cond_ind (λ x. x ≤ code) (eqb times 1) _ _ (λ _. omega arith)
    (λ _. cond_ind (λ x. x ≤ code) (eqb times 2) _ _ (λ _. omega arith) (λ _. omega arith)))

pub lead_most : (n : ℕ) → lead n ≤ 0xF0
unfolding lead
lead_most n =
    cond_ind (λ x. x ≤ 0xF0) (eqb n 1) _ _ (λ _. omega arith)
    (λ _. cond_ind (λ x. x ≤ 0xF0) (eqb n 2) _ _ (λ _. omega arith)
    (λ _. cond_ind (λ x. x ≤ 0xF0) (eqb n 3) _ _ (λ _. omega arith) (λ _. omega arith)))
