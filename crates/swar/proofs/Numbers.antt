-- Laws of the number that bytes are: a byte more, its size, its first bytes, and that it tells words of one length apart.
use Prim.Native.Nat.{ℕ, zero, suc, ◌+◌, ◌-◌, ◌*◌, ◌%◌, ◌^◌, ◌≤◌, ◌<◌}
use mathlib.Core.Path.{◌≡◌, refl, ap, ap₂, ◌∙◌}
use mathlib.Core.List.{List, [], ◌∷◌}
use native.Mathlib.Nat.{add-zero, mod-one, zero-mod, lt_of_lt_of_le}
use native.Mathlib.Omega.{arith}
use lib.Arith.{digits_lt, digits_div, digits_mod, mod-mul}
use lib.Bits.{bit_and, and_mask}
use lib.Dec.{T, ltb, lit<, leb→le}
use lib.ListN.{length, take, drop, get_or, length-drop}
use lib.Pow.{pow-add, pow_mono, pow_pos, are_bytes}
use lib.Seq.{take-nil, take-take, get_or-drop}
use Rattle.basics.proofs.Choice.{and_left, and_right}
use Rattle.swar.specs.Number.{number_of}

-- each element is a byte
abbrev pub Bytes : List ℕ → Type 0
Bytes s = (i : ℕ) → get_or s i 0 < 256

pub bytes_of : (s : List ℕ) → T (are_bytes s) → Bytes s
bytes_of [] t i = lit< tt
bytes_of (x ∷ s) t zero = leb→le (suc x) 256 (and_left (ltb x 256) (are_bytes s) t)
bytes_of (x ∷ s) t (suc i) = bytes_of s (and_right (ltb x 256) (are_bytes s) t) i

pub bytes_take : (n : ℕ) (s : List ℕ) → Bytes s → Bytes (take n s)
bytes_take zero s h i = lit< tt
bytes_take (suc n) [] h i = lit< tt
bytes_take (suc n) (x ∷ s) h zero = h zero
bytes_take (suc n) (x ∷ s) h (suc i) = bytes_take n s (λ j. h (suc j)) i

pub bytes_drop : (n : ℕ) (s : List ℕ) → Bytes s → Bytes (drop n s)
bytes_drop n s h i = rw get_or-drop (h (n + i))

pub number_next : (s : List ℕ) (i n : ℕ) → number_of (take (suc n) (drop i s)) ≡ number_of (take n (drop (suc i) s)) * 256 + get_or s i 0
unfolding number_of
number_next [] zero n = rw (take-nil {A = ℕ} n)
number_next [] (suc i) n = rw (take-nil {A = ℕ} n)
number_next (x ∷ s) zero n = refl
number_next (x ∷ s) (suc i) n = number_next s i n

number_drop : (s : List ℕ) (i : ℕ) → number_of (drop i s) ≡ number_of (drop (suc i) s) * 256 + get_or s i 0
unfolding number_of
number_drop [] zero = refl
number_drop [] (suc i) = refl
number_drop (x ∷ s) zero = refl
number_drop (x ∷ s) (suc i) = number_drop s i

-- from the byte i on to the one before it
pub number_before : (s : List ℕ) (i : ℕ) → 0 < i → number_of (drop (i - 1) s) ≡ number_of (drop i s) * 256 + get_or s (i - 1) 0
number_before s i l = let e : suc (i - 1) ≡ i = omega arith in rw (number_drop s (i - 1), e)

first_eight : (s : List ℕ) → number_of (take 8 s) ≡ get_or s 0 0 + get_or s 1 0 * 0x100 + get_or s 2 0 * 0x1_0000 + get_or s 3 0 * 0x100_0000 + get_or s 4 0 * 0x1_0000_0000 + get_or s 5 0 * 0x100_0000_0000 + get_or s 6 0 * 0x1_0000_0000_0000 + get_or s 7 0 * 0x100_0000_0000_0000
unfolding number_of
first_eight s = omega (arith, number_next s 0 7, number_next s 1 6, number_next s 2 5, number_next s 3 4, number_next s 4 3, number_next s 5 2, number_next s 6 1, number_next s 7 0)

-- eight bytes in their places
pub number_eight : (s : List ℕ) (p : ℕ) → number_of (take 8 (drop p s)) ≡ get_or s p 0 + get_or s (p + 1) 0 * 0x100 + get_or s (p + 2) 0 * 0x1_0000 + get_or s (p + 3) 0 * 0x100_0000 + get_or s (p + 4) 0 * 0x1_0000_0000 + get_or s (p + 5) 0 * 0x100_0000_0000 + get_or s (p + 6) 0 * 0x1_0000_0000_0000 + get_or s (p + 7) 0 * 0x100_0000_0000_0000
number_eight s p =
    let byte : (k : ℕ) → get_or (drop p s) k 0 ≡ get_or s (p + k) 0 = λ k. get_or-drop p s k 0 in
    rw (byte 0, byte 1, byte 2, byte 3, byte 4, byte 5, byte 6, byte 7, add-zero p) at (first_eight (drop p s))

pub byte_more : (n : ℕ) → 2 ^ (8 * suc n) ≡ 2 ^ (8 * n) * 256
byte_more n = let e : 8 * suc n ≡ 8 * n + 8 = omega arith in rw e (pow-add 2 (8 * n) 8)

number_bound : (s : List ℕ) → Bytes s → number_of s < 2 ^ (8 * length s)
unfolding number_of
number_bound [] h = lit< tt
number_bound (x ∷ s) h = rw (byte_more (length s)) (digits_lt (number_bound s (λ i. h (suc i))) (h zero))

number_fits : (s : List ℕ) → Bytes s → length s ≤ 8 → number_of s < 2 ^ 64
number_fits s h l = lt_of_lt_of_le (number_bound s h) (pow_mono {j = 64} (omega arith))

-- the number of at most eight bytes at a text's end fits 64 bits
pub last_fits : (s : List ℕ) (i : ℕ) → Bytes s → length s ≤ i + 8 → number_of (drop i s) < 2 ^ 64
last_fits s i h l = number_fits (drop i s) (bytes_drop i s h) (omega (arith, length-drop i s))

number_take : (n : ℕ) (s : List ℕ) → Bytes s → number_of s % 2 ^ (8 * n) ≡ number_of (take n s)
unfolding number_of
number_take zero s h = mod-one (number_of s)
number_take (suc n) [] h = zero-mod (2 ^ (8 * suc n))
number_take (suc n) (x ∷ s) h =
    rw (
      byte_more n,
      mod-mul (number_of s * 256 + x) (pow_pos (8 * n)) (lit< tt),
      digits_div (number_of s) (h zero),
      digits_mod (number_of s) (h zero),
      number_take n s (λ i. h (suc i)),
    )

-- of eight bytes a remainder has the first n
pub number_mod : (s : List ℕ) (n : ℕ) → Bytes s → n ≤ 8 → number_of (take 8 s) % 2 ^ (8 * n) ≡ number_of (take n s)
number_mod s n h l = number_take n (take 8 s) (bytes_take 8 s h) ∙ ap number_of (take-take n 8 s l)

-- and so a mask cuts them out
pub number_mask : (s : List ℕ) (n : ℕ) → Bytes s → n ≤ 8 → bit_and (number_of (take 8 s)) (2 ^ (8 * n) - 1) ≡ number_of (take n s)
number_mask s n h l = and_mask (number_of (take 8 s)) (8 * n) ∙ number_mod s n h l

pub number_injective : (a b : List ℕ) → Bytes a → Bytes b → length a ≡ length b → number_of a ≡ number_of b → a ≡ b
unfolding number_of
number_injective [] [] f g l e = refl
number_injective [] (y ∷ b) f g l e = absurd (omega arith)
number_injective (x ∷ a) [] f g l e = absurd (omega arith)
number_injective (x ∷ a) (y ∷ b) f g l e =
    ap₂ (λ h t. h ∷ t) (omega (arith, f zero, g zero))
    (number_injective a b (λ i. f (suc i)) (λ i. g (suc i)) (omega arith) (omega (arith, f zero, g zero)))
