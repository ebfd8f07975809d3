-- Bytes below 128 are characters of their own.
use Prim.Native.Nat.{ℕ, zero, suc, ◌+◌, ◌≤◌, ◌<◌}
use mathlib.Core.Path.{◌≡◌, refl, ap, ◌∙◌}
use mathlib.Core.List.{List, [], ◌∷◌, map}
use native.Mathlib.Omega.{arith}
use native.Mathlib.Decide.{dec_lt}
use lib.ListN.{length, take, drop, get_or}
use Rattle.basics.proofs.Lists.{drop_next}
use Rattle.utf8.specs.Chars.{ended, chars}
use Rattle.utf8.proofs.First.{ascii, chars_at, chars_end, chars_ascii, low_byte}

abbrev pub AllLow : List ℕ → Type 0
AllLow [] = Unit
AllLow (b ∷ t) = (b < 0x80) × AllLow t

pub low_chars : (t : List ℕ) → AllLow t → chars t ≡ map ascii t
low_chars [] l = chars_end [] 0 (omega arith)
low_chars (b ∷ t) l = chars_ascii (b ∷ t) 0 (omega arith) l.0 ∙ ap (λ r. ascii b ∷ r) (low_chars t l.1)

-- the first n characters at a place of a source, and the bytes there
pub record Taken (n : ℕ) (s : List ℕ) (at : ℕ) : Type 0 where
  pub is : take n (chars (drop at s)) ≡ map ascii (take n (drop at s))
  pub lows : AllLow (take n (drop at s))
  pub size : length (take n (drop at s)) ≡ n

pub taken : (n : ℕ) (s : List ℕ) (at : ℕ) → n ≤ length (chars (drop at s)) → ((i : ℕ) → i < n → (get_or (chars (drop at s)) i ended).code < 0x80) → Taken n s at
taken zero s at h f = record { is = refl; lows = tt; size = refl }
taken (suc n) s at h f =
    elim (dec_lt at (length s)) [
      | yes l ↦
          let b = low_byte s at l (rw (chars_at s at l) at (f 0 (omega arith))) in
          let k = chars_ascii s at l b in
          let d = drop_next s at 0 l in
          let m = taken n s (at + 1) (omega (arith, ap length k, h)) (λ i g. rw k at (f (suc i) (omega arith))) in
          record { is = rw (k, d) (ap (λ r. ascii (get_or s at 0) ∷ r) m.is); lows = rw d (b, m.lows); size = rw d (ap suc m.size) }
      | no l ↦ absurd (omega (arith, h, ap length (chars_end s at (omega arith))))
    ]
