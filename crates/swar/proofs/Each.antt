-- Laws of a function on each byte of a number: sums, differences and bit operations are done byte by byte, as long as no byte overflows.
use Prim.Native.Nat.{ℕ, zero, suc, ◌+◌, ◌-◌, ◌*◌, ◌/◌, ◌%◌, ◌^◌, ◌≤◌, ◌<◌}
use mathlib.Core.Path.{◌≡◌, refl, ap, ap₂, ◌∙◌}
use native.Mathlib.Nat.{mod-lt, zero-lt-suc}
use native.Mathlib.Omega.{arith}
use lib.Arith.{digits_div, digits_mod}
use lib.Bits.{bit_and, bit_or, bit_xor, and_block, or_block, xor_block}
use lib.Dec.{T, ltb, ltb→lt}
use Rattle.basics.proofs.Every.{below, every_below}
use Rattle.swar.specs.Lanes.{lanes}
use Rattle.swar.proofs.Numbers.{byte_more}

-- each byte's answer is a byte
abbrev pub Small : (ℕ → ℕ) → Type 0
Small f = (b : ℕ) → b < 256 → f b < 256

rest : (w : ℕ) → w % 256 < 256
rest w = mod-lt w (zero-lt-suc 255)

pub lanes_next : (n : ℕ) (f : ℕ → ℕ) (w b : ℕ) → b < 256 → lanes (suc n) f (w * 256 + b) ≡ lanes n f w * 256 + f b
unfolding lanes
lanes_next n f w b h = rw (digits_div w h, digits_mod w h)

pub lanes_self : (n w : ℕ) → w < 2 ^ (8 * n) → lanes n (λ b. b) w ≡ w
unfolding lanes
lanes_self zero w h = omega arith
lanes_self (suc n) w h = rw (lanes_self n (w / 256) (omega (arith, byte_more n))) (omega arith)

-- one function after another
pub lanes_each : (f g : ℕ → ℕ) → Small g → (n w : ℕ) → lanes n f (lanes n g w) ≡ lanes n (λ b. f (g b)) w
unfolding lanes
lanes_each f g s zero w = refl
lanes_each f g s (suc n) w =
    lanes_next n f (lanes n g (w / 256)) (g (w % 256)) (s (w % 256) (rest w))
    ∙ ap (λ x. x * 256 + f (g (w % 256))) (lanes_each f g s n (w / 256))

module _ (f g : ℕ → ℕ) where
  pub lanes_same : (n w : ℕ) → ((b : ℕ) → b < 256 → f b ≡ g b) → lanes n f w ≡ lanes n g w
  unfolding lanes
  lanes_same zero w e = refl
  lanes_same (suc n) w e = ap₂ (λ x y. x * 256 + y) (lanes_same n (w / 256) e) (e (w % 256) (rest w))

  lanes_le : (n w : ℕ) → ((b : ℕ) → b < 256 → f b ≤ g b) → lanes n f w ≤ lanes n g w
  unfolding lanes
  lanes_le zero w l = omega arith
  lanes_le (suc n) w l = omega (arith, lanes_le n (w / 256) l, l (w % 256) (rest w))

  lanes_add : (n w : ℕ) → lanes n f w + lanes n g w ≡ lanes n (λ b. f b + g b) w
  unfolding lanes
  lanes_add zero w = refl
  lanes_add (suc n) w = omega (arith, lanes_add n (w / 256))

lanes_sub : (f g : ℕ → ℕ) (n w : ℕ) → ((b : ℕ) → b < 256 → g b ≤ f b) → lanes n f w - lanes n g w ≡ lanes n (λ b. f b - g b) w
unfolding lanes
lanes_sub f g zero w l = refl
lanes_sub f g (suc n) w l = omega (arith, lanes_sub f g n (w / 256) l, lanes_le g f n (w / 256) l, l (w % 256) (rest w))

module _ (f g : ℕ → ℕ) (s : Small f) (t : Small g) where
  pub lanes_and : (n w : ℕ) → bit_and (lanes n f w) (lanes n g w) ≡ lanes n (λ b. bit_and (f b) (g b)) w
  unfolding lanes
  lanes_and zero w = refl
  lanes_and (suc n) w =
      and_block 8 _ _ (f (w % 256)) (g (w % 256)) (s (w % 256) (rest w)) (t (w % 256) (rest w))
      ∙ ap (λ x. x * 256 + bit_and (f (w % 256)) (g (w % 256))) (lanes_and n (w / 256))

  pub lanes_or : (n w : ℕ) → bit_or (lanes n f w) (lanes n g w) ≡ lanes n (λ b. bit_or (f b) (g b)) w
  unfolding lanes
  lanes_or zero w = refl
  lanes_or (suc n) w =
      or_block 8 _ _ (f (w % 256)) (g (w % 256)) (s (w % 256) (rest w)) (t (w % 256) (rest w))
      ∙ ap (λ x. x * 256 + bit_or (f (w % 256)) (g (w % 256))) (lanes_or n (w / 256))

  lanes_xor : (n w : ℕ) → bit_xor (lanes n f w) (lanes n g w) ≡ lanes n (λ b. bit_xor (f b) (g b)) w
  unfolding lanes
  lanes_xor zero w = refl
  lanes_xor (suc n) w =
      xor_block 8 _ _ (f (w % 256)) (g (w % 256)) (s (w % 256) (rest w)) (t (w % 256) (rest w))
      ∙ ap (λ x. x * 256 + bit_xor (f (w % 256)) (g (w % 256))) (lanes_xor n (w / 256))

const_small : (k : ℕ) → k < 256 → Small (λ b. k)
const_small k h b l = h

lanes_const : (k w : ℕ) → k * 0x0101_0101_0101_0101 ≡ lanes 8 (λ b. k) w
unfolding lanes
lanes_const k w = omega arith

-- with one number in all of eight bytes
module _ (w : ℕ) (f : ℕ → ℕ) {x : ℕ} (e : x ≡ lanes 8 f w) where
  pub plus_all : (k : ℕ) → x + k * 0x0101_0101_0101_0101 ≡ lanes 8 (λ b. f b + k) w
  plus_all k = ap₂ (λ m n. m + n) e (lanes_const k w) ∙ lanes_add f (λ b. k) 8 w

  pub from_all : (k : ℕ) → ((b : ℕ) → b < 256 → f b ≤ k) → k * 0x0101_0101_0101_0101 - x ≡ lanes 8 (λ b. k - f b) w
  from_all k l = ap₂ (λ m n. m - n) (lanes_const k w) e ∙ lanes_sub (λ b. k) f 8 w l

  module _ (s : Small f) (k : ℕ) (h : k < 256) where
    pub and_all : bit_and x (k * 0x0101_0101_0101_0101) ≡ lanes 8 (λ b. bit_and (f b) k) w
    and_all = ap₂ bit_and e (lanes_const k w) ∙ lanes_and f (λ b. k) s (const_small k h) 8 w

    pub or_all : bit_or x (k * 0x0101_0101_0101_0101) ≡ lanes 8 (λ b. bit_or (f b) k) w
    or_all = ap₂ bit_or e (lanes_const k w) ∙ lanes_or f (λ b. k) s (const_small k h) 8 w

    pub xor_all : bit_xor x (k * 0x0101_0101_0101_0101) ≡ lanes 8 (λ b. bit_xor (f b) k) w
    xor_all = ap₂ bit_xor e (lanes_const k w) ∙ lanes_xor f (λ b. k) s (const_small k h) 8 w

-- what a test computes at each byte
pub small : (f : ℕ → ℕ) → T (below (λ b. ltb (f b) 256) 256) → Small f
small f t b h = ltb→lt (f b) 256 (every_below (λ b. ltb (f b) 256) 256 t b h)
