-- Marks of bytes, as the tests of all eight at once compute them.
use Prim.Native.Nat.{ℕ, ◌+◌, ◌-◌, ◌*◌, ◌/◌, ◌%◌, ◌^◌, ◌<◌, min}
use mathlib.Core.Path.{◌≡◌, refl, sym, ap, ap₂, ◌∙◌}
use mathlib.Core.Bool.{Bool, true, false, cond, ◌&&◌, ◌||◌}
use native.Mathlib.Decide.{dec_lt}
use native.Mathlib.Omega.{arith}
use lib.Bits.{bit_and, bit_or, bit_xor, and_lt, xor_lt, mask_lt, and_mask, and_high, and_shr, and_le_l, and_le_r, xor_self, xor_add_and}
use lib.Dec.{eqb, ltb, leb, eqb→eq}
use borrow.Author.Tests.{eqb-true, eqb-false, ne_eqb, lt-ltb, le-ltb, leb-true, leb-false}
use Rattle.basics.proofs.Every.{every_below}
use Rattle.swar.specs.Lanes.{lanes}
use Rattle.swar.specs.Marks.{mark, ascii_between}
use Rattle.swar.proofs.Each.{Small, small, lanes_self, lanes_same, lanes_each, lanes_and, lanes_or, plus_all, from_all, and_all, xor_all}

-- ---- two tests
either_mark : (v w : Bool) → bit_or (cond v 0x80 0) (cond w 0x80 0) ≡ cond (v || w) 0x80 0
either_mark true true = refl
either_mark true false = refl
either_mark false true = refl
either_mark false false = refl

pub mark_small : (t : ℕ → Bool) → Small (mark t)
mark_small t b l = go (t b)
  where
    go : (v : Bool) → cond v 0x80 0 < 256
    go true = omega arith
    go false = omega arith

pub marks_or : (t u : ℕ → Bool) (w : ℕ) → bit_or (lanes 8 (mark t) w) (lanes 8 (mark u) w) ≡ lanes 8 (mark (λ b. t b || u b)) w
marks_or t u w =
    lanes_or (mark t) (mark u) (mark_small t) (mark_small u) 8 w
    ∙ lanes_same (λ b. bit_or (mark t b) (mark u b)) (mark (λ b. t b || u b)) 8 w (λ b _. either_mark (t b) (u b))

-- ---- how bytes differ from one byte
abbrev pub differ : ℕ → ℕ → ℕ
differ x b = bit_xor b x

pub differ_small : (x : ℕ) → x < 256 → Small (differ x)
differ_small x h b l = xor_lt 8 b x l h

pub xor_zero : (a k : ℕ) → bit_xor a k ≡ 0 → a ≡ k
xor_zero a k e = omega (arith, xor_add_and a k, and_le_l a k, and_le_r a k)

pub differ_each : (w x : ℕ) → w < 2 ^ 64 → x < 256 → bit_xor w (x * 0x0101_0101_0101_0101) ≡ lanes 8 (differ x) w
differ_each w x h l = xor_all w (λ b. b) (sym (lanes_self 8 w h)) (λ b l. l) x l

-- ---- the test for one byte: what differs from it in no bit
abbrev zero_mark : ℕ → ℕ
zero_mark b = bit_and (0xFF - bit_or (bit_and b 0x7F + 0x7F) b) 0x80

zero_right : (b : ℕ) → b < 256 → zero_mark b ≡ mark (λ b. eqb b 0) b
zero_right b h = eqb→eq _ _ (every_below (λ b. eqb (zero_mark b) (mark (λ b. eqb b 0) b)) 256 tt b h)

module _ (w : ℕ) (h : w < 2 ^ 64) where
  self : w ≡ lanes 8 (λ b. b) w
  self = sym (lanes_self 8 w h)

  low_each : bit_and w 0x7F7F_7F7F_7F7F_7F7F ≡ lanes 8 (λ b. bit_and b 0x7F) w
  low_each = and_all w (λ b. b) self (λ b l. l) 0x7F (omega arith)

  zeros_each : bit_and (0xFFFF_FFFF_FFFF_FFFF - bit_or (bit_and w 0x7F7F_7F7F_7F7F_7F7F + 0x7F7F_7F7F_7F7F_7F7F) w) 0x8080_8080_8080_8080 ≡ lanes 8 (mark (λ b. eqb b 0)) w
  zeros_each =
      let sums = plus_all w (λ b. bit_and b 0x7F) low_each 0x7F in
      let or = ap₂ bit_or sums self ∙ lanes_or (λ b. bit_and b 0x7F + 0x7F) (λ b. b) (small (λ b. bit_and b 0x7F + 0x7F) tt) (λ b l. l) 8 w in
      let small_or = small (λ b. bit_or (bit_and b 0x7F + 0x7F) b) tt in
      let not = from_all w (λ b. bit_or (bit_and b 0x7F + 0x7F) b) or 0xFF (λ b l. omega (arith, small_or b l)) in
      and_all w (λ b. 0xFF - bit_or (bit_and b 0x7F + 0x7F) b) not (λ b l. omega arith) 0x80 (omega arith)
      ∙ lanes_same zero_mark (mark (λ b. eqb b 0)) 8 w zero_right

  pub high_each : bit_and w 0x8080_8080_8080_8080 ≡ lanes 8 (mark (ltb 0x7F)) w
  high_each =
      and_all w (λ b. b) self (λ b l. l) 0x80 (omega arith)
      ∙ lanes_same (λ b. bit_and b 0x80) (mark (ltb 0x7F)) 8 w (λ b l. eqb→eq _ _ (every_below (λ b. eqb (bit_and b 0x80) (mark (ltb 0x7F) b)) 256 tt b l))

same_byte : (x b : ℕ) → mark (λ b. eqb b 0) (differ x b) ≡ mark (λ b. eqb b x) b
same_byte x b = go (eqb b x) refl
  where
    go : (t : Bool) → eqb b x ≡ t → ◌≡◌ {A = ℕ} (cond (eqb (differ x b) 0) 0x80 0) (cond t 0x80 0)
    go true e = let z : differ x b ≡ 0 = ap (differ x) (eqb-true b x e) ∙ xor_self x in rw z refl
    go false e = rw (ne_eqb (differ x b) 0 (λ z. eqb-false b x e (xor_zero b x z))) refl

module _ (w : ℕ) (h : w < 2 ^ 64) (x : ℕ) (l : x < 256) where
  pub byte_each : bit_and (0xFFFF_FFFF_FFFF_FFFF - bit_or (bit_and (bit_xor w (x * 0x0101_0101_0101_0101)) 0x7F7F_7F7F_7F7F_7F7F + 0x7F7F_7F7F_7F7F_7F7F) (bit_xor w (x * 0x0101_0101_0101_0101))) 0x8080_8080_8080_8080 ≡ lanes 8 (mark (λ b. eqb b x)) w
  byte_each =
      zeros_each (bit_xor w (x * 0x0101_0101_0101_0101)) (xor_lt 64 w (x * 0x0101_0101_0101_0101) h (omega arith))
      ∙ ap (lanes 8 (mark (λ b. eqb b 0))) (differ_each w x h l)
      ∙ lanes_each (mark (λ b. eqb b 0)) (differ x) (differ_small x l) 8 w
      ∙ lanes_same (λ b. mark (λ b. eqb b 0) (differ x b)) (mark (λ b. eqb b x)) 8 w (λ b _. same_byte x b)

-- ---- the test for ASCII bytes from one to another, by the top bits of a sum, a difference and a complement
module _ (first last m n : ℕ) (e : m ≡ min first 0x80) (f : n ≡ min last 0x7F) where
  abbrev at_least : ℕ → ℕ
  at_least b = bit_and b 0x7F + (0x80 - m)

  abbrev at_most : ℕ → ℕ
  at_most b = 0x80 + n - bit_and b 0x7F

  least_small : Small at_least
  least_small b l = omega (arith, mask_lt b 7)

  most_small : Small at_most
  most_small b l = omega (arith, f)

  abbrev both : ℕ → ℕ
  both b = bit_and (at_least b) (at_most b)

  both_small : Small both
  both_small b l = and_lt 8 (at_least b) (at_most b) (least_small b l) (most_small b l)

  abbrev all : ℕ → ℕ
  all b = bit_and (both b) (0xFF - b)

  all_small : Small all
  all_small b l = and_lt 8 (both b) (0xFF - b) (both_small b l) (omega arith)

  least_top : (b : ℕ) → b < 0x80 → (b + (0x80 - m)) / 2 ^ 7 ≡ cond (leb first b) 1 0
  least_top b l = go (leb first b) refl
    where
      go : (t : Bool) → leb first b ≡ t → (b + (0x80 - m)) / 2 ^ 7 ≡ cond t 1 0
      go true k = omega (arith, e, leb-true first b k)
      go false k = omega (arith, e, leb-false first b k)

  most_top : (b : ℕ) → b < 0x80 → (0x80 + n - b) / 2 ^ 7 ≡ cond (leb b last) 1 0
  most_top b l = go (leb b last) refl
    where
      go : (t : Bool) → leb b last ≡ t → (0x80 + n - b) / 2 ^ 7 ≡ cond t 1 0
      go true k = omega (arith, f, leb-true b last k)
      go false k = omega (arith, f, leb-false b last k)

  tops : (b : ℕ) → bit_and (all b) 0x80 ≡ bit_and (bit_and (at_least b / 2 ^ 7) (at_most b / 2 ^ 7)) ((0xFF - b) / 2 ^ 7) % 2 * 128
  tops b =
      and_high (all b) 1 7
      ∙ ap (λ x. x % 2 * 128) (and_shr (both b) (0xFF - b) 7 ∙ ap (λ x. bit_and x ((0xFF - b) / 2 ^ 7)) (and_shr (at_least b) (at_most b) 7))

  found : (b : ℕ) → b < 256 → bit_and (all b) 0x80 ≡ mark (ascii_between first last) b
  found b l =
      tops b
      ∙ elim (dec_lt b 0x80) [
        | yes k ↦
            let same : bit_and b 0x7F ≡ b = and_mask b 7 ∙ omega arith in
            let top : (0xFF - b) / 2 ^ 7 ≡ 1 = omega arith in
            rw (same, least_top b k, most_top b k, top, lt-ltb b 0x80 k) (two (leb first b) (leb b last))
        | no k ↦
            let top : (0xFF - b) / 2 ^ 7 ≡ 0 = omega arith in
            rw (top, le-ltb b 0x80 (omega arith)) (omega (arith, and_le_r (bit_and (at_least b / 2 ^ 7) (at_most b / 2 ^ 7)) 0))
      ]
    where
      two : (v w : Bool) → bit_and (bit_and (cond v 1 0) (cond w 1 0)) 1 % 2 * 128 ≡ cond (v && w) 0x80 0
      two true true = refl
      two true false = refl
      two false true = refl
      two false false = refl

  pub between_each : (w : ℕ) → w < 2 ^ 64 → bit_and (bit_and (bit_and (bit_and w 0x7F7F_7F7F_7F7F_7F7F + (0x80 - m) * 0x0101_0101_0101_0101) ((0x80 + n) * 0x0101_0101_0101_0101 - bit_and w 0x7F7F_7F7F_7F7F_7F7F)) (0xFFFF_FFFF_FFFF_FFFF - w)) 0x8080_8080_8080_8080 ≡ lanes 8 (mark (ascii_between first last)) w
  between_each w h =
      let least = plus_all w (λ b. bit_and b 0x7F) (low_each w h) (0x80 - m) in
      let most = from_all w (λ b. bit_and b 0x7F) (low_each w h) (0x80 + n) (λ b l. omega (arith, mask_lt b 7)) in
      let both_all = ap₂ bit_and least most ∙ lanes_and at_least at_most least_small most_small 8 w in
      let not = from_all w (λ b. b) (self w h) 0xFF (λ b l. omega arith) in
      let three = ap₂ bit_and both_all not ∙ lanes_and both (λ b. 0xFF - b) both_small (λ b l. omega arith) 8 w in
      and_all w all three all_small 0x80 (omega arith) ∙ lanes_same (λ b. bit_and (all b) 0x80) (mark (ascii_between first last)) 8 w found
