-- Bounds of what is read of a body: no more characters than the text has bytes before the place, and no more than two bytes of the value for each.
use Prim.Native.Nat.{ℕ, ◌+◌, ◌*◌, ◌-◌, ◌^◌, ◌≤◌, ◌<◌}
use mathlib.Core.Path.{◌≡◌}
use mathlib.Core.Bool.{Bool, cond}
use native.Mathlib.Omega.{arith}
use lib.Dec.{eqb, lit<}
use lib.ListN.{length}
use borrow.Author.Tests.{ne_eqb}
use Rattle.basics.proofs.Choice.{cond_ind}
use Rattle.utf8.specs.declared.Char.{Char}
use Rattle.utf8.specs.Chars.{is_stray}
use Rattle.quotes.specs.declared.content.Content.{Content}
use Rattle.quotes.specs.declared.plain.Quote.{Quote}
use Rattle.quotes.specs.declared.plain.Quote.TheVariants.{Single, Double}
use Rattle.escapes.specs.Answers.{character, bytes_of}
use Rattle.quotes.specs.Steps.{quote_code, added, escape_piece, char_piece, plain_piece}

-- a quote is ASCII
pub quote_low : (q : Quote) → quote_code q < 0x80
quote_low Single = lit< tt
quote_low Double = lit< tt

-- before the first character there is no code
abbrev pub Fresh : Content → Type 0
Fresh q = cond (eqb q.count 0) 0 q.code ≡ q.code

-- what was read is no longer than the text before the place, and no more than two bytes of the value come of one
abbrev pub Within : ℕ → Content → Type 0
Within p q = (q.chars ≤ p) × (q.count ≤ p) × (q.strays ≤ p) × (q.bytes ≤ 2 * p) × Fresh q

-- ---- a piece that is written in n bytes
abbrev pub Sized : ℕ → Content → Type 0
Sized n x = (x.chars ≤ n) × (1 ≤ x.count) × (x.count ≤ n) × (x.strays ≤ n) × (x.bytes ≤ 2 * n)

pub escape_sized : (n code : ℕ) (byte : Bool) → 1 ≤ n → length (bytes_of (character code byte)) ≤ 2 * n → Sized n (escape_piece n code byte)
escape_sized n code byte h b = (omega arith, omega arith, h, omega arith, b)

pub char_sized : (c : Char) → 1 ≤ c.width → Sized c.width (char_piece c)
char_sized c h = (h, omega arith, h, cond_ind (λ (k : ℕ). k ≤ c.width) (is_stray c) 1 0 (λ _. h) (λ _. omega arith), omega arith)

pub plain_sized : (n code : ℕ) → 1 ≤ n → Sized n (plain_piece n code)
plain_sized n code h = (omega arith, h, omega arith, omega arith, omega arith)

module _ (p n L : ℕ) (q : Content) (x : Content) (w : Within p q) (z : Sized n x) (fit : p + n ≤ L) where
  added_fresh : Fresh (added q x)
  unfolding added
  added_fresh = rw (ne_eqb (q.count + x.count) 0 (λ e. omega arith))

  pub added_within : Within (p + n) (added q x) × ((added q x).chars ≤ L)
  unfolding added
  added_within = ((omega arith, omega arith, omega arith, omega arith, added_fresh), omega arith)

  -- no sum is too large where the text is shorter than half the numbers
  pub room_add : L < 2 ^ 63 → (q.chars + x.chars < 2 ^ 64) × (q.count + x.count < 2 ^ 64) × (q.strays + x.strays < 2 ^ 64) × (q.bytes + x.bytes < 2 ^ 64)
  room_add b = (omega arith, omega arith, omega arith, omega arith)

pub room_stop : (p L : ℕ) (q : Content) (n : ℕ) → Within p q → p + n ≤ L → L < 2 ^ 63 → q.chars + n < 2 ^ 64
room_stop p L q n w a b = omega arith

-- ---- sums at a place: stated by themselves, since `omega` is slow beside all that a loop knows
pub less : (p m L : ℕ) → p + m ≤ L → 1 ≤ m → L - (p + m) < L - p
less p m L a b = omega arith

pub one_le : (n : ℕ) → 1 ≤ n + 1
one_le n = omega arith

pub none_le : (n : ℕ) → 0 ≤ n
none_le n = omega arith

pub right_part : (p n L : ℕ) → p + n ≤ L → n ≤ L
right_part p n L h = omega arith

pub fit64 : (n L : ℕ) → n ≤ L → L < 2 ^ 63 → n < 2 ^ 64
fit64 n L a b = omega arith
