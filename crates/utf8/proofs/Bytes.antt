-- Laws of the tests on bytes: what the announced length leaves to be tested, and a sequence as facts on numbers.
use Prim.Native.Nat.{ℕ, ◌+◌, ◌-◌, ◌*◌, ◌≤◌, ◌<◌}
use mathlib.Core.Path.{◌≡◌, refl, sym, ap₂}
use mathlib.Core.Bool.{Bool, cond}
use native.Mathlib.Omega.{arith}
use lib.Dec.{ltb, eqb, eqb→eq, lit≤}
use lib.Count.{count_leading_zeros}
use borrow.Author.Tests.{ne_eqb, ltb-true, ltb-false, lt-ltb, le-ltb, le-leb, lt-leb, eqb-true, eqb-false}
use Rattle.basics.specs.Between.{between}
use Rattle.basics.proofs.Choice.{cond_ind, between_true}
use Rattle.basics.proofs.Every.{every_below}
use Rattle.utf8.specs.Bytes.{announced}
use Rattle.utf8.specs.Steps.{is_tail, low, high, second, sequence}

-- the length by the count of leading ones
abbrev pub by_ones : ℕ → ℕ
by_ones n = cond (eqb n 0) 1 (cond (eqb n 1) 0 (cond (ltb n 5) n 0))

right : ℕ → Bool
right b = eqb (by_ones (count_leading_zeros 8 (255 - b))) (announced b)

pub announced_by_ones : (b : ℕ) → b < 256 → by_ones (count_leading_zeros 8 (255 - b)) ≡ announced b
unfolding right count_leading_zeros announced
announced_by_ones b h = eqb→eq _ _ (every_below right 256 tt b h)

-- the length that each test of the count leaves
module _ (b : ℕ) (h : b < 256) where
  pub no_ones : count_leading_zeros 8 (255 - b) ≡ 0 → announced b ≡ 1
  no_ones e = sym (rw e at (announced_by_ones b h))

  pub one_one : count_leading_zeros 8 (255 - b) ≡ 1 → announced b ≡ 0
  one_one e = sym (rw e at (announced_by_ones b h))

  pub few_ones : (count_leading_zeros 8 (255 - b) ≡ 0 → ⊥) → (count_leading_zeros 8 (255 - b) ≡ 1 → ⊥) → count_leading_zeros 8 (255 - b) < 5
      → announced b ≡ count_leading_zeros 8 (255 - b)
  few_ones z o e = sym (simp (ne_eqb _ _ z, ne_eqb _ _ o, lt-ltb _ _ e) at (announced_by_ones b h))

  pub many_ones : 5 ≤ count_leading_zeros 8 (255 - b) → announced b ≡ 0
  many_ones l =
      let z : count_leading_zeros 8 (255 - b) ≡ 0 → ⊥ = λ e. omega arith in
      let o : count_leading_zeros 8 (255 - b) ≡ 1 → ⊥ = λ e. omega arith in
      sym (simp (ne_eqb _ _ z, ne_eqb _ _ o, le-ltb _ _ l) at (announced_by_ones b h))

pub ruleset lengths = (no_ones, one_one, few_ones, many_ones)

-- ---- a length by a test
pub picks : {t t' : Bool} {x x' : ℕ} → t ≡ t' → x ≡ x' → cond t x 0 ≡ cond t' x' 0
picks p q = ap₂ (λ (b : Bool) (n : ℕ). cond b n 0) p q

-- ---- bounds of the second byte, by the first
pub low_least : (a : ℕ) → 0x80 ≤ low a
unfolding low
low_least a =
    cond_ind (λ n. 0x80 ≤ n) (eqb a 0xE0) 0xA0 (cond (eqb a 0xF0) 0x90 0x80) (λ e. lit≤ tt)
    (λ e. cond_ind (λ n. 0x80 ≤ n) (eqb a 0xF0) 0x90 0x80 (λ e. lit≤ tt) (λ e. lit≤ tt))

pub high_most : (a : ℕ) → high a ≤ 0xBF
unfolding high
high_most a =
    cond_ind (λ n. n ≤ 0xBF) (eqb a 0xED) 0x9F (cond (eqb a 0xF4) 0x8F 0xBF) (λ e. lit≤ tt)
    (λ e. cond_ind (λ n. n ≤ 0xBF) (eqb a 0xF4) 0x8F 0xBF (λ e. lit≤ tt) (λ e. lit≤ tt))

pub low_e0 : (a : ℕ) → 0xE0 ≤ a → 0xA0 ≤ low a + (a - 0xE0) * 32
unfolding low
low_e0 a h =
    cond_ind (λ n. 0xA0 ≤ n + (a - 0xE0) * 32) (eqb a 0xE0) 0xA0 (cond (eqb a 0xF0) 0x90 0x80) (λ e. omega arith)
    (λ e. let l : 0xE0 < a = omega (arith, eqb-false a 0xE0 e) in
    cond_ind (λ n. 0xA0 ≤ n + (a - 0xE0) * 32) (eqb a 0xF0) 0x90 0x80 (λ e. omega arith) (λ e. omega arith))

pub low_f0 : (a : ℕ) → 0xF0 ≤ a → 0x90 ≤ low a + (a - 0xF0) * 16
unfolding low
low_f0 a h =
    cond_ind (λ n. 0x90 ≤ n + (a - 0xF0) * 16) (eqb a 0xE0) 0xA0 (cond (eqb a 0xF0) 0x90 0x80) (λ e. omega arith)
    (λ e. cond_ind (λ n. 0x90 ≤ n + (a - 0xF0) * 16) (eqb a 0xF0) 0x90 0x80 (λ e. omega arith) (λ f. omega (arith, eqb-false a 0xF0 f)))

pub high_ed : (a : ℕ) → a ≤ 0xED → high a ≤ 0x9F + (0xED - a) * 32
unfolding high
high_ed a h =
    cond_ind (λ n. n ≤ 0x9F + (0xED - a) * 32) (eqb a 0xED) 0x9F (cond (eqb a 0xF4) 0x8F 0xBF) (λ e. omega arith)
    (λ e. let l : a < 0xED = omega (arith, eqb-false a 0xED e) in
    cond_ind (λ n. n ≤ 0x9F + (0xED - a) * 32) (eqb a 0xF4) 0x8F 0xBF (λ e. omega arith) (λ e. omega arith))

pub high_f4 : (a : ℕ) → a ≤ 0xF4 → high a ≤ 0x8F + (0xF4 - a) * 48
unfolding high
high_f4 a h =
    cond_ind (λ n. n ≤ 0x8F + (0xF4 - a) * 48) (eqb a 0xED) 0x9F (cond (eqb a 0xF4) 0x8F 0xBF) (λ e. omega (arith, eqb-true a 0xED e))
    (λ e. cond_ind (λ n. n ≤ 0x8F + (0xF4 - a) * 48) (eqb a 0xF4) 0x8F 0xBF (λ f. omega arith) (λ f. let l : a < 0xF4 = omega (arith, eqb-false a 0xF4 f) in omega arith))

pub low_fits : (a b : ℕ) → 0x80 ≤ b → (a ≡ 0xE0 → 0xA0 ≤ b) → (a ≡ 0xF0 → 0x90 ≤ b) → low a ≤ b
unfolding low
low_fits a b h e f =
    cond_ind (λ n. n ≤ b) (eqb a 0xE0) 0xA0 (cond (eqb a 0xF0) 0x90 0x80) (λ t. e (eqb-true a 0xE0 t))
    (λ t. cond_ind (λ n. n ≤ b) (eqb a 0xF0) 0x90 0x80 (λ u. f (eqb-true a 0xF0 u)) (λ u. h))

pub high_fits : (a b : ℕ) → b ≤ 0xBF → (a ≡ 0xED → b ≤ 0x9F) → (a ≡ 0xF4 → b ≤ 0x8F) → b ≤ high a
unfolding high
high_fits a b h e f =
    cond_ind (λ n. b ≤ n) (eqb a 0xED) 0x9F (cond (eqb a 0xF4) 0x8F 0xBF) (λ t. e (eqb-true a 0xED t))
    (λ t. cond_ind (λ n. b ≤ n) (eqb a 0xF4) 0x8F 0xBF (λ u. f (eqb-true a 0xF4 u)) (λ u. h))

-- ---- what four bytes begin with, as facts on numbers
pub data View (a b c d : ℕ) : ℕ → Type 0 where
  none : View a b c d 0
  one : a < 0x80 → View a b c d 1
  two : 0xC2 ≤ a → a ≤ 0xDF → 0x80 ≤ b → b ≤ 0xBF → View a b c d 2
  three : 0xE0 ≤ a → a ≤ 0xEF → low a ≤ b → b ≤ high a → 0x80 ≤ c → c ≤ 0xBF → View a b c d 3
  four : 0xF0 ≤ a → a ≤ 0xF4 → low a ≤ b → b ≤ high a → 0x80 ≤ c → c ≤ 0xBF → 0x80 ≤ d → d ≤ 0xBF → View a b c d 4

pub view : (a b c d : ℕ) → View a b c d (sequence a b c d)
unfolding sequence
view a b c d =
    cond_ind (View a b c d) (ltb a 0x80) _ _ (λ e. one (ltb-true a 0x80 e))
    (λ _. cond_ind (View a b c d) (between 0xC2 a 0xDF) _ _
    (λ e. cond_ind (View a b c d) (is_tail b) _ _
    (λ f. let p = between_true 0xC2 a 0xDF e in let q = between_true 0x80 b 0xBF f in two p.0 p.1 q.0 q.1) (λ _. none))
    (λ _. cond_ind (View a b c d) (between 0xE0 a 0xEF) _ _
    (λ e. cond_ind (View a b c d) (second a b) _ _
    (λ f. cond_ind (View a b c d) (is_tail c) _ _
    (λ g. let p = between_true 0xE0 a 0xEF e in let q = between_true (low a) b (high a) f in let r = between_true 0x80 c 0xBF g in
    three p.0 p.1 q.0 q.1 r.0 r.1) (λ _. none)) (λ _. none))
    (λ _. cond_ind (View a b c d) (between 0xF0 a 0xF4) _ _
    (λ e. cond_ind (View a b c d) (second a b) _ _
    (λ f. cond_ind (View a b c d) (is_tail c) _ _
    (λ g. cond_ind (View a b c d) (is_tail d) _ _
    (λ h. let p = between_true 0xF0 a 0xF4 e in let q = between_true (low a) b (high a) f in let r = between_true 0x80 c 0xBF g in let s = between_true 0x80 d 0xBF h in
    four p.0 p.1 q.0 q.1 r.0 r.1 s.0 s.1) (λ _. none)) (λ _. none)) (λ _. none)) (λ _. none))))

-- the other way: the facts give the length
pub sequence_one : (a b c d : ℕ) → a < 0x80 → sequence a b c d ≡ 1
unfolding sequence
sequence_one a b c d h = simp (lt-ltb a 0x80 h)

pub sequence_two : (a b c d : ℕ) → 0xC2 ≤ a → a ≤ 0xDF → 0x80 ≤ b → b ≤ 0xBF → sequence a b c d ≡ 2
unfolding sequence
sequence_two a b c d p q r s =
    simp (le-ltb a 0x80 (omega arith), le-leb 0xC2 a p, le-leb a 0xDF q, le-leb 0x80 b r, le-leb b 0xBF s)

pub sequence_three : (a b c d : ℕ) → 0xE0 ≤ a → a ≤ 0xEF → low a ≤ b → b ≤ high a → 0x80 ≤ c → c ≤ 0xBF → sequence a b c d ≡ 3
unfolding sequence
sequence_three a b c d p q r s t u =
    simp (
      le-ltb a 0x80 (omega arith),
      le-leb 0xC2 a (omega arith),
      lt-leb a 0xDF (omega arith),
      le-leb 0xE0 a p,
      le-leb a 0xEF q,
      le-leb (low a) b r,
      le-leb b (high a) s,
      le-leb 0x80 c t,
      le-leb c 0xBF u,
    )

pub sequence_four : (a b c d : ℕ) → 0xF0 ≤ a → a ≤ 0xF4 → low a ≤ b → b ≤ high a → 0x80 ≤ c → c ≤ 0xBF → 0x80 ≤ d → d ≤ 0xBF → sequence a b c d ≡ 4
unfolding sequence
sequence_four a b c d p q r s t u v w =
    simp (
      le-ltb a 0x80 (omega arith),
      le-leb 0xC2 a (omega arith),
      lt-leb a 0xDF (omega arith),
      le-leb 0xE0 a (omega arith),
      lt-leb a 0xEF (omega arith),
      le-leb 0xF0 a p,
      le-leb a 0xF4 q,
      le-leb (low a) b r,
      le-leb b (high a) s,
      le-leb 0x80 c t,
      le-leb c 0xBF u,
      le-leb 0x80 d v,
      le-leb d 0xBF w,
    )

-- ---- the length that a first byte announces
pub record Lead (a n : ℕ) : Type 0 where
  pub most : n ≤ 4
  pub zero : n ≡ 0 → (0x80 ≤ a) × (0xC0 ≤ a → 0xF8 ≤ a)
  pub one : n ≡ 1 → a < 0x80
  pub two : n ≡ 2 → (0xC0 ≤ a) × (a < 0xE0)
  pub three : n ≡ 3 → (0xE0 ≤ a) × (a < 0xF0)
  pub four : n ≡ 4 → (0xF0 ≤ a) × (a < 0xF8)

pub lead : (a : ℕ) → Lead a (announced a)
unfolding announced
lead a =
    cond_ind (Lead a) (ltb a 0x80) _ _ (λ e. omega (arith, ltb-true a 0x80 e))
    (λ e. cond_ind (Lead a) (ltb a 0xC0) _ _ (λ f. omega (arith, ltb-false a 0x80 e, ltb-true a 0xC0 f))
    (λ f. cond_ind (Lead a) (ltb a 0xE0) _ _ (λ g. omega (arith, ltb-false a 0xC0 f, ltb-true a 0xE0 g))
    (λ g. cond_ind (Lead a) (ltb a 0xF0) _ _ (λ h. omega (arith, ltb-false a 0xE0 g, ltb-true a 0xF0 h))
    (λ h. cond_ind (Lead a) (ltb a 0xF8) _ _ (λ i. omega (arith, ltb-false a 0xF0 h, ltb-true a 0xF8 i))
    (λ i. omega (arith, ltb-false a 0xF8 i))))))

-- and what is left of the table's tests then
view_zero : {a b c d n : ℕ} → View a b c d n → 0x80 ≤ a → (0xC0 ≤ a → 0xF8 ≤ a) → n ≡ 0
view_zero none p f = refl
view_zero (one h) p f = absurd (omega arith)
view_zero (two h k l m) p f = absurd (omega (arith, f (omega arith)))
view_zero (three h k l m n o) p f = absurd (omega (arith, f (omega arith)))
view_zero (four h k l m n o q r) p f = absurd (omega (arith, f (omega arith)))

pub sequence_at_zero : (a b c d : ℕ) → announced a ≡ 0 → sequence a b c d ≡ 0
sequence_at_zero a b c d e = let l = (lead a).zero e in view_zero (view a b c d) l.0 l.1

pub sequence_at_two : (a b c d : ℕ) → announced a ≡ 2 → sequence a b c d ≡ cond (between 0xC2 a 0xDF) (cond (is_tail b) 2 0) 0
unfolding sequence
sequence_at_two a b c d e =
    let l = (lead a).two e in simp (le-ltb a 0x80 (omega arith), lt-leb 0xE0 a (omega arith), lt-leb 0xF0 a (omega arith))

pub sequence_at_three : (a b c d : ℕ) → announced a ≡ 3 → sequence a b c d ≡ cond (second a b) (cond (is_tail c) 3 0) 0
unfolding sequence
sequence_at_three a b c d e =
    let l = (lead a).three e in
    simp (le-ltb a 0x80 (omega arith), le-leb 0xC2 a (omega arith), lt-leb a 0xDF (omega arith), le-leb 0xE0 a (omega arith), le-leb a 0xEF (omega arith))

pub sequence_at_four : (a b c d : ℕ) → announced a ≡ 4
    → sequence a b c d ≡ cond (between 0xF0 a 0xF4) (cond (second a b) (cond (is_tail c) (cond (is_tail d) 4 0) 0) 0) 0
unfolding sequence
sequence_at_four a b c d e =
    let l = (lead a).four e in
    simp (le-ltb a 0x80 (omega arith), le-leb 0xC2 a (omega arith), lt-leb a 0xDF (omega arith), le-leb 0xE0 a (omega arith), lt-leb a 0xEF (omega arith))
