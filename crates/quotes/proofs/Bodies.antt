-- Laws of a body over its characters: what is skipped, and the size of its value.
use Prim.Native.Nat.{ℕ, zero, suc, ◌+◌, ◌*◌, ◌≤◌}
use mathlib.Core.Path.{◌≡◌, refl, sym}
use mathlib.Core.Bool.{true, false, cond, true≢false, false≢true}
use mathlib.Core.List.{List, [], ◌∷◌}
use mathlib.Core.Logic.{◌≢◌, ⊎_elim}
use native.Mathlib.Omega.{arith}
use native.Mathlib.Nat.{zero-add, suc-add}
use lib.Dec.{eqb, lit≤}
use lib.ListN.{length, take, drop, length-append}
use borrow.Author.Tests.{eqb-true}
use Rattle.basics.proofs.Choice.{cond_ind, either, and_split}
use Rattle.utf8.specs.declared.Char.{Char}
use Rattle.utf8.specs.Chars.{octets, encode, is_stray, widths}
use Rattle.errors.specs.Numbers.{OPEN_QUOTE}
use Rattle.escapes.specs.Answers.{Meaning, character, no_character, bytes_of}
use Rattle.escapes.specs.Escape.{escape_of}
use Rattle.escapes.proofs.Meanings.{HasError, escape_error}
use Rattle.quotes.specs.Body.{Body, ends, plain, escape, body_from, body}

pub body_skip : (quote k : ℕ) (r : List Char) → body_from quote k r ≡ body quote (drop k r)
unfolding body_from
body_skip quote zero r = refl
body_skip quote (suc k) [] = refl
body_skip quote (suc k) (c ∷ r) = body_skip quote k r

pub widths_split : (n m : ℕ) (r : List Char) → widths (take (n + m) r) ≡ widths (take n r) + widths (take m (drop n r))
widths_split zero m r = rw (zero-add m) (sym (zero-add (widths (take m r))))
widths_split (suc n) zero [] = rw (suc-add n 0)
widths_split (suc n) (suc m) [] = rw (suc-add n (suc m))
widths_split (suc n) m (c ∷ r) = rw (suc-add n m) (omega (arith, widths_split n m r))

-- ---- the value has two bytes more than it has stray bytes, for each of them
stray_size : (c : Char) → 2 * cond (is_stray c) 1 0 ≤ length (encode c.code)
unfolding encode octets
stray_size c =
    ⊎_elim
    (λ (t : is_stray c ≡ true). let q = and_split (eqb c.width 1) (eqb c.code 0xFFFD) t in rw (t, eqb-true c.code 0xFFFD q.1) (lit≤ tt))
    (λ (t : is_stray c ≡ false). rw t (omega arith))
    (either (is_stray c))

plain_size : (c : Char) (b : Body) → 2 * b.strays ≤ length b.value → 2 * (plain c b).strays ≤ length (plain c b).value
plain_size c b h = omega (arith, stray_size c, length-append (encode c.code) b.value)

escape_size : (n : ℕ) (g : Meaning) (b : Body) → 2 * b.strays ≤ length b.value → 2 * (escape n g b).strays ≤ length (escape n g b).value
escape_size n (no_character error) b h = lit≤ tt
escape_size n (character code byte) b h = omega (arith, length-append (bytes_of (character code byte)) b.value)

abbrev Roomy : Body → Type 0
Roomy b = 2 * b.strays ≤ length b.value

pub strays_fit : (quote : ℕ) (r : List Char) (k : ℕ) → Roomy (body_from quote k r)
unfolding body_from
strays_fit quote [] k = lit≤ tt
strays_fit quote (c ∷ r) (suc k) = strays_fit quote r k
strays_fit quote (c ∷ r) zero =
    cond_ind Roomy (eqb c.code quote) _ _ (λ _. lit≤ tt)
    (λ _. cond_ind Roomy (eqb c.code 10) _ _ (λ _. lit≤ tt)
    (λ _. cond_ind Roomy (eqb c.code 92) _ _
    (λ _. escape_size _ (escape_of quote r).meaning (body_from quote (escape_of quote r).len r) (strays_fit quote r (escape_of quote r).len)) (λ _. plain_size c (body_from quote 0 r) (strays_fit quote r 0))))

-- ---- a body is closed or has an error, and not both
abbrev Sound : Body → Type 0
Sound b = (b.closed ≡ true → b.error ≡ 0) × (b.closed ≡ false → b.error ≢ 0)

sound_open : (n error : ℕ) → error ≢ 0 → Sound (ends n false error)
sound_open n error e = (λ c. absurd (false≢true c), λ _. e)

escape_sound : (n : ℕ) (g : Meaning) (b : Body) → HasError g → Sound b → Sound (escape n g b)
escape_sound n (no_character error) b e s = sound_open n error e
escape_sound n (character code byte) b e s = s

from_sound : (quote : ℕ) (r : List Char) (k : ℕ) → Sound (body_from quote k r)
unfolding body_from
from_sound quote [] k = sound_open 0 OPEN_QUOTE (λ e. omega arith)
from_sound quote (c ∷ r) (suc k) = from_sound quote r k
from_sound quote (c ∷ r) zero =
    let n = (escape_of quote r).len in
    cond_ind Sound (eqb c.code quote) _ _ (λ _. (λ _. refl, λ e. absurd (true≢false e)))
    (λ _. cond_ind Sound (eqb c.code 10) _ _ (λ _. sound_open 0 OPEN_QUOTE (λ e. omega arith))
    (λ _. cond_ind Sound (eqb c.code 92) _ _
    (λ _. escape_sound (suc n) (escape_of quote r).meaning (body_from quote n r) (escape_error quote r) (from_sound quote r n)) (λ _. from_sound quote r 0)))

pub closed_sound : (quote : ℕ) (r : List Char) → (body quote r).closed ≡ true → (body quote r).error ≡ 0
closed_sound quote r = (from_sound quote r 0).0

pub open_error : (quote : ℕ) (r : List Char) → (body quote r).closed ≡ false → (body quote r).error ≢ 0
open_error quote r = (from_sound quote r 0).1
