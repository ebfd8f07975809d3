-- What opening comes to, case by case.
use Prim.Native.Nat.{ℕ, ◌≤◌, ◌<◌}
use mathlib.Core.Path.{◌≡◌, refl, ap}
use mathlib.Core.Bool.{Bool, true, false, cond, and-false}
use mathlib.Core.List.{List}
use mathlib.Core.Option.{some, none}
use native.Mathlib.Omega.{arith}
use lib.ListN.{length, set}
use borrow.Author.Tests.{le-leb, lt-leb, lt-ltb, le-ltb}
use Rattle.utf8.specs.Chars.{chars, well_formed, bytes_before}
use Rattle.validation.specs.Answers.{Checking, valid, not_utf8, checked_of}
use Rattle.refusal.specs.Outcome.{gave}
use Rattle.position.specs.Place.{in_range}
use Rattle.state.specs.Fits.{file_of}
use Rattle.state.specs.State.{fresh}
use Rattle.opening.specs.Opening.{max_source, open_refused, begun_of, open_of}

-- the two answers of a check, taken apart
valid_split : (t : Bool) (m place : ℕ) {n : ℕ} → valid n ≡ cond t (valid m) (not_utf8 place) → (t ≡ true) × (m ≡ n)
valid_split true m place e = let o = ap (λ (x : Checking). x.outcome) e in (refl, cc)
valid_split false m place e = let o = ap (λ (x : Checking). x.outcome) e in let z : ◌≡◌ {A = ℕ} 0 1 = cc in absurd (omega arith)

bad_split : (t : Bool) (m place : ℕ) {at : ℕ} → not_utf8 at ≡ cond t (valid m) (not_utf8 place) → (t ≡ false) × (place ≡ at)
bad_split true m place e = let o = ap (λ (x : Checking). x.outcome) e in let z : ◌≡◌ {A = ℕ} 0 1 = cc in absurd (omega arith)
bad_split false m place e = let o = ap (λ (x : Checking). x.place) e in (refl, cc)

module _ (base size : ℕ) (table : List ℕ) where
  module _ (n : ℕ) where
    pub begin_small : size < n → begun_of n base size table ≡ open_refused 3 none table
    begin_small h = rw (lt-leb _ _ h)

    -- the file of the first state is the one whose base + size is tested
    pub begin_high : in_range (file_of (fresh base size)) ≡ false → begun_of n base size table ≡ open_refused 3 none table
    unfolding fresh
    begin_high h = rw (h, and-false)

    module _ (h : n ≤ size) (g : in_range (file_of (fresh base size)) ≡ true) where
      pub begin_full : length table ≡ 0 → begun_of n base size table ≡ open_refused 7 none table
      unfolding fresh
      begin_full z = rw (le-leb _ _ h, g, z)

      pub begin_ready : (length table ≡ 0 → ⊥) → begun_of n base size table
          ≡ record { table = set table 0 0; outcome = gave (record { state = fresh base size; chars = n }); place = none }
      unfolding fresh
      begin_ready z = rw (le-leb _ _ h, g, le-ltb (length table) 1 (omega arith))

  module _ (src : List ℕ) where
    pub open_long : max_source < length src → open_of src base size table ≡ open_refused 2 none table
    unfolding open_of
    open_long h = rw (lt-ltb _ _ h)

    module _ (short : length src ≤ max_source) where
      pub open_bad : {at : ℕ} → not_utf8 at ≡ checked_of src → open_of src base size table ≡ open_refused 1 (some at) table
      unfolding open_of
      open_bad e =
          let b = bad_split (well_formed src) (length (chars src)) (bytes_before (chars src)) e in
          rw (le-ltb _ _ short, b.0, b.1)

      pub open_begun : {n : ℕ} → valid n ≡ checked_of src → open_of src base size table ≡ begun_of n base size table
      unfolding open_of
      open_begun e =
          let b = valid_split (well_formed src) (length (chars src)) (bytes_before (chars src)) e in
          rw (le-ltb _ _ short, b.0, b.1)
