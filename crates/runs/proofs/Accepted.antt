-- What an accepted opening leaves.
use Prim.Native.Nat.{ℕ, ◌≤◌}
use mathlib.Core.Path.{◌≡◌, refl, sym, ap, ◌∙◌}
use mathlib.Core.Bool.{Bool, true, false, cond, not}
use mathlib.Core.List.{List, [], ◌∷◌}
use mathlib.Core.Option.{Option, some, none}
use native.Mathlib.Omega.{arith}
use native.Mathlib.Nat.{not-suc-le-zero}
use lib.Dec.{leb, ltb}
use lib.ListN.{length, take, set}
use borrow.Author.Tests.{leb-true, ltb-false, not-false}
use Rattle.basics.proofs.Choice.{and_split}
use Rattle.utf8.specs.Chars.{chars, well_formed, bytes_before}
use Rattle.refusal.specs.Outcome.{gave}
use Rattle.refusal.proofs.Outcomes.{refused_gave}
use Rattle.position.specs.Place.{in_range}
use Rattle.position.proofs.Lines.{FromZero}
use Rattle.errors.specs.Errors.{errors_of}
use Rattle.reading.specs.Reading.{opened}
use Rattle.state.specs.declared.state.State.{State}
use Rattle.state.specs.Fits.{file_of}
use Rattle.state.specs.State.{fresh}
use Rattle.opening.specs.Opening.{max_source, Begun, Opening, open_refused, sized, open_of}
use Rattle.scanner.specs.Scan.{view}
use Rattle.runs.specs.Calls.{Held, Accepted}
use Rattle.runs.proofs.Seen.{view_of}

-- an opening that gave passed this check
passed : (t : Bool) (number : ℕ) (place : Option ℕ) (table : List ℕ) (o r : Opening) {b : Begun} → r.outcome ≡ gave b → cond t (open_refused number place table) o ≡ r → (t ≡ false) × (o ≡ r)
passed true number place table o r g e = refused_gave (ap (λ (x : Opening). x.outcome) e ∙ g)
passed false number place table o r g e = (refl, e)

gave_same : {a b : Begun} → gave a ≡ gave b → a ≡ b
gave_same e = cc

first_written : (lent : List ℕ) → 1 ≤ length lent → FromZero (set lent 0 0)
first_written [] h = absurd (not-suc-le-zero h)
first_written (x ∷ lent) h = record { some = omega arith; first = refl }

take_one : (table : List ℕ) → FromZero table → take 1 table ≡ 0 ∷ []
take_one [] z = absurd (not-suc-le-zero z.some)
take_one (x ∷ table) z = ap (λ n. n ∷ []) z.first

view_fresh : (src : List ℕ) (base size : ℕ) (table list : List ℕ) → FromZero table → view src (fresh base size) table list ≡ opened (chars src)
unfolding view fresh errors_of
view_fresh src base size table list z = rw (take_one table z)

-- what its checks say, and what it wrote
record Checked (src : List ℕ) (base size : ℕ) (h : Held) : Type 0 where
  formed : well_formed src ≡ true
  sizes : sized (length (chars src)) base size ≡ true
  state : h.state ≡ fresh base size
  table : FromZero h.table

module _ {src : List ℕ} {base size : ℕ} {h : Held} where
  checked : Accepted src base size h → Checked src base size h
  unfolding open_of
  checked a =
      let r : Opening = record { table = h.table; outcome = gave (record { state = h.state; chars = length (chars src) }); place = none } in
      let p = passed (ltb max_source (length src)) 2 none a.lent _ r refl a.opening in
      let q = passed (not (well_formed src)) 1 (some (bytes_before (chars src))) a.lent _ r refl p.1 in
      let s = passed (not (sized (length (chars src)) base size)) 3 none a.lent _ r refl q.1 in
      let t = passed (ltb (length a.lent) 1) 7 none a.lent _ r refl s.1 in
      record {
        formed = not-false _ q.0;
        sizes = not-false _ s.0;
        state = ap (λ (b : Begun). b.state) (gave_same (sym (ap (λ (x : Opening). x.outcome) t.1)));
        table = rw (← ap (λ (x : Opening). x.table) t.1) (first_written a.lent (ltb-false _ _ t.0));
      }

  pub accepted_state : Accepted src base size h → h.state ≡ fresh base size
  accepted_state a = (checked a).state

  pub accepted_base : Accepted src base size h → h.state.base ≡ base
  unfolding fresh
  accepted_base a = ap (λ (s : State). s.base) (accepted_state a)

  pub accepted_size : Accepted src base size h → h.state.size ≡ size
  unfolding fresh
  accepted_size a = ap (λ (s : State). s.size) (accepted_state a)

  pub accepted_formed : Accepted src base size h → well_formed src ≡ true
  accepted_formed a = (checked a).formed

  pub accepted_fits : Accepted src base size h → length (chars src) ≤ size
  accepted_fits a = leb-true _ _ (and_split _ _ (checked a).sizes).0

  -- base + size is a position
  pub accepted_placed : Accepted src base size h → in_range (file_of h.state) ≡ true
  unfolding fresh
  accepted_placed a = rw (accepted_state a) (and_split (leb (length (chars src)) size) _ (checked a).sizes).1

  -- the table is not empty, and its first start is 0
  pub accepted_table : Accepted src base size h → FromZero h.table
  accepted_table a = (checked a).table

  pub accepted_view : Accepted src base size h → view_of src h ≡ opened (chars src)
  accepted_view a = rw (accepted_state a) (view_fresh src base size h.table h.list (accepted_table a))
