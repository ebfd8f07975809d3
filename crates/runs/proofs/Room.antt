-- Behind an accepted opening a scan is refused for want of room alone: by 7, 8 or 9, never by 6 or 3.
use Prim.Native.Nat.{ℕ, zero, suc, ◌+◌, ◌≤◌}
use mathlib.Core.Path.{◌≡◌, refl, ◌∙◌}
use mathlib.Core.Bool.{true}
use mathlib.Core.List.{List, [], ◌∷◌}
use native.Mathlib.Omega.{arith}
use lib.ListN.{length, drop, length-drop}
use borrow.Author.Tests.{leb-true, le-ltb}
use Rattle.utf8.specs.Chars.{chars}
use Rattle.utf8.proofs.Places.{place_chars}
use Rattle.position.specs.Place.{in_range}
use Rattle.position.proofs.Place.{Fit as FileFit, fit_true}
use Rattle.errors.specs.Errors.{room_of}
use Rattle.lexer.specs.Lexeme.{Lexeme, taken}
use Rattle.lexer.specs.Lex.{lex}
use Rattle.lexer.specs.Placed.{Placed, placed}
use Rattle.lexer.proofs.Laws.{lex_laws}
use Rattle.reading.specs.Reading.{Reading, after}
use Rattle.reading.specs.Run.{scanned, next}
use Rattle.state.specs.declared.state.State.{State}
use Rattle.state.specs.Fits.{file_of, fits}
use Rattle.state.specs.State.{fresh}
use Rattle.scanner.specs.Scan.{view, written, token_start, to_area, token_of, refusal_of, ScanLeft, with_error, state_of, gave_by, unless, scan_by, scan_of}
use Rattle.scanner.proofs.Scans.{Held as Holds}
use Rattle.scanner.proofs.Fitting.{fits_held, held_after, passes}
use Rattle.runs.specs.Calls.{Held, Accepted, call, left, play}
use Rattle.runs.specs.Progress.{wants}
use Rattle.runs.proofs.Seen.{view_of}
use Rattle.runs.proofs.Accepted.{accepted_state, accepted_fits, accepted_placed, accepted_table}

-- what goes from call to call goes together with the source, and the size has room for what is left to read
pub record Fit (src : List ℕ) (h : Held) : Type 0 where
  pub holds : Holds h.state src h.table h.list
  pub rest : h.state.offset + length (chars (drop h.state.place src)) ≤ h.state.size

pub fit_fits : (src : List ℕ) (h : Held) → Fit src h → fits h.state src h.table h.list ≡ true
fit_fits src h f = fits_held h.state src h.table h.list f.holds (omega (arith, f.rest))

-- ---- an accepted opening
pub fit_accepted : {src : List ℕ} {base size : ℕ} {h : Held} → Accepted src base size h → Fit src h
unfolding fresh in_range
fit_accepted {src} {base} {size} {h} a =
    let e = accepted_state a in
    let z = accepted_table a in
    let g : FileFit (file_of h.state) h.table = record { top = leb-true _ _ (accepted_placed a); some = rw e (omega arith); held = rw e z.some; first = z.first } in
    record {
      holds =
          record {
            fitted = fit_true _ _ g;
            offset = rw e (omega arith);
            last = rw (e, z.first) (omega arith);
            line = rw (e, z.first);
            place = rw e (omega arith);
            errors = rw e (omega arith);
          };
      rest = rw e (omega (arith, accepted_fits a));
    }

-- ---- a lexeme
-- what it leaves fits, where the buffers have room for it
module _ (src : List ℕ) (h : Held) (f : Fit src h) (y : Lexeme) (bound : taken y ≤ length (view_of src h).rest) where
  abbrev v : Reading
  v = after h.state.size y (view_of src h)

  fit_after : length v.lines ≤ length h.table → length v.errors ≤ room_of h.list
      → Fit src (record { state = state_of h.state v; table = written v.lines h.table; list = with_error y.error h.state.errors h.list v })
  unfolding after view
  fit_after in_table inList =
      let s = h.state in
      record {
        holds = held_after src s h.table h.list f.holds y bound in_table inList;
        rest = rw (place_chars (taken y) src s.place) (omega (arith, length-drop (taken y) (chars (drop s.place src)), bound, f.rest));
      }

-- ---- a call
-- what a call leaves is what it was lent, or what its lexeme leaves
left_cases : (P : Held → Type 0) (n : ℕ) (a : ScanLeft) (h : Held) (area : List ℕ) → P h → (n ≡ 0 → P (left a)) → P (left (unless n a h.state h.table h.list area))
left_cases P zero a h area f g = g refl
left_cases P (suc n) a h area f g = f

unless_refusal : (n : ℕ) (a : ScanLeft) (h : Held) (area : List ℕ) → a.answer.refusal ≡ 0 → (unless n a h.state h.table h.list area).answer.refusal ≡ n
unless_refusal zero a h area e = e
unless_refusal (suc n) a h area e = refl

module _ (src : List ℕ) (h : Held) (f : Fit src h) where
  abbrev s : State
  s = h.state

  -- how far the source has been read, what is read there and how it stands in the source, and how far the source is read then
  abbrev r : Reading
  r = view_of src h

  abbrev x : Lexeme
  x = scanned lex r

  abbrev p : Placed
  p = placed src (token_start r x) x

  abbrev u : Reading
  u = next lex s.size r

  bound : taken x ≤ length r.rest
  unfolding scanned
  bound = lex_laws.bound _ _

  pub next_sized : u.offset ≤ s.size
  unfolding next after view
  next_sized = omega (arith, f.rest, bound)

  module _ (area : List ℕ) where
    abbrev gives : ScanLeft
    gives = gave_by s p (token_of s.base (token_start r x) r p) u h.table h.list area

    abbrev refusal : ℕ
    refusal = refusal_of (fits s src h.table h.list) s.size u (length h.table) (room_of h.list) (length (to_area p)) (length area)

    refusal_is : refusal ≡ wants src h area
    refusal_is = rw (fit_fits src h f, le-ltb _ _ next_sized)

    pub call_wants : (call src area h).answer.refusal ≡ wants src h area
    unfolding call scan_of scan_by next scanned
    call_wants = unless_refusal refusal gives h area refl ∙ refusal_is

    pub fit_call : Fit src (left (call src area h))
    unfolding call scan_of scan_by next scanned placed
    fit_call =
        left_cases (Fit src) refusal gives h area f (λ z.
        let q = passes (fits s src h.table h.list) s.size u (length h.table) (room_of h.list) (length (to_area p)) (length area) z in
        fit_after src h f x bound q.2 q.3)

-- ---- calls
pub fit_play : (src : List ℕ) (areas : List (List ℕ)) (h : Held) → Fit src h → Fit src (play src areas h)
unfolding play
fit_play src [] h f = f
fit_play src (area ∷ areas) h f = fit_play src areas (left (call src area h)) (fit_call src h f area)

pub only_room : (src : List ℕ) (base size : ℕ) (h : Held) → Accepted src base size h → (areas : List (List ℕ)) (area : List ℕ)
    → (call src area (play src areas h)).answer.refusal ≡ wants src (play src areas h) area
only_room src base size h a areas area = call_wants src (play src areas h) (fit_play src areas h (fit_accepted a)) area
