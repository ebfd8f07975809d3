-- A list of calls with buffers is the run with no bound: the calls that give a token are its scans, and a refused one changes nothing.
use Prim.Native.Nat.{ℕ, zero, suc, ◌+◌, ◌*◌, ◌≤◌, ◌<◌}
use mathlib.Core.Path.{◌≡◌, refl, sym, ap, ◌∙◌, subst}
use mathlib.Core.Bool.{Bool, true, false, cond}
use mathlib.Core.List.{List, [], ◌∷◌, ◌++◌, append-nil}
use mathlib.Core.Logic.{◌⊎◌, inl, inr, ⊎_elim}
use native.Mathlib.Omega.{arith}
use lib.Dec.{eqb}
use lib.ListN.{length, drop, length-append, length-drop}
use lib.Seq.{sets, take-append_seam}
use borrow.Author.Tests.{ne_eqb}
use Rattle.utf8.specs.Chars.{chars}
use Rattle.utf8.proofs.Places.{place_chars, place_fits}
use Rattle.kinds.specs.Kinds.{STRING}
use Rattle.errors.specs.declared.layout.Error.{Error}
use Rattle.errors.specs.Layout.{width, numbers}
use Rattle.errors.specs.Errors.{errors_of, room_of}
use Rattle.errors.proofs.Records.{error_written}
use Rattle.errors.proofs.Laws.{errors_length, errors_kept}
use Rattle.lexer.specs.Lexeme.{Lexeme}
use Rattle.lexer.specs.Lex.{lex}
use Rattle.lexer.specs.Placed.{Placed, placed}
use Rattle.lexer.proofs.LexLaws.{Moves}
use Rattle.lexer.proofs.Laws.{lex_laws}
use Rattle.reading.specs.Reading.{Reading, error_at, after}
use Rattle.reading.specs.Run.{scanned, next, run, token, token_at}
use Rattle.reading.proofs.Runs.{run_shift}
use Rattle.reading.proofs.Ending.{reading_path}
use Rattle.state.specs.declared.state.State.{State}
use Rattle.state.specs.Fits.{fits}
use Rattle.scanner.specs.Scan.{view, token_start, to_area, token_of, refusal_of, ScanLeft, refused_by, gave_by, unless, scan_by, scan_of}
use Rattle.scanner.proofs.Scans.{Held as Fitting, held}
use Rattle.scanner.proofs.Fitting.{passes}
use Rattle.runs.specs.Calls.{Held, call, left, Seen, seen_in, given, play, tokens}
use Rattle.runs.proofs.Seen.{seen_of, firsts, view_of, seen_at}
use Rattle.runs.proofs.Shown.{text_shown_lem, value_shown}

-- ---- the errors that it leaves: those that were there, and the lexeme's if it has one
errors_left : (t : Bool) (n : ℕ) (list : List ℕ) (e : Error) → length (errors_of n list ++ cond t [] (e ∷ [])) ≤ room_of list
    → errors_of (length (errors_of n list ++ cond t [] (e ∷ []))) (cond t list (sets list (n * width) (numbers e))) ≡ errors_of n list ++ cond t [] (e ∷ [])
unfolding errors_of
errors_left true n list e h = rw (append-nil (errors_of n list), errors_length n list)
errors_left false n list e h =
    let l : length (errors_of n list ++ (e ∷ [])) ≡ suc n = length-append (errors_of n list) (e ∷ []) ∙ omega (arith, errors_length n list) in
    rw (l, errors_kept n list (n * width) (numbers e) (omega arith), error_written list (n * width) e (omega (arith, l)))

-- a string is read: only an inserted semicolon reads nothing
string_moves : (m : Bool) (x : Lexeme) → Moves m x → x.kind ≡ STRING → 0 < x.len
string_moves m x (inl a) e = a.0
string_moves m x (inr a) e = absurd (omega (arith, a.4))

-- ---- one call
module _ (src area : List ℕ) (h : Held) where
  abbrev s : State
  s = h.state

  -- how far the source has been read, the token there and how it stands in the source, and how far the source is read then
  abbrev pub r : Reading
  r = view_of src h

  abbrev pub x : Lexeme
  x = scanned lex r

  abbrev start : ℕ
  start = token_start r x

  abbrev p : Placed
  p = placed src start x

  abbrev pub u : Reading
  u = next lex s.size r

  abbrev pub gives : ScanLeft
  gives = gave_by s p (token_of s.base start r p) u h.table h.list area

  -- nothing, or one scan
  abbrev Did : ScanLeft → Type 0
  Did a =
      ((left a ≡ h) × (given src a ≡ []))
      ⊎ ((view_of src (left a) ≡ u) × (given src a ≡ seen_of src (token s.base x r) ∷ []) × ((left a).state.base ≡ s.base) × ((left a).state.size ≡ s.size))

  pub view_left : length u.errors ≤ room_of h.list → view_of src (left gives) ≡ u
  unfolding view next after placed scanned
  view_left room =
      reading_path (view_of src (left gives)) u (place_chars (x.skipped + x.len) src s.place) refl refl (take-append_seam u.lines _) refl
      (errors_left (eqb x.error 0) s.errors h.list (error_at x.error u.offset u.line) room) refl

  module _ (k : Fitting s src h.table h.list) where
    start_fits : start ≤ length src
    unfolding view
    start_fits = place_fits x.skipped src s.place k.place

    string_read : x.kind ≡ STRING → 0 < x.len
    unfolding scanned
    string_read e = string_moves r.mark x (lex_laws.moves r.mark r.rest (λ z. omega arith)) e

    len_fits : x.len ≤ length (chars (drop start src))
    unfolding scanned view
    len_fits =
        omega (arith, lex_laws.bound r.mark r.rest, ap length (place_chars x.skipped src s.place), length-drop x.skipped r.rest)

    seen_left : seen_in src gives ≡ seen_of src (token s.base x r)
    unfolding seen_of token placed
    seen_left =
        λ i. record {
          token = token_of s.base start r p;
          text = text_shown_lem src start x area start_fits i;
          value = value_shown src start x area start_fits string_read len_fits i;
        }

  abbrev refusal : ℕ
  refusal = refusal_of (fits s src h.table h.list) s.size u (length h.table) (room_of h.list) (length (to_area p)) (length area)

  -- a call is refused, or gives the token that is read
  abbrev Came : ScanLeft → Type 0
  Came a =
      ((n : ℕ) × (a ≡ refused_by (suc n) s h.table h.list area))
      ⊎ ((a ≡ gives) × Fitting s src h.table h.list × (length u.errors ≤ room_of h.list))

  pub came : Came (call src area h)
  unfolding call scan_of scan_by scanned next
  came = go refusal refl
    where
      go : (n : ℕ) → refusal ≡ n → Came (unless n gives s h.table h.list area)
      go zero e =
          let q = passes (fits s src h.table h.list) s.size u (length h.table) (room_of h.list) (length (to_area p)) (length area) e in
          inr (refl, held s src h.table h.list q.0, q.3)
      go (suc n) e = inl (n, refl)

  did : Did (call src area h)
  did =
      ⊎_elim (λ c. subst Did (sym c.1) (inl (refl, rw (ne_eqb (suc c.0) 0 (λ z. omega arith)))))
      (λ c. subst Did (sym c.0) (inr (view_left c.2, ap (λ (t : Seen). t ∷ []) (seen_left c.1), refl, refl))) came

-- ---- the first k of a sequence
firsts_shift : {A : Type 0} (f : ℕ → A) (k : ℕ) → firsts f (suc k) ≡ f 0 ∷ firsts (λ i. f (suc i)) k
unfolding firsts
firsts_shift f zero = refl
firsts_shift f (suc k) = ap (λ l. l ++ (f (suc k) ∷ [])) (firsts_shift f k)

length_firsts : {A : Type 0} (f : ℕ → A) (k : ℕ) → length (firsts f k) ≡ k
unfolding firsts
length_firsts f zero = refl
length_firsts f (suc k) = length-append (firsts f k) _ ∙ omega (arith, length_firsts f k)

-- ---- calls that left g and gave ts are k scans from h on
record Plays (src : List ℕ) (h g : Held) (ts : List Seen) (k : ℕ) : Type 0 where
  view : view_of src g ≡ run lex h.state.size (view_of src h) k
  tokens : ts ≡ firsts (seen_at src h) k
  base : g.state.base ≡ h.state.base
  size : g.state.size ≡ h.state.size

-- one scan before them
module _ (src : List ℕ) (h m : Held) (v : view_of src m ≡ next lex h.state.size (view_of src h)) (b : m.state.base ≡ h.state.base) (z : m.state.size ≡ h.state.size) where
  seen_shift : (i : ℕ) → seen_at src m i ≡ seen_at src h (suc i)
  unfolding token_at
  seen_shift i =
      (λ j. seen_of src (token_at lex (b j) (z j) (v j) i))
      ∙ ap (λ (u : Reading). seen_of src (token h.state.base (scanned lex u) u)) (run_shift lex h.state.size (view_of src h) i)

  plays_more : (g : Held) (ts : List Seen) (k : ℕ) → Plays src m g ts k → Plays src h g (seen_at src h 0 ∷ ts) (suc k)
  plays_more g ts k q =
      record {
        view = q.view ∙ (λ j. run lex (z j) (v j) k) ∙ run_shift lex h.state.size (view_of src h) k;
        tokens = ap (λ l. seen_at src h 0 ∷ l) (q.tokens ∙ (λ j. firsts (λ i. seen_shift i j) k)) ∙ sym (firsts_shift (seen_at src h) k);
        base = q.base ∙ b;
        size = q.size ∙ z;
      }

plays : (src : List ℕ) (areas : List (List ℕ)) (h : Held) → (k : ℕ) × Plays src h (play src areas h) (tokens src areas h) k
unfolding play tokens run firsts token_at
plays src [] h = (0, record { view = refl; tokens = refl; base = refl; size = refl })
plays src (area ∷ areas) h = go (call src area h) (did src area h) (plays src areas (left (call src area h)))
  where
    go : (a : ScanLeft) → Did src area h a → (k : ℕ) × Plays src (left a) (play src areas (left a)) (tokens src areas (left a)) k
        → (k : ℕ) × Plays src h (play src areas (left a)) (given src a ++ tokens src areas (left a)) k
    go a (inl d) q = (q.0, rw d.1 (subst (λ g. Plays src g (play src areas (left a)) (tokens src areas (left a)) q.0) d.0 q.1))
    go a (inr d) q = (suc q.0, rw d.1 (plays_more src h (left a) d.0 d.2 d.3 (play src areas (left a)) (tokens src areas (left a)) q.0 q.1))

-- ---- any calls
count : (src : List ℕ) (areas : List (List ℕ)) (h : Held) → (plays src areas h).0 ≡ length (tokens src areas h)
count src areas h = let q = plays src areas h in sym (ap length q.1.tokens ∙ length_firsts (seen_at src h) q.0)

-- how far they have read the source
pub played_view : (src : List ℕ) (areas : List (List ℕ)) (h : Held) → view_of src (play src areas h) ≡ run lex h.state.size (view_of src h) (length (tokens src areas h))
played_view src areas h = (plays src areas h).1.view ∙ ap (run lex h.state.size (view_of src h)) (count src areas h)

-- the tokens that they gave
pub played_tokens : (src : List ℕ) (areas : List (List ℕ)) (h : Held) → tokens src areas h ≡ firsts (seen_at src h) (length (tokens src areas h))
played_tokens src areas h = (plays src areas h).1.tokens ∙ ap (firsts (seen_at src h)) (count src areas h)
