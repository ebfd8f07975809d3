-- A scan that gives an INT or a FLOAT gives a text for which `is_given` holds.
use Prim.Native.Nat.{ℕ, zero, suc, ◌+◌, ◌≤◌}
use mathlib.Core.Path.{◌≡◌, refl, sym, ap, ◌∙◌}
use mathlib.Core.Bool.{true, cond}
use mathlib.Core.List.{List}
use mathlib.Core.Logic.{inl, inr, ⊎_elim}
use native.Mathlib.Omega.{arith}
use lib.Dec.{eqb}
use lib.ListN.{length}
use borrow.Author.Tests.{eqb-true, eq-eqb, le-leb}
use Rattle.basics.proofs.Choice.{either}
use Rattle.utf8.proofs.Places.{place_fits}
use Rattle.kinds.specs.Kinds.{INT, FLOAT}
use Rattle.position.specs.Place.{max_position}
use Rattle.position.proofs.Place.{fit}
use Rattle.errors.specs.Errors.{room_of}
use Rattle.lexer.specs.Lexeme.{Lexeme}
use Rattle.lexer.specs.Lex.{lex}
use Rattle.lexer.specs.Placed.{Placed, placed}
use Rattle.reading.specs.Reading.{Reading, after}
use Rattle.state.specs.declared.state.State.{State}
use Rattle.state.specs.Fits.{file_of, fits}
use Rattle.parts.specs.Shown.{Shown}
use Rattle.parts.specs.Text.{text_shown}
use Rattle.scanner.specs.Scan.{view, token_start, to_area, token_of, refusal_of, ScanLeft, gave_by, unless, scan_by, scan_of}
use Rattle.scanner.proofs.Scans.{Held, held}
use Rattle.scanner.proofs.Fitting.{passes}
use Rattle.runs.proofs.Shown.{text_shown_lem}
use Rattle.quantity_query.specs.Given.{is_real, starts_octal, most_bytes, is_given}
use Rattle.quantity_scans.specs.Scans.{ScanGives}
use Rattle.quantity_scans.proofs.Zeros.{Real}
use Rattle.quantity_scans.proofs.Texts.{ReadAgain}
use Rattle.quantity_scans.proofs.Lexed.{lexed_again}

-- ---- kinds
pub real_is : (kind : ℕ) → is_real kind ≡ true → Real kind
real_is kind t = ⊎_elim (λ e. inl (eqb-true kind INT e)) (λ f. inr (eqb-true kind FLOAT (rw f at t))) (either (eqb kind INT))

-- ---- a text that is read again
given_again : (kind n : ℕ) (t : List ℕ) → is_real kind ≡ true → n ≤ max_position → ReadAgain kind n t → is_given kind t ≡ true
unfolding is_given
given_again kind n t k h a =
    rw (k, a.starts, eq-eqb _ _ a.kind_is, eq-eqb _ _ a.all, a.plain) (le-leb (length t) (most_bytes t) (within max_position (cond (starts_octal t) 1 0) h a.size))
  where
    within : (most more : ℕ) → n ≤ most → length t ≤ n + more → length t ≤ most + more
    within most more h g = omega arith

-- ---- a scan
module _ (src : List ℕ) (s : State) (table list area : List ℕ) where
  -- how far the source has been read, the token there and how it stands in the source, and how far
  -- the source is read then
  abbrev pub r : Reading
  r = view src s table list

  abbrev pub x : Lexeme
  x = lex r.mark r.rest

  abbrev pub start : ℕ
  start = token_start r x

  abbrev pub p : Placed
  p = placed src start x

  abbrev pub u : Reading
  u = after s.size x r

  abbrev pub refusal : ℕ
  refusal = refusal_of (fits s src table list) s.size u (length table) (room_of list) (length (to_area p)) (length area)

  abbrev pub gives : ScanLeft
  gives = gave_by s p (token_of s.base start r p) u table list area

  -- the token's text is the lexeme's
  pub gives_text : start ≤ length src → text_shown src gives.area gives.answer.token ≡ record { bytes = x.text; refusal = 0 }
  gives_text h = text_shown_lem src start x area h

  pub gave : refusal ≡ 0 → scan_of src s table list area ≡ gives
  unfolding scan_of scan_by
  gave e = rw e

  came : (scan_of src s table list area).answer.refusal ≡ 0 → refusal ≡ 0
  unfolding scan_of scan_by
  came = go refusal
    where
      go : (n : ℕ) → (unless n gives s table list area).answer.refusal ≡ 0 → n ≡ 0
      go zero e = refl
      go (suc n) e = e

  module _ (accepted : (scan_of src s table list area).answer.refusal ≡ 0) where
    passed : (fits s src table list ≡ true) × (u.offset ≤ s.size) × (length u.lines ≤ length table) × (length u.errors ≤ room_of list)
    passed = passes (fits s src table list) s.size u (length table) (room_of list) (length (to_area p)) (length area) (came accepted)

    holds : Held s src table list
    holds = held s src table list passed.0

    kind_given : (scan_of src s table list area).answer.token.kind ≡ x.kind
    unfolding placed
    kind_given = ap (λ (a : ScanLeft). a.answer.token.kind) (gave (came accepted))

    text_given : text_shown src (scan_of src s table list area).area (scan_of src s table list area).answer.token ≡ record { bytes = x.text; refusal = 0 }
    unfolding view
    text_given =
        ap (λ (a : ScanLeft). text_shown src a.area a.answer.token) (gave (came accepted)) ∙ gives_text (place_fits x.skipped src s.place holds.place)

    -- no character is read past the size
    len_given : x.len ≤ max_position
    unfolding after view
    len_given = within max_position (fit (file_of s) table holds.fitted).top passed.1
      where
        within : (most : ℕ) → s.base + s.size ≤ most → s.offset + (x.skipped + x.len) ≤ s.size → x.len ≤ most
        within most h g = omega arith

    lexeme_given : is_real x.kind ≡ true → is_given x.kind x.text ≡ true
    unfolding view
    lexeme_given k = given_again x.kind x.len x.text k len_given (lexed_again s.mark src s.place (real_is x.kind k))

    -- of the kind and the text that the token shows
    token_given : (kind : ℕ) (text : List ℕ) → is_real kind ≡ true → (scan_of src s table list area).answer.token.kind ≡ kind
        → text_shown src (scan_of src s table list area).area (scan_of src s table list area).answer.token ≡ record { bytes = text; refusal = 0 } → is_given kind text ≡ true
    token_given kind text k e t =
        let kind_is : x.kind ≡ kind = sym kind_given ∙ e in
        let text-is : x.text ≡ text = ap (λ (a : Shown). a.bytes) (sym text_given ∙ t) in
        rw (kind_is, text-is) at (lexeme_given (rw kind_is k))

pub scan_given : (kind : ℕ) (text : List ℕ) → is_real kind ≡ true → ScanGives kind text → is_given kind text ≡ true
scan_given kind text k g = token_given g.src g.state g.table g.list g.area g.accepted kind text k g.kind_is g.shows
