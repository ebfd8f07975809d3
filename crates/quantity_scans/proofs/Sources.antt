-- A source that starts with a number: its first scan gives the number and shows the number's text.
use Prim.Native.Nat.{ℕ, ◌+◌, ◌≤◌}
use mathlib.Core.Path.{◌≡◌, ap, ◌∙◌}
use mathlib.Core.Bool.{Bool, true, false, cond}
use mathlib.Core.List.{List, [], ◌∷◌}
use native.Mathlib.Omega.{arith}
use native.Mathlib.Nat.{zero-add}
use lib.Dec.{eqb, lit≤}
use lib.ListN.{length, take, length-append}
use borrow.Author.Tests.{le-leb, le-ltb}
use Rattle.basics.proofs.Choice.{cond_ind}
use Rattle.utf8.specs.Chars.{chars}
use Rattle.utf8.specs.Count.{is_lf, count}
use Rattle.utf8.proofs.First.{chars_le}
use Rattle.utf8.proofs.Places.{place_fits}
use Rattle.position.specs.Place.{max_position, in_range, fitting}
use Rattle.errors.specs.Errors.{room_of}
use Rattle.numbers.specs.Number.{number}
use Rattle.numbers.specs.Spelling.{number_text}
use Rattle.numbers.proofs.Tested.{number_within}
use Rattle.lines.specs.Starts.{starts_read}
use Rattle.lines.proofs.Reading.{read_new}
use Rattle.lines.proofs.Counts.{starts_le}
use Rattle.lexer.specs.Lexeme.{Lexeme, raise}
use Rattle.lexer.specs.Words.{lex_number}
use Rattle.lexer.specs.Placed.{Placed, placed}
use Rattle.lexer.specs.Making.{is_number}
use Rattle.reading.specs.Reading.{Reading, after}
use Rattle.state.specs.declared.state.State.{State}
use Rattle.state.specs.State.{fresh}
use Rattle.state.specs.Fits.{fits}
use Rattle.parts.specs.Text.{text_shown}
use Rattle.scanner.specs.Scan.{view, to_area, ScanLeft}
use Rattle.scanner.proofs.Scans.{errors_after}
use Rattle.quantity_scans.specs.Scans.{ScanGives}
use Rattle.lexer.proofs.Numerals.{number_facts}
use Rattle.quantity_scans.proofs.Lexed.{lexed_number}
use Rattle.quantity_scans.proofs.Scanned.{x, p, u, refusal, gives_text, gave}

module _ (src text : List ℕ) (starts : is_number (chars src) ≡ true)
    (shown : number_text (number (chars src)).spelling (take (number (chars src)).len src) ≡ text) (fit : length src ≤ max_position) where
  -- the first state, and room for the first line start, for an error and for the text
  abbrev s : State
  s = fresh 0 (length src)

  abbrev table : List ℕ
  table = 0 ∷ []

  abbrev list : List ℕ
  list = 0 ∷ 0 ∷ 0 ∷ 0 ∷ []

  -- what is read
  abbrev y : Lexeme
  y = x src s table list text

  abbrev q : Placed
  q = p src s table list text

  abbrev v : Reading
  v = u src s table list text

  read : y ≡ raise 0 (lex_number (chars src))
  unfolding view fresh
  read = lexed_number false (chars src) starts

  text_read : y.text ≡ text
  unfolding lex_number
  text_read = ap (λ (l : Lexeme). l.text) read ∙ ap (number_text (number (chars src)).spelling) (number_facts src 0).shown ∙ shown

  kind_read : y.kind ≡ (number (chars src)).kind
  unfolding lex_number
  kind_read = ap (λ (l : Lexeme). l.kind) read

  -- ---- no refusal
  state_fits : fits s src table list ≡ true
  unfolding fresh in_range fitting
  state_fits = rw (le-leb 0 (length src) (omega arith), le-leb (0 + length src) max_position (rw (zero-add (length src)) fit))

  taken_is : y.skipped + y.len ≡ (number (chars src)).len
  unfolding lex_number
  taken_is = ap (λ (l : Lexeme). l.skipped + l.len) read ∙ omega arith

  offset_fits : v.offset ≤ length src
  unfolding after view fresh
  offset_fits = omega (arith, taken_is, number_within (chars src), chars_le src)

  -- a number has no line feed
  lines_fit : length v.lines ≤ length table
  unfolding after view fresh
  lines_fit =
      let cs = take (y.skipped + y.len) (chars src) in
      let none : count is_lf cs ≡ 0 = rw taken_is (number_facts src 0).lfs in
      rw (read_new (length src) 0 cs table (lit≤ tt)) (omega (arith, length-append table (starts_read (length src) 0 cs), starts_le (length src) 0 cs, none))

  errors_fit : length v.errors ≤ room_of list
  unfolding after view fresh
  errors_fit =
      rw (errors_after y.error v.offset 0 list v.line) (cond_ind (λ n. 0 + n ≤ room_of list) (eqb y.error 0) 0 1 (λ _. lit≤ tt) (λ _. lit≤ tt))

  -- no more than the text is written: a number has no value
  area_fits : length (to_area q) ≤ length text
  unfolding placed lex_number
  area_fits =
      omega (
        arith,
        length-append (cond q.text_differs y.text []) (cond q.value_differs y.value []),
        at_most q.text_differs y.text,
        at_most q.value_differs y.value,
        ap length text_read,
        ap (λ (l : Lexeme). length l.value) read,
      )
    where
      at_most : (b : Bool) (l : List ℕ) → length (cond b l []) ≤ length l
      at_most true l = omega arith
      at_most false l = omega arith

  not_refused : refusal src s table list text ≡ 0
  unfolding fresh
  not_refused =
      rw (
        state_fits,
        le-ltb _ _ offset_fits,
        le-ltb _ _ lines_fit,
        le-ltb _ _ errors_fit,
        le-ltb _ _ area_fits,
      )

  -- ---- the scan
  pub number_scanned : ScanGives (number (chars src)).kind text
  unfolding placed view fresh
  number_scanned =
      let is = gave src s table list text not_refused in
      record {
        src = src;
        state = s;
        table = table;
        list = list;
        area = text;
        accepted = ap (λ (a : ScanLeft). a.answer.refusal) is;
        kind_is = ap (λ (a : ScanLeft). a.answer.token.kind) is ∙ kind_read;
        shows = ap (λ (a : ScanLeft). text_shown src a.area a.answer.token) is
            ∙ gives_text src s table list text (place_fits y.skipped src 0 (omega arith)) ∙ ap (λ (t : List ℕ). record { bytes = t; refusal = 0 }) text_read;
      }
