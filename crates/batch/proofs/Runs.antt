-- Runs of simple tokens: what a scan that gave a token says of the scans that are left, and one step of a run.
use Prim.Native.Nat.{ℕ, ◌+◌, ◌-◌, ◌*◌, ◌≤◌, ◌<◌, ◌^◌}
use mathlib.Core.Path.{◌≡◌, refl, sym, ap, subst, ◌∙◌}
use mathlib.Core.Bool.{true, false, ◌&&◌}
use mathlib.Core.List.{List, []}
use Rattle.std.specs.Prelude.{Option, Some, None, IfSome}
use native.Mathlib.Omega.{arith}
use borrow.Author.Tests.{leb-true}
use lib.Dec.{leb}
use lib.ListN.{length, drop}
use lib.Seq.{sets}
use Rattle.state.specs.declared.state.State.{State}
use Rattle.basics.proofs.Choice.{and_split}
use Rattle.utf8.specs.Chars.{chars}
use Rattle.position.proofs.Place.{fit}
use Rattle.blanks.specs.declared.Skipped.{Skipped}
use Rattle.blanks.specs.Blank.{skip, skipped_at}
use Rattle.position.specs.Lines.{line_in}
use Rattle.position.specs.Place.{in_range}
use Rattle.state.specs.State.{advance}
use Rattle.state.specs.Fits.{file_of, fits_line, fits_alone, fits_table, fits_source, fits_list, fits}
use Rattle.parts.specs.declared.token.Token.{Token}
use Rattle.scanner.specs.Scan.{ScanLeft, scan_of}
use Rattle.parts.specs.Layout.{token_width, token_numbers}
use Rattle.batch.specs.Many.{is_last, many_of, left_after}
use Rattle.batch.specs.declared.near.Near.{Near}
use Rattle.batch.specs.declared.next.Next.{Next}
use Rattle.batch.specs.declared.step.Reached.{Reached}
use Rattle.batch.specs.Near.{feeds_of, line_from, near_as}
use Rattle.batch.specs.Simple.{Gave}
use Rattle.scanner.specs.Steps.{Reads}
use Rattle.batch.specs.Run.{state_at, reached, start_at, IsSafe, Recorded, IsLined, Leads}
use Rattle.scanner.proofs.Scans.{held, scan_kept}
use Rattle.scanner.proofs.Fitting.{fits_after}
use Rattle.batch.proofs.Spaces.{line_skipped}
use Rattle.batch.proofs.Given.{left_more}
use Rattle.scanner.proofs.LineStarts.{skip_line_within}
use Rattle.batch.proofs.SimpleScans.{gave, end_over, token, next, scans, goes_on}

-- the state that a scan without a refusal leaves, which is known, fits
pub scan_fits : (src : List ℕ) (s : State) (table list area : List ℕ) → fits s src table list ≡ true
    → {a : ScanLeft} → a ≡ scan_of src s table list area → a.answer.refusal ≡ 0 → fits a.answer.state src a.table a.list ≡ true
scan_fits src s table list area f e z = rw e (fits_after src s table list area f (rw e at z))

-- and the state that a refused scan leaves is the one that fitted
pub refused_fits : (src : List ℕ) (s : State) (table list area : List ℕ) → fits s src table list ≡ true
    → {a : ScanLeft} → a ≡ scan_of src s table list area → (a.answer.refusal ≡ 0 → ⊥) → fits a.answer.state src a.table a.list ≡ true
refused_fits src s table list area f e g = rw (e ∙ scan_kept src s table list area (rw e at g)) f

module _ (src : List ℕ) (s : State) (table list : List ℕ) {next : State} {token : Token} {table' : List ℕ}
    (scans : (area : List ℕ) → scan_of src s table list area ≡ gave next token table' list area) where
  scanned_fits : fits s src table list ≡ true → fits next src table' list ≡ true
  scanned_fits f = scan_fits src s table list [] f {a = gave next token table' list []} (sym (scans [])) refl

  scanned_more : is_last token ≡ false → (room n : ℕ) (tokens area : List ℕ) → n < room
      → left_after n tokens (many_of (room - n) src s table list area)
      ≡ left_after (n + 1) (sets tokens (n * token_width) (token_numbers token)) (many_of (room - (n + 1)) src next table' list area)
  scanned_more on room n tokens area h =
      left_more room n src s table list area tokens h {a = gave next token table' list area} (sym (scans area)) refl on

-- ---- a state that fits: its offset and its positions
pub offset_within : (s : State) (src table list : List ℕ) → fits s src table list ≡ true → s.offset ≤ s.size
offset_within s src table list e =
    let a = and_split (fits_alone s && fits_table s table && fits_source s src) (fits_list s list) e in
    let b = and_split (fits_alone s && fits_table s table) (fits_source s src) a.0 in
    let d = and_split (fits_alone s) (fits_table s table) b.0 in
    let both = leb s.offset s.place && leb s.offset s.size in
    let own = and_split (both && leb 1 s.lines && in_range (file_of s)) (fits_line s) d.0 in
    let g = and_split (both && leb 1 s.lines) (in_range (file_of s)) own.0 in
    let k = and_split both (leb 1 s.lines) g.0 in
    leb-true _ _ (and_split (leb s.offset s.place) (leb s.offset s.size) k.0).1

pub size_small : (s : State) (src table list : List ℕ) → fits s src table list ≡ true → s.base + s.size < 2 ^ 32
size_small s src table list e = omega (arith, (fit (file_of s) table (held s src table list e).fitted).top)

-- where a run starts
pub start_reached : (s : State) (table : List ℕ) → s.line ≡ line_in table s.lines → reached s (start_at s) table ≡ s
start_reached s table l =
    let e : s.offset + (s.place - s.place) ≡ s.offset = omega arith in
    λ i. advance s s.place (e i) s.mark s.lines s.errors (sym l i)

-- ---- a step of a run, after blanks that were found
module _ (src : List ℕ) (first : State) (safe : ℕ) (is-safe : IsSafe src first safe) (table list : List ℕ) (at : Reached)
    (over : first.place ≤ at.place) (holds : fits (reached first at table) src table list ≡ true)
    (b : Near) (near : near_as at.place b ≡ skipped_at at.place (skip at.mark (chars (drop at.place src)))) (early : b.end < safe) where
  abbrev here : State
  here = reached first at table

  low : first.offset ≤ first.size
  low = omega (arith, offset_within here src table list holds)

  start_past : at.place ≤ b.end
  start_past = let e = ap (λ (k : Skipped). k.end) near in omega (arith, e)

  line_between : (at.place ≤ line_from at.place b.line) × (line_from at.place b.line ≤ b.end)
  line_between =
      let e = ap (λ (k : Skipped). k.end) near in
      let l = ap (λ (k : Skipped). line_from at.place k.line) near ∙ line_skipped at.place (skip at.mark (chars (drop at.place src))) in
      let w = skip_line_within at.mark (chars (drop at.place src)) in
      (omega (arith, l), omega (arith, e, l, w))

  -- what is read lies before the size
  sized : b.end + 16 < first.place + (first.size - first.offset)
  sized = (is-safe _ early).1

  pub position_small : first.base + first.offset + (b.end - first.place) < 2 ^ 32
  position_small = omega (arith, size_small here src table list holds, sized, low)

  pub safe_inside : safe < length src
  safe_inside = let last = (is-safe (safe - 1) (omega (arith, early))).0 in omega (arith, early, last)

  lined : (line : Option ℕ) → at.place ≤ line_from at.place line → line_from at.place line ≤ b.end → IfSome line (λ l. at.lines < length table)
      → IfSome line (λ l. (at.place ≤ l) × (first.offset + (l - first.place) < 2 ^ 64) × (at.lines < length table))
  lined None a b h = tt
  lined (Some l) a b h = (a, omega (arith, b, position_small), h)

  pub is_lined : IfSome b.line (λ l. at.lines < length table) → IsLined first at b table
  is_lined h = (over, lined b.line line_between.0 line_between.1 h)

  -- a simple token after them
  module _ {r : Next} (g : Gave src b.end safe (first.base + first.offset + (b.end - first.place)) r)
      {table' : List ℕ} (w : Recorded here (near_as at.place b) table table') where
    abbrev there : State
    there = state_at first r.place r.mark (at.lines + feeds_of b.line) table'

    reads : Reads src here (near_as at.place b) g.x
    reads = record { skipped = near; token = g.reads at.mark }

    end_past : b.end ≤ g.x.end
    end_past = end_over src here table list (near_as at.place b) g.x holds reads g.plain g.ascii g.feeds

    pub step_over : first.place ≤ r.place
    step_over = omega (arith, g.place, over, start_past, end_past)

    before_size : here.offset + (g.x.end - here.place) < here.size
    before_size =
        let last = (is-safe (safe - 1) (omega (arith, early))).1 in
        omega (arith, last, g.near, over, low, early, start_past, end_past)

    abbrev stepped : State
    stepped = next src here table list (near_as at.place b) g.x holds reads g.plain g.ascii g.feeds before_size w

    abbrev given : Token
    given = token src here table list (near_as at.place b) g.x holds reads g.plain g.ascii g.feeds before_size w

    scanned : (area : List ℕ) → scan_of src here table list area ≡ gave stepped given table' list area
    scanned = scans src here table list (near_as at.place b) g.x holds reads g.plain g.ascii g.feeds before_size w

    on : is_last given ≡ false
    on = goes_on src here table list (near_as at.place b) g.x holds reads g.plain g.ascii g.feeds before_size w g.known

    there_is : stepped ≡ there
    there_is =
        let e : first.offset + (at.place - first.place) + (g.x.end - at.place) ≡ first.offset + (g.x.end - first.place) = omega (arith, over, start_past, end_past) in
        rw (e, g.place, g.mark)

    step_fits : fits there src table' list ≡ true
    step_fits = subst (λ t. fits t src table' list ≡ true) there_is (scanned_fits src here table list scanned holds)

    given_is : r.token ≡ given
    given_is =
        let e : first.base + first.offset + (b.end - first.place) ≡ first.base + (first.offset + (at.place - first.place)) + (b.end - at.place) = omega (arith, over, start_past) in
        g.token ∙ rw e

    -- and written after n others
    module _ (room n : ℕ) (tokens : List ℕ) (h : n < room) where
      abbrev more : List ℕ
      more = sets tokens (n * token_width) (token_numbers r.token)

      step_more : (area : List ℕ) → left_after n tokens (many_of (room - n) src here table list area) ≡ left_after (n + 1) more (many_of (room - (n + 1)) src there table' list area)
      step_more area =
          scanned_more src here table list scanned on room n tokens area h
          ∙ ap (λ t. left_after (n + 1) (sets tokens (n * token_width) (token_numbers t)) (many_of (room - (n + 1)) src stepped table' list area)) (sym given_is)
          ∙ ap (λ t. left_after (n + 1) more (many_of (room - (n + 1)) src t table' list area)) there_is

      pub steps : (lines' : ℕ) → lines' ≡ at.lines + feeds_of b.line
          → Leads room src list here table tokens n (reached first (record { place = r.place; mark = r.mark; lines = lines' }) table') table' more (n + 1)
      steps lines' e = rw e (record { fit = step_fits; over = omega arith; within = λ k. omega arith; left = step_more; same = λ z. absurd (omega (arith, z)) })
