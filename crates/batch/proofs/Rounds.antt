-- Runs and rounds one after the other, and the round of one scan.
use Prim.Native.Nat.{ℕ, ◌+◌, ◌-◌, ◌*◌, ◌≤◌, ◌<◌, ◌^◌}
use mathlib.Core.Path.{◌≡◌, refl, sym, ap, subst, ◌∙◌}
use mathlib.Core.Bool.{true, false, not, ◌&&◌}
use mathlib.Core.List.{List}
use native.Mathlib.Omega.{arith}
use native.Mathlib.Nat.{sub-zero}
use lib.ListN.{length}
use lib.Dec.{ltb}
use Rattle.std.specs.Prelude.{Result, Ok, Err}
use Rattle.std.specs.declared.ops.ControlFlow.{ControlFlow}
use Rattle.std.specs.declared.ops.ControlFlow.TheVariants.{Continue, Break}
use borrow.Author.Tests.{ltb-true, ltb-false, not-true}
use mathlib.Core.Logic.{⊎_elim}
use Rattle.basics.proofs.Choice.{either, and_split}
use lib.Seq.{sets}
use Rattle.refusal.specs.declared.Refusal.{Refusal}
use Rattle.refusal.specs.Outcome.{refusal_number}
use Rattle.state.specs.declared.state.State.{State}
use Rattle.position.specs.Lines.{line_in}
use Rattle.position.proofs.Place.{fit}
use Rattle.state.specs.Fits.{file_of, fits}
use Rattle.scanner.specs.Scan.{ScanLeft, scan_of}
use Rattle.batch.specs.declared.run.Batch.{Batch}
use Rattle.parts.specs.Layout.{token_width, token_numbers}
use Rattle.scanner.proofs.Scans.{held}
use Rattle.batch.specs.declared.step.Reached.{Reached}
use Rattle.batch.specs.Many.{is_last, stopped, many_of, left_after, token_room, many_left, scan_many_of}
use Rattle.batch.specs.Run.{reached, start_at, Leads, Goes, Ends, Refused, Comes, HasLine}
use Rattle.batch.proofs.Given.{left_none, left_refused, left_last, left_more, none_given, some_given}
use Rattle.batch.proofs.Runs.{scan_fits, refused_fits, offset_within, size_small, start_reached}

module _ (room : ℕ) (src : List ℕ) where
  -- ---- runs
  pub leads_here : (list : List ℕ) (s : State) (table tokens : List ℕ) (n : ℕ) → fits s src table list ≡ true → Leads room src list s table tokens n s table tokens n
  leads_here list s table tokens n f = record { fit = f; over = omega arith; within = λ h. h; left = λ area. refl; same = λ z area. refl }

  pub leads_on : {list : List ℕ} {s s' s'' : State} {table tokens table' tokens' table'' tokens'' : List ℕ} {n n' n'' : ℕ}
      → Leads room src list s table tokens n s' table' tokens' n' → Leads room src list s' table' tokens' n' s'' table'' tokens'' n''
      → Leads room src list s table tokens n s'' table'' tokens'' n''
  leads_on a b =
      let o = a.over in
      let p = b.over in
      record {
        fit = b.fit;
        over = omega (arith, o, p);
        within = λ h. b.within (a.within h);
        left = λ area. a.left area ∙ b.left area;
        same = λ z area. a.same (omega (arith, o, p, z)) area ∙ b.same (omega (arith, o, p, z)) area;
      }

  -- ---- rounds
  module _ {from : Batch} {table list area tokens : List ℕ} where
    -- after a run, where there is room left
    pub goes_run : {n' : ℕ} {s' : State} {table' tokens' : List ℕ} → Leads room src list from.state table tokens from.count s' table' tokens' n' → n' < room
        → Goes room src from table list area tokens (record { state = s'; count = n' }) table' list area tokens'
    goes_run run h =
        record {
          fit = run.fit;
          over = run.over;
          below = h;
          left = run.left area;
          same = λ z. ap (λ (a : ScanLeft). a.answer.refusal) (run.same z area);
        }

    -- and where there is none
    pub ends_run : {n' : ℕ} {s' : State} {table' tokens' : List ℕ} → Leads room src list from.state table tokens from.count s' table' tokens' n' → from.count < room → n' ≡ room
        → Ends room src from table list area tokens (record { state = s'; count = n' }) table' list area tokens'
    ends_run {n'} {s'} {table'} {tokens'} run h e =
        record { fit = run.fit; some = omega (arith, h, e); left = run.left area ∙ left_none room n' src s' table' list area tokens' (omega (arith, e)) }

    -- ---- what comes after scans that go on
    module _ {to : Batch} {table' list' area' tokens' : List ℕ} (a : Goes room src from table list area tokens to table' list' area' tokens') where
      pub goes_behind : {r : Batch} {table'' list'' area'' tokens'' : List ℕ}
          → Goes room src to table' list' area' tokens' r table'' list'' area'' tokens'' → Goes room src from table list area tokens r table'' list'' area'' tokens''
      goes_behind b =
          let o = a.over in
          let p = b.over in
          record {
            fit = b.fit;
            over = omega (arith, o, p);
            below = b.below;
            left = a.left ∙ b.left;
            same = λ z. a.same (omega (arith, o, p, z)) ∙ b.same (omega (arith, o, p, z));
          }

      pub ends_behind : {r : Batch} {table'' list'' area'' tokens'' : List ℕ}
          → Ends room src to table' list' area' tokens' r table'' list'' area'' tokens'' → Ends room src from table list area tokens r table'' list'' area'' tokens''
      ends_behind b = record { fit = b.fit; some = b.some; left = a.left ∙ b.left }

      pub refused_behind : {refusal : Refusal} {table'' list'' area'' tokens'' : List ℕ}
          → Refused room src to table' list' area' tokens' refusal table'' list'' area'' tokens'' → Refused room src from table list area tokens refusal table'' list'' area'' tokens''
      refused_behind b =
          let o = a.over in
          let z = b.none in
          record { last = b.last; none = omega (arith, o, z); number = a.same (omega (arith, o, z)) ∙ b.number; left = a.left ∙ b.left }

      pub comes_behind : (r : ControlFlow (Result Batch Refusal) Batch) (table'' list'' area'' tokens'' : List ℕ)
          → Comes room src to table' list' area' tokens' r table'' list'' area'' tokens'' → Comes room src from table list area tokens r table'' list'' area'' tokens''
      comes_behind (Continue r) table'' list'' area'' tokens'' b = (goes_behind b.0, omega (arith, a.over, b.1))
      comes_behind (Break (Ok r)) table'' list'' area'' tokens'' b = ends_behind b
      comes_behind (Break (Err refusal)) table'' list'' area'' tokens'' b = refused_behind b

    -- ---- one scan
    module _ (f : fits from.state src table list ≡ true) (h : from.count < room) {a : ScanLeft} (e : a ≡ scan_of src from.state table list area) where
      -- refused
      pub ends_refused : (a.answer.refusal ≡ 0 → ⊥) → (from.count ≡ 0 → ⊥)
          → Ends room src from table list area tokens (record { state = a.answer.state; count = from.count }) a.table a.list a.area tokens
      ends_refused g n =
          record {
            fit = refused_fits src from.state table list area f e g;
            some = omega (arith, n);
            left = left_refused room from.count src from.state table list area tokens h e g;
          }

      pub refused_first : {refusal : Refusal} → a.answer.refusal ≡ refusal_number refusal → (a.answer.refusal ≡ 0 → ⊥) → from.count ≡ 0
          → Refused room src from table list area tokens refusal a.table a.list a.area tokens
      refused_first is g z =
          record {
            last = a.answer.state;
            none = z;
            number = ap (λ (b : ScanLeft). b.answer.refusal) (sym e) ∙ is;
            left =
                left_refused room from.count src from.state table list area tokens h e g
                ∙ ap (λ k. left_after k tokens (stopped a.answer.state a.table a.list a.area)) z;
          }

      -- a token
      module _ (z : a.answer.refusal ≡ 0) {tokens' : List ℕ} (w : tokens' ≡ sets tokens (from.count * token_width) (token_numbers a.answer.token)) where
        pub goes_given : not (is_last a.answer.token) && ltb (from.count + 1) room ≡ true
            → Goes room src from table list area tokens (record { state = a.answer.state; count = from.count + 1 }) a.table a.list a.area tokens'
        goes_given m =
            let t = and_split (not (is_last a.answer.token)) (ltb (from.count + 1) room) m in
            record {
              fit = scan_fits src from.state table list area f e z;
              over = omega arith;
              below = ltb-true _ _ t.1;
              left = rw w (left_more room from.count src from.state table list area tokens h e z (not-true _ t.0));
              same = λ y. absurd (omega (arith, y));
            }

        pub ends_given : not (is_last a.answer.token) && ltb (from.count + 1) room ≡ false
            → Ends room src from table list area tokens (record { state = a.answer.state; count = from.count + 1 }) a.table a.list a.area tokens'
        ends_given m =
            let t = a.answer.token in
            let k = from.count + 1 in
            record {
              fit = scan_fits src from.state table list area f e z;
              some = omega arith;
              left =
                  rw w
                  (⊎_elim (λ l. left_last room from.count src from.state table list area tokens h e z l)
                  (λ l. left_more room from.count src from.state table list area tokens h e z l
                  ∙ left_none room k src a.answer.state a.table a.list a.area (sets tokens (from.count * token_width) (token_numbers t)) (ltb-false _ _ (rw l at m)))
                  (either (is_last t)));
            }

-- ---- what the last round leaves is what the call is to leave
module _ (src : List ℕ) (s : State) (table list area tokens : List ℕ) where
  abbrev first : Batch
  first = record { state = s; count = 0 }

  whole : left_after 0 tokens (many_of (token_room tokens) src s table list area) ≡ left_after 0 tokens (many_of (token_room tokens - 0) src s table list area)
  whole = ap (λ k. left_after 0 tokens (many_of k src s table list area)) (sym (sub-zero (token_room tokens)))

  pub ends_all : token_width ≤ length tokens → {to : Batch} {table' list' area' tokens' : List ℕ} → Ends (token_room tokens) src first table list area tokens to table' list' area' tokens'
      → many_left s (Ok to) table' list' area' tokens' ≡ scan_many_of src s table list area tokens
  ends_all enough {to} {table'} {list'} {area'} {tokens'} e =
      some_given src s table list area tokens enough to.state table' list' area' tokens' to.count (whole ∙ e.left) (λ z. let h = e.some in omega (arith, h, z))

  pub refused_all : token_width ≤ length tokens → {refusal : Refusal} {table' list' area' tokens' : List ℕ} → Refused (token_room tokens) src first table list area tokens refusal table' list' area' tokens'
      → many_left s (Err refusal) table' list' area' tokens' ≡ scan_many_of src s table list area tokens
  refused_all enough {refusal} {table'} {list'} {area'} {tokens'} e =
      none_given src s table list area tokens enough e.last table' list' area' tokens' 0 (whole ∙ e.left) refl e.number

-- ---- what a state that fits says to the functions of a run
module _ (src list : List ℕ) where
  pub safe_ready : (s : State) (table : List ℕ) → fits s src table list ≡ true → (s.place ≤ length src) × (s.offset ≤ s.size) × (s.size < 2 ^ 32)
  safe_ready s table f = ((held s src table list f).place, offset_within s src table list f, omega (arith, size_small s src table list f))

  pub line_ready : (s : State) (table : List ℕ) → fits s src table list ≡ true → (s.line ≡ line_in table s.lines) × (1 ≤ s.lines) × (s.lines ≤ length table)
  line_ready s table f =
      let k = held s src table list f in
      let g = fit (file_of s) table k.fitted in
      (k.line, g.some, g.held)

  pub state_ready : (first : State) (at : Reached) (table : List ℕ) → fits (reached first at table) src table list ≡ true → first.place ≤ at.place
      → (first.place ≤ at.place) × (first.offset + (at.place - first.place) < 2 ^ 64) × (1 ≤ at.lines) × (at.lines ≤ length table)
  state_ready first at table f h =
      let s = reached first at table in
      let l = line_ready s table f in
      (h, omega (arith, offset_within s src table list f, size_small s src table list f), l.1, l.2)

  pub leads_start : (room : ℕ) (from : Batch) (table tokens : List ℕ) → fits from.state src table list ≡ true
      → Leads room src list from.state table tokens from.count (reached from.state (start_at from.state) table) table tokens from.count
  leads_start room from table tokens f =
      subst (λ t. Leads room src list from.state table tokens from.count t table tokens from.count)
      (sym (start_reached from.state table (line_ready from.state table f).0)) (leads_here room src list from.state table tokens from.count f)

-- ---- the end of the rounds
pub end_lined : (room : ℕ) (src : List ℕ) (from : Batch) (table list area tokens : List ℕ) (end : Result Batch Refusal) (table' list' area' tokens' : List ℕ)
    → Comes room src from table list area tokens (Break end) table' list' area' tokens' → HasLine end table'
end_lined room src from table list area tokens (Ok to) table' list' area' tokens' e = line_ready src list' to.state table' e.fit
end_lined room src from table list area tokens (Err refusal) table' list' area' tokens' e = tt

pub end_all : (src : List ℕ) (s : State) (table list area tokens : List ℕ) → token_width ≤ length tokens → {round : Batch} {table' list' area' tokens' : List ℕ}
    → Goes (token_room tokens) src (record { state = s; count = 0 }) table list area tokens round table' list' area' tokens'
    → (end : Result Batch Refusal) (table'' list'' area'' tokens'' : List ℕ)
    → Comes (token_room tokens) src round table' list' area' tokens' (Break end) table'' list'' area'' tokens''
    → many_left s end table'' list'' area'' tokens'' ≡ scan_many_of src s table list area tokens
end_all src s table list area tokens enough g (Ok to) table'' list'' area'' tokens'' e = ends_all src s table list area tokens enough (ends_behind (token_room tokens) src g e)
end_all src s table list area tokens enough g (Err refusal) table'' list'' area'' tokens'' e = refused_all src s table list area tokens enough (refused_behind (token_room tokens) src g e)
