-- `scanning::finish` meets its contract: what was read is what the definition reads, and what it comes to follows.
use Prim.Native.Nat.{ℕ, ◌+◌, ◌-◌, ◌<◌, ◌^◌}
use Rattle.std.proofs.Common.{rules, Err}
use mathlib.Core.Path.{◌≡◌, sym, ap, subst, ◌∙◌}
use native.Mathlib.Omega.{arith}
use lib.ListN.{length, drop}
use Rattle.utf8.specs.Chars.{chars}
use Rattle.position.proofs.Place.{fit}
use Rattle.errors.specs.Errors.{room_of}
use Rattle.blanks.specs.declared.Skipped.{Skipped}
use Rattle.blanks.specs.Blank.{skip}
use Rattle.scanner.specs.Steps.{refusal_by, refusal_in, starts_from, Ready, commit_of}
use Rattle.scanner.proofs.Pass.{read_bound, offset_fits, feeds_read, feeds_fit}
use Rattle.refusal.specs.Outcome.{refusal_number}
use Rattle.refusal.proofs.Numbers.{refusal_some}
use Rattle.scanner.proofs.Scans.{Held, held, scan_refused, scan_gave, ready}
use Rattle.scanner.proofs.scanning.finish.Goals as goal
use Rattle.scanner.proofs.scanning.finish.Goals.{After-check, After-from_residual, After-starts_read-starts, Start}

-- the state fits
kept : (s : Start) → Held s.args.state s.args.src.now s.args.table.now s.args.list.now
kept s = held _ _ _ _ s.requires.holds

-- source and area are short of half the numbers
short : (s : Start) → length s.args.src.now < 2 ^ 63
short s = omega (arith, s.well_formed.0.1)

small : (s : Start) → length s.args.area.now < 2 ^ 63
small s = omega (arith, s.well_formed.1.1.1.1.1.0.1)

-- the token was lexed after the blanks
start_at : (s : Start) → let a = s.args in a.pass.blanks.end ≡ a.state.place + (skip a.state.mark (chars (drop a.state.place a.src.now))).len
start_at s = ap (λ (b : Skipped). b.end) s.requires.reads.skipped

feeds_at : (s : Start) → let a = s.args in a.pass.blanks.lfs ≡ (skip a.state.mark (chars (drop a.state.place a.src.now))).lfs
feeds_at s = ap (λ (b : Skipped). b.lfs) s.requires.reads.skipped

-- the offset that is reached
offset_reached : (s : Start) → let a = s.args in a.state.offset + a.pass.chars < 2 ^ 64
offset_reached s =
    let a = s.args in
    rw s.requires.chars (offset_fits a.src.now a.state a.pass.blanks.end (start_at s) a.pass.token s.requires.reads.token (kept s).place (short s) (kept s).offset)

pub overflow_add-offset : goal.overflow_add-offset
overflow_add-offset c = record { fits = offset_reached (goal.at.overflow_add-offset c).Start }

pub overflow_add-pass : goal.overflow_add-pass
overflow_add-pass c =
    let a = c.args in
    record { fits = feeds_fit a.src.now a.state a.pass.blanks.end (start_at (goal.at.overflow_add-pass c).Start) a.pass.token c.requires.reads.token (kept (goal.at.overflow_add-pass c).Start).place (short (goal.at.overflow_add-pass c).Start) (feeds_at (goal.at.overflow_add-pass c).Start) }

pub starts_read-starts-requires : goal.starts_read-starts-requires
starts_read-starts-requires c =
    let a = c.args in (
      rw c.requires.chars (read_bound a.src.now a.state a.pass.blanks.end (start_at (goal.at.starts_read-starts-requires c).Start) a.pass.token c.requires.reads.token),
      rw c.requires.chars (feeds_read a.src.now a.state a.pass.blanks.end (start_at (goal.at.starts_read-starts-requires c).Start) a.pass.token c.requires.reads.token (feeds_at (goal.at.starts_read-starts-requires c).Start)),
      offset_reached (goal.at.starts_read-starts-requires c).Start,
    )

pub check-requires : goal.check-requires
check-requires c =
    let k = kept ((goal.at.check-requires c).Start) in
    ((fit _ _ k.fitted).held, rw c.room-room.ensures k.errors)

-- the first refusal
number : (c : After-check)
    → let a = c.args in
    refusal_in c.check.result
    ≡ refusal_by a.pass.token (a.state.offset + (a.pass.blanks.end - a.state.place + a.pass.token.chars)) c.starts_read-starts.result a.state (length a.table.now) (room_of a.list.now) (length a.area.now)
number c =
    let a = c.args in
    c.check.ensures
    ∙ ap (λ (m : ℕ). refusal_by a.pass.token (a.state.offset + m) c.starts_read-starts.result a.state (length a.table.now) c.room-room.result (length a.area.now)) c.requires.chars
    ∙ ap (λ (m : ℕ). refusal_by a.pass.token (a.state.offset + (a.pass.blanks.end - a.state.place + a.pass.token.chars)) c.starts_read-starts.result a.state (length a.table.now) m (length a.area.now)) c.room-room.ensures

-- the line starts that were counted
counted : (t : After-starts_read-starts)
    → let a = t.args in t.starts_read-starts.result ≡ length (starts_from a.src.now a.state (a.pass.blanks.end - a.state.place + a.pass.token.chars))
counted t =
    t.starts_read-starts.ensures ∙ ap (λ (m : ℕ). length (starts_from t.args.src.now t.args.state m)) t.requires.chars

-- what `?` passes on
given_up : (c : After-from_residual) → c.from_residual.result ≡ Err c.in_err-check.field-0.0
given_up c = search rules

pub returns-in_err-check : goal.returns-in_err-check
returns-in_err-check c =
    let s = (goal.at.returns-in_err-check c).Start in
    let a = s.args in
    let e = c.in_err-check.field-0.0 in
    rw (given_up c)
    (sym
    (scan_refused a.src.now a.state a.table.now a.list.now a.area.now (kept s) a.pass.blanks.end (start_at s) a.pass.token s.requires.reads.token
    s.requires.holds c.starts_read-starts.result (counted (goal.at.returns-in_err-check c).After-starts_read-starts) (refusal_number e)
    (sym (ap refusal_in c.in_err-check.was) ∙ number (goal.at.returns-in_err-check c).After-check) (refusal_some e)))

pub commit-requires : goal.commit-requires
commit-requires c =
    let s = (goal.at.commit-requires c).Start in
    let a = s.args in
    subst (λ (m : ℕ). Ready a.src.now a.state a.pass.blanks.end a.pass.token m c.starts_read-starts.result a.table.now a.list.now a.area.now)
    (sym s.requires.chars)
    (ready a.src.now a.state a.table.now a.list.now a.area.now (kept s) a.pass.blanks.end (start_at s) a.pass.token s.requires.reads.token
    s.requires.holds c.starts_read-starts.result (counted (goal.at.commit-requires c).After-starts_read-starts) (short s) (small s) (sym (number (goal.at.commit-requires c).After-check) ∙ ap refusal_in c.in_ok-check.was))

pub returns : goal.returns
returns c =
    let s = (goal.at.returns c).Start in
    let a = s.args in
    c.commit.ensures
    ∙ ap (λ (m : ℕ). commit_of a.src.now a.state a.pass.blanks.end a.pass.token m c.starts_read-starts.result a.table.now a.list.now a.area.now) s.requires.chars
    ∙ sym
    (scan_gave a.src.now a.state a.table.now a.list.now a.area.now (kept s) a.pass.blanks.end (start_at s) a.pass.token s.requires.reads.token
    s.requires.holds c.starts_read-starts.result (counted (goal.at.returns c).After-starts_read-starts) (sym (number (goal.at.returns c).After-check) ∙ ap refusal_in c.in_ok-check.was))
