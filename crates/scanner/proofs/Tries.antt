-- A token that the lexer read after the blanks and that is tried at once: what the numbers of the code hold, and that what it leaves is what a scan leaves.
use Prim.Native.Nat.{ℕ, ◌+◌, ◌-◌, ◌≤◌, ◌<◌, ◌^◌}
use mathlib.Core.Path.{◌≡◌, sym, ap, ◌∙◌}
use mathlib.Core.Bool.{true}
use Rattle.std.specs.Prelude.{Some}
use mathlib.Core.List.{List, [], ◌++◌}
use native.Mathlib.Omega.{arith}
use native.Mathlib.Nat.{add-zero}
use lib.Dec.{ltb}
use lib.ListN.{length, drop}
use lib.Seq.{sets}
use borrow.Author.Tests.{eqb-true, ltb-true, le-leb, eq-eqb}
use Rattle.basics.proofs.Choice.{and_split}
use Rattle.utf8.specs.Chars.{chars}
use Rattle.utf8.specs.Count.{is_lf}
use Rattle.utf8.proofs.Count.{count_fits}
use Rattle.position.proofs.Place.{fit}
use Rattle.errors.specs.Errors.{room_of}
use Rattle.errors.specs.Faults.{error_number}
use Rattle.blanks.specs.declared.Skipped.{Skipped}
use Rattle.blanks.specs.Blank.{skip}
use Rattle.lexer.specs.declared.lexed.Lexed.{Lexed}
use Rattle.state.specs.declared.state.State.{State}
use Rattle.state.specs.Fits.{file_of}
use Rattle.scanner.specs.declared.answer.Scanned.{Scanned}
use Rattle.scanner.specs.Steps.{to_write, refusal_by, is_plain, starts_from, position_by, Known}
use Rattle.scanner.specs.Quick.{ends_in_feed, start_after, is_quick, PlainReady, QuickReady, plain_token, quick_token, Tries}
use Rattle.scanner.proofs.Pass as pass
use Rattle.scanner.proofs.Refusals.{refusal_none, list_none}
use Rattle.scanner.proofs.Committed.{plain, commit_plain_is}
use Rattle.scanner.proofs.Scans.{Held, held, scan_gave}
use Rattle.scanner.proofs.LineStarts.{none_left}
use Rattle.scanner.proofs.Ends.{blanks_starts, starts_parted}

module _ (src : List ℕ) (s : State) (table list : List ℕ) (b : Skipped) (x : Lexed) (n : ℕ) (k : Known src s table list b x n) where
  kept : Held s src table list
  kept = held s src table list k.holds

  at : b.end ≡ s.place + (skip s.mark (chars (drop s.place src))).len
  at = ap (λ (y : Skipped). y.end) k.reads.skipped

  feeds : b.lfs ≡ (skip s.mark (chars (drop s.place src))).lfs
  feeds = ap (λ (y : Skipped). y.lfs) k.reads.skipped

  abbrev read : ℕ
  read = b.end - s.place + x.chars

  pub behind : s.place ≤ b.end
  behind = pass.start_behind src s b.end at

  pub lines_fit : s.lines ≤ length table
  lines_fit = (fit (file_of s) table kept.fitted).held

  -- the token's line feeds are among its bytes
  pub feeds_within : (x.lfs ≤ x.end) × (x.end ≤ length src)
  feeds_within =
      (omega (arith, pass.token_feeds src s b.end at x k.reads.token, pass.token_end src s b.end at x k.reads.token, count_fits is_lf x.chars src b.end), pass.end_fits src s b.end at x k.reads.token kept.place)

  module _ (short : length src < 2 ^ 63) where
    pub offset_fits : s.offset + n < 2 ^ 64
    offset_fits = rw k.chars (pass.offset_fits src s b.end at x k.reads.token kept.place short kept.offset)

    pub feeds_fit : b.lfs + x.lfs < 2 ^ 64
    feeds_fit = pass.feeds_fit src s b.end at x k.reads.token kept.place short feeds

  -- ---- a plain token that ends before the size
  module _ (p : is_plain x ≡ true) (l : s.offset + read < s.size) where
    position_fits : position_by s b.end < 2 ^ 64
    position_fits = omega (arith, (fit (file_of s) table kept.fitted).top)

    nothing : to_write x ≡ 0
    nothing = rw ((plain x p).1, (plain x p).2)

    plain_ready : length src < 2 ^ 63 → PlainReady s b x
    plain_ready short =
        record {
          behind = behind;
          position = position_fits;
          text = (plain x p).1;
          value = (plain x p).2;
          bytes = pass.lengths_fit src s b.end at x k.reads.token kept.place short 0 (omega arith) (omega (arith, nothing));
        }

    -- whose starts fit the table
    module _ (g : b.lfs + x.lfs ≤ length table - s.lines) where
      ready : length src < 2 ^ 63 → QuickReady src s b x table
      ready short =
          record {
            plain = plain_ready short;
            some = (fit (file_of s) table kept.fitted).some;
            starts = blanks_starts src s b.end at feeds (omega arith) (pass.read_bound src s b.end at x k.reads.token) l;
            table_room = omega (arith, lines_fit);
          }

      counted : b.lfs + x.lfs ≡ length (starts_from src s read)
      counted =
          pass.starts_feeds s.size s.offset read (b.lfs + x.lfs) (chars (drop s.place src)) (pass.read_bound src s b.end at x k.reads.token) (pass.feeds_read src s b.end at x k.reads.token feeds) l

      not_refused : (area : List ℕ) → refusal_by x (s.offset + read) (b.lfs + x.lfs) s (length table) (room_of list) (length area) ≡ 0
      not_refused area =
          sym
          (refusal_none x (s.offset + read) (b.lfs + x.lfs) s (length table) (room_of list) (length area) (omega arith) lines_fit g
          (list_none (error_number x.error) s.errors (room_of list) (eqb-true _ _ (plain x p).0) kept.errors)
          (sym (le-leb (to_write x) (length area) (omega (arith, nothing)))))

      -- and that has no line feed but perhaps its last byte
      given : ends_in_feed src x ≡ true → {after : List ℕ} {r : Scanned} → after ≡ sets table s.lines (starts_from src s (b.end - s.place) ++ start_after x (s.offset + read))
          → r ≡ quick_token s b x (s.offset + read) after → Tries src s table list (Some r) after
      given f {after} {r} w e area =
          scan_gave src s table list area kept b.end at x k.reads.token k.holds (b.lfs + x.lfs) counted (not_refused area)
          ∙ sym (commit_plain_is src s b.end x read (b.lfs + x.lfs) table list area p written (rw (e, (plain x p).0, add-zero)))
        where
          written : after ≡ sets table s.lines (starts_from src s read)
          written = w ∙ ap (sets table s.lines) (sym (starts_parted src s b.end at x k.reads.token l f))

  -- ---- what passes the first test
  module _ (q : is_quick s x (s.offset + n) ≡ true) where
    passed : (is_plain x ≡ true) × (s.offset + read < s.size)
    passed =
        let f = and_split (is_plain x) (ltb (s.offset + n) s.size) q in
        (f.0, rw (sym k.chars) (ltb-true _ _ f.1))

    pub quick_plain : length src < 2 ^ 63 → PlainReady s b x
    quick_plain = plain_ready passed.0 passed.1

    -- without a line feed it stays on its line
    module _ (z : b.lfs + x.lfs ≡ 0) where
      no_starts : starts_from src s (b.end - s.place) ++ start_after x (s.offset + read) ≡ []
      no_starts =
          let e = blanks_starts src s b.end at feeds (omega arith) (pass.read_bound src s b.end at x k.reads.token) passed.1 in
          let none : starts_from src s (b.end - s.place) ≡ [] = none_left _ (omega (arith, e)) in
          rw (none, eq-eqb x.lfs 0 (omega arith))

      feedless : ends_in_feed src x ≡ true
      unfolding ends_in_feed
      feedless = rw (eq-eqb x.lfs 0 (omega arith))

      -- its line is the table's last
      on_line : plain_token s b x (s.offset + read) s.lines s.line ≡ quick_token s b x (s.offset + read) table
      on_line = rw (z, add-zero s.lines, kept.line)

      pub tries_on_line : {r : Scanned} → r ≡ plain_token s b x (s.offset + n) s.lines s.line → Tries src s table list (Some r) table
      tries_on_line e =
          given passed.0 passed.1 (omega (arith, z)) feedless (rw no_starts) (rw (sym k.chars) e ∙ on_line)

    -- with one it ends in it, and its starts fit the table
    module _ (f : ends_in_feed src x ≡ true) (g : b.lfs + x.lfs ≤ length table - s.lines) where
      pub quick_ready : length src < 2 ^ 63 → QuickReady src s b x table
      quick_ready = ready passed.0 passed.1 g

      pub tries_done : {after : List ℕ} {r : Scanned} → after ≡ sets table s.lines (starts_from src s (b.end - s.place) ++ start_after x (s.offset + n))
          → r ≡ quick_token s b x (s.offset + n) after → Tries src s table list (Some r) after
      tries_done w e = given passed.0 passed.1 g f (rw (sym k.chars) w) (rw (sym k.chars) e)
