-- `round::scan_next` meets its contract.
use mathlib.Core.Path.{◌≡◌, refl, sym, ◌∙◌}
use native.Mathlib.Omega.{arith}
use lib.ListN.{length}
use Rattle.std.specs.Prelude.{Err}
use Rattle.scanner.specs.Scan.{gave_answer, answer_of}
use Rattle.refusal.proofs.Numbers.{refusal_some}
use Rattle.batch.specs.Many.{token_room}
use Rattle.batch.proofs.Rounds.{ends_refused, refused_first, goes_given, ends_given}
use Rattle.batch.proofs.round.scan_next.Goals as goal

pub returns-then-from-eq0 : goal.returns-then-from-eq0
returns-then-from-eq0 c =
    let p = c.requires in
    refused_first (token_room c.args.tokens.now) c.args.src.now p.0 p.1 {a = record { table = c.scan.new.table; list = c.scan.new.list; area = c.scan.new.area; answer = answer_of c.args.from.state (Err c.in-Err.refusal) }}
    c.in-Err.ensures refl (refusal_some c.in-Err.refusal) c.if-from-eq0.true

pub returns-in-Err : goal.returns-in-Err
returns-in-Err c =
    let p = c.requires in
    ends_refused (token_room c.args.tokens.now) c.args.src.now p.0 p.1 {a = record { table = c.scan.new.table; list = c.scan.new.list; area = c.scan.new.area; answer = answer_of c.args.from.state (Err c.in-Err.refusal) }}
    c.in-Err.ensures (refusal_some c.in-Err.refusal) c.if-from-eq0.false

pub returns-then-goes_on : goal.returns-then-goes_on
returns-then-goes_on c =
    let p = c.requires in
    let same : length c.put_token_at.new.tokens ≡ length c.args.tokens.now = omega arith in (
      goes_given (token_room c.args.tokens.now) c.args.src.now p.0 p.1 {a = record { table = c.scan.new.table; list = c.scan.new.list; area = c.scan.new.area; answer = gave_answer c.in-Ok.scanned }}
          c.in-Ok.ensures refl c.put_token_at.ensures (rw (c.token_room.ensures, same) at (sym c.goes_on.ensures ∙ c.if-goes_on.true)),
      omega arith,
    )

pub returns : goal.returns
returns c =
    let p = c.requires in
    let same : length c.put_token_at.new.tokens ≡ length c.args.tokens.now = omega arith in
    ends_given (token_room c.args.tokens.now) c.args.src.now p.0 p.1 {a = record { table = c.scan.new.table; list = c.scan.new.list; area = c.scan.new.area; answer = gave_answer c.in-Ok.scanned }}
    c.in-Ok.ensures refl c.put_token_at.ensures (rw (c.token_room.ensures, same) at (sym c.goes_on.ensures ∙ c.if-goes_on.false))
