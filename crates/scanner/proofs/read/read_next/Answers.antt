-- `read::read_next` meets its contract: the token ends within the source, so the sum fits.
use Prim.Native.Nat.{◌+◌}
use mathlib.Core.Path.{◌≡◌, ap}
use native.Mathlib.Omega.{arith}
use lib.ListN.{drop}
use Rattle.utf8.specs.Chars.{chars}
use Rattle.blanks.specs.declared.Skipped.{Skipped}
use Rattle.blanks.specs.Blank.{skip}
use Rattle.scanner.proofs.Pass.{read_fits}
use Rattle.scanner.proofs.read.read_next.Goals as goal
use Rattle.scanner.proofs.read.read_next.Goals.{After-lex_token-token}

-- the token was lexed after the blanks
start_at : (s : After-lex_token-token) → let a = s.args in s.skip_blanks-blanks.result.end ≡ a.state.place + (skip a.state.mark (chars (drop a.state.place a.src.now))).len
start_at s = ap (λ (b : Skipped). b.end) s.skip_blanks-blanks.ensures

pub overflow_add-chars : goal.overflow_add-chars
overflow_add-chars c =
    let a = c.args in
    record { fits = read_fits a.src.now a.state c.skip_blanks-blanks.result.end (start_at (goal.at.overflow_add-chars c).After-lex_token-token) c.lex_token-token.result c.lex_token-token.ensures c.requires (omega (arith, c.well_formed.0.1)) }
