-- Demand 1 over the calls of a run.
use Rattle.std.specs.Prelude.{ℕ, suc, ◌*◌, ◌≤◌, ◌≡◌, true, false, cond, List, ltb, length}
use Rattle.std.proofs.Math.Option.{some}
use Rattle.std.proofs.Math.ListN.{get_elem?}
use Rattle.utf8.specs.Chars.{chars}
use Rattle.kinds.specs.Kinds.{EOF}
use Rattle.position.specs.Lines.{StrictlyRising}
use Rattle.errors.specs.Errors.{room_of}
use Rattle.lexer.specs.Lex.{lex}
use Rattle.lexer.specs.Placed.{placed}
use Rattle.reading.specs.Run.{scanned, next}
use Rattle.scanner.specs.Scan.{view, token_start, to_area}
use Rattle.runs.specs.Calls.{Held, call, Seen, play, tokens, lines_in}

-- scan i + 1 of those that gave a token gave t
abbrev pub Gives : List ℕ → Held → List (List ℕ) → ℕ → Seen → Type 0
Gives src h areas i t = get_elem? (tokens src areas h) i ≡ some t

-- what the next scan needs: room for the line starts and errors after it, and for the bytes that it
-- writes
abbrev pub wants : List ℕ → Held → List ℕ → ℕ
wants src h area =
    let r = view src h.state h.table h.list in
    let u = next lex h.state.size r in
    let p = placed src (token_start r (scanned lex r)) (scanned lex r) in
    cond (ltb (length h.table) (length u.lines)) 7
    (cond (ltb (room_of h.list) (length u.errors)) 8
    (cond (ltb (length area) (length (to_area p))) 9 0))

-- a source that was opened as h, and any calls after it
pub record Progress (src : List ℕ) (h : Held) (areas : List (List ℕ)) : Type 0 where
  -- "EOF comes by scan 2n + 1"
  pub eof_by : (i : ℕ) (t : Seen) → Gives src h areas i t → 2 * length (chars src) ≤ i → t.token.kind ≡ EOF
  -- "and stays"
  pub eof_stays : (i j : ℕ) (t u : Seen) → Gives src h areas i t → Gives src h areas j u → i ≤ j → t.token.kind ≡ EOF → u.token.kind ≡ EOF
  -- "positions never fall"
  pub positions_rise : (i j : ℕ) (t u : Seen) → Gives src h areas i t → Gives src h areas j u → i ≤ j → t.token.position ≤ u.token.position
  -- "no two inserted semicolons are neighbours"
  pub no_neighbours : (i : ℕ) (t u : Seen) → Gives src h areas i t → Gives src h areas (suc i) u → t.token.inserted ≡ true → u.token.inserted ≡ false
  -- "line starts strictly rise"
  pub lines_rise : StrictlyRising (lines_in (play src areas h))
  -- the next scan is refused for want of room alone, never by 6 or 3
  pub only_room : (area : List ℕ) → (call src area (play src areas h)).answer.refusal ≡ wants src (play src areas h) area
