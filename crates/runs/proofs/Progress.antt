-- What the run with no bound on lines and errors shows of progress holds of any calls after an accepted opening.
use Prim.Native.Nat.{ℕ, zero, suc, ◌+◌, ◌*◌, ◌-◌, ◌≤◌}
use mathlib.Core.Path.{◌≡◌, refl, sym, ap, ◌∙◌, subst}
use mathlib.Core.Bool.{Bool, true, false}
use mathlib.Core.List.{List}
use native.Mathlib.Nat.{add-zero, add-suc}
use native.Mathlib.Omega.{arith}
use lib.ListN.{length, get_elem?}
use Rattle.utf8.specs.Chars.{chars}
use Rattle.kinds.specs.Kinds.{EOF}
use Rattle.position.specs.Lines.{StrictlyRising}
use Rattle.lexer.specs.Lex.{lex}
use Rattle.reading.specs.Reading.{Reading}
use Rattle.reading.specs.Run.{scanned, run, token, token_at}
use Rattle.reading.proofs.Runs.{run_add}
use Rattle.reading.proofs.Scanner.{scan_eof_by, scan_eof_stays, scan_positions_rise, scan_no_neighbours, scan_lines_rise}
use Rattle.scanner.specs.Scan.{view}
use Rattle.runs.specs.Calls.{Held, Accepted, Seen, play, tokens, lines_in}
use Rattle.runs.specs.Progress.{Gives, Progress}
use Rattle.runs.proofs.Seen.{seen_of, view_of, seen_at}
use Rattle.runs.proofs.Played.{played_view, played_tokens}
use Rattle.runs.proofs.Accepted.{accepted_view}
use Rattle.runs.proofs.Room.{only_room}
use Rattle.runs.proofs.Firsts.{firsts_gives}

-- ---- the run from any reading
module _ (base size : ℕ) (s : Reading) where
  eof_later : (i j : ℕ) → i ≤ j → (token_at lex base size s i).kind ≡ EOF → (token_at lex base size s j).kind ≡ EOF
  unfolding token_at token
  eof_later i j l e =
      let d : i + (j - i) ≡ j = omega arith in
      ap (λ n. (scanned lex (run lex size s n)).kind) (sym d)
      ∙ ap (λ r. (scanned lex r).kind) (run_add lex size s i (j - i))
      ∙ scan_eof_stays size (run lex size s i) e (j - i)

  positions_add : (i d : ℕ) → (token_at lex base size s i).position ≤ (token_at lex base size s (i + d)).position
  positions_add i zero = rw add-zero (omega arith)
  positions_add i (suc d) = rw add-suc (omega (arith, positions_add i d, scan_positions_rise size base s (i + d)))

-- ---- any calls after an accepted opening
module _ (src : List ℕ) (base size : ℕ) (h : Held) (a : Accepted src base size h) (areas : List (List ℕ)) where
  gives : (i : ℕ) (t : Seen) → Gives src h areas i t → t ≡ seen_at src h i
  gives i t g = firsts_gives (seen_at src h) (length (tokens src areas h)) i t (ap (λ l. get_elem? l i) (sym (played_tokens src areas h)) ∙ g)

  eof_by : (i : ℕ) (t : Seen) → Gives src h areas i t → 2 * length (chars src) ≤ i → t.token.kind ≡ EOF
  unfolding seen_of
  eof_by i t g l =
      let b = h.state.base in
      let z = h.state.size in
      ap (λ u. u.token.kind) (gives i t g)
      ∙ ap (λ r. (token_at lex b z r i).kind) (accepted_view a)
      ∙ scan_eof_by z b (chars src) i (omega arith)

  eof_stays : (i j : ℕ) (t u : Seen) → Gives src h areas i t → Gives src h areas j u → i ≤ j → t.token.kind ≡ EOF → u.token.kind ≡ EOF
  unfolding seen_of
  eof_stays i j t u g k l e =
      ap (λ v. v.token.kind) (gives j u k)
      ∙ eof_later h.state.base h.state.size (view_of src h) i j l (sym (ap (λ v. v.token.kind) (gives i t g)) ∙ e)

  positions_rise : (i j : ℕ) (t u : Seen) → Gives src h areas i t → Gives src h areas j u → i ≤ j → t.token.position ≤ u.token.position
  unfolding seen_of
  positions_rise i j t u g k l =
      let d : i + (j - i) ≡ j = omega arith in
      let p = rw d at (positions_add h.state.base h.state.size (view_of src h) i (j - i)) in
      rw (gives i t g, gives j u k) p

  no_neighbours : (i : ℕ) (t u : Seen) → Gives src h areas i t → Gives src h areas (suc i) u → t.token.inserted ≡ true → u.token.inserted ≡ false
  unfolding seen_of
  no_neighbours i t u g k e = go u.token.inserted refl
    where
      go : (b : Bool) → u.token.inserted ≡ b → b ≡ false
      go false f = refl
      go true f =
          absurd
          (scan_no_neighbours h.state.size h.state.base (view_of src h) i
          (sym (ap (λ v. v.token.inserted) (gives i t g)) ∙ e)
          (sym (ap (λ v. v.token.inserted) (gives (suc i) u k)) ∙ f))

  lines_rise : StrictlyRising (lines_in (play src areas h))
  unfolding view
  lines_rise =
      let e = played_view src areas h ∙ ap (λ r. run lex h.state.size r (length (tokens src areas h))) (accepted_view a) in
      subst (λ r. StrictlyRising r.lines) (sym e) (scan_lines_rise h.state.size (chars src) (length (tokens src areas h)))

pub progress : (src : List ℕ) (base size : ℕ) (h : Held) → Accepted src base size h → (areas : List (List ℕ)) → Progress src h areas
progress src base size h a areas =
    record {
      eof_by = eof_by src base size h a areas;
      eof_stays = eof_stays src base size h a areas;
      positions_rise = positions_rise src base size h a areas;
      no_neighbours = no_neighbours src base size h a areas;
      lines_rise = lines_rise src base size h a areas;
      only_room = only_room src base size h a areas;
    }
