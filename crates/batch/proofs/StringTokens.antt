-- A string of plain characters alone that was given is one that the lexer says.
use Prim.Native.Nat.{ℕ, ◌+◌, ◌-◌, ◌<◌}
use mathlib.Core.Path.{◌≡◌, refl, ap, ◌∙◌}
use mathlib.Core.Bool.{Bool, true, false, cond}
use Rattle.std.specs.Prelude.{None}
use mathlib.Core.List.{List}
use native.Mathlib.Omega.{arith}
use lib.Dec.{eqb}
use lib.ListN.{length, drop, get_or}
use Rattle.utf8.specs.Chars.{chars}
use Rattle.kinds.specs.Kinds.{STRING}
use Rattle.kinds.specs.declared.kind.Kind.TheVariants.{String}
use Rattle.quotes.specs.Plain.{plain_len}
use Rattle.quotes.proofs.PlainRuns.{closed_at, run_closed}
use Rattle.lexer.specs.declared.lexed.Lexed.{Lexed}
use Rattle.lexer.specs.declared.lexed.Value.TheVariants.{Interpreted}
use Rattle.lexer.specs.Lex.{lex_token}
use Rattle.lexer.specs.Made.{shown_as}
use Rattle.lexer.specs.Placed.{placed, said}
use Rattle.lexer.proofs.QuotedTokens.{literal_as, string_closed}
use Rattle.lexer.proofs.Dispatch.{string_is}
use Rattle.scanner.specs.Steps.{token_by}
use Rattle.batch.specs.declared.next.Next.{Next}
use Rattle.batch.specs.Simple.{string_token, Gave}

-- the lexer's answer for a string of n plain characters; the code is that of the first
abbrev string_as : ℕ → ℕ → ℕ → Lexed
string_as at n code = literal_as (closed_at (at + 1) n code) at String None 0 (shown_as Interpreted n false)

module _ (src : List ℕ) (at close : ℕ) (there : get_or src at 0 ≡ 34) (e : close ≡ at + 1 + plain_len 34 (drop (at + 1) src)) (h : close < length src)
    (f : get_or src close 0 ≡ 34) where
  abbrev size : ℕ
  size = plain_len 34 (drop (at + 1) src)

  abbrev answer : Lexed
  answer = string_as at size (cond (eqb size 0) 0 (get_or src (at + 1) 0))

  reads : (mark : Bool) → said src at answer ≡ placed src at (lex_token mark (chars (drop at src)))
  reads mark =
      string_closed src at there (closed_at (at + 1) size (cond (eqb size 0) 0 (get_or src (at + 1) 0)))
      (run_closed 34 (omega arith) src (at + 1) size refl (omega (arith, e, h)) (rw e at f)) refl
      ∙ ap (placed src at) (string_is mark src at (omega (arith, e, h)) there)

  module _ (position : ℕ) where
    token_is : string_token position at close ≡ token_by answer at position
    token_is =
        let text : close + 1 ≡ at + (at + 1 + size + 1 - at + 0) = omega (arith, e) in
        let value : close ≡ at + 1 + (size + 0) = omega (arith, e) in
        λ i. record {
          kind = STRING;
          inserted = false;
          position = position;
          code = 0;
          text = record { area = false; start = at; end = text i };
          value = record { area = false; start = at + 1; end = value i };
        }

    pub gives_string : (safe : ℕ) → close < safe → {r : Next}
        → r ≡ record { token = string_token position at close; place = close + 1; mark = true } → Gave src at safe position r
    gives_string safe near {r} is =
        record {
          x = answer;
          reads = reads;
          plain = refl;
          ascii = omega arith;
          feeds = refl;
          known = refl;
          near = omega (arith, e, near);
          token = ap (λ (y : Next). y.token) is ∙ token_is;
          place = ap (λ (y : Next). y.place) is ∙ omega (arith, e);
          mark = ap (λ (y : Next). y.mark) is;
        }
