-- Laws of the value of a raw string: how many of its body's characters belong to it.
use Prim.Native.Nat.{ℕ, ◌-◌, ◌<◌}
use mathlib.Core.Path.{◌≡◌, sym, ap, ◌∙◌}
use mathlib.Core.Bool.{true, false}
use mathlib.Core.List.{List}
use Rattle.utf8.specs.declared.Char.{Char}
use Rattle.spans.specs.declared.body.Body.{Body}
use Rattle.spans.specs.Span.{to_stop}
use Rattle.spans.specs.Body.{body_of, raw_body, raw_inside}
use Rattle.spans.proofs.Spans.{stop_spanned}

module _ (at : ℕ) (r : List Char) (b : Body) (e : b ≡ raw_body at r) where
  same_chars : b.chars ≡ (to_stop 96 r).len
  unfolding body_of
  same_chars = ap (λ (x : Body). x.chars) e

  same_closed : b.closed ≡ (to_stop 96 r).closed
  unfolding body_of
  same_closed = ap (λ (x : Body). x.closed) e

  -- the backquote is one of them
  pub raw_some : b.closed ≡ true → 0 < b.chars
  raw_some t = rw same_chars ((stop_spanned 96 r).some (sym same_closed ∙ t))

  pub raw_closed : b.closed ≡ true → b.chars - 1 ≡ raw_inside (to_stop 96 r)
  raw_closed t = rw (← same_closed, t, same_chars)

  pub raw_open : b.closed ≡ false → b.chars ≡ raw_inside (to_stop 96 r)
  raw_open t = rw (← same_closed, t, same_chars)
