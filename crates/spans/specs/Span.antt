-- How much of a text belongs to a body: up to and with what closes it, or all.
use Rattle.std.specs.Prelude.{ℕ, suc, Bool, true, false, cond, ◌&&◌, List, [], ◌∷◌, eqb}
use Prim.Native.Char.{code}
use Rattle.utf8.specs.declared.Char.{Char}

-- so many characters, the closing one with them if there is one
pub record Span : Type 0 where
  pub len : ℕ
  pub closed : Bool

-- the end was met
abbrev pub unclosed : Span
unclosed = record { len = 0; closed = false }

-- the next character closes it
abbrev pub last : Span
last = record { len = 1; closed = true }

-- one character before
abbrev pub longer_span : Span → Span
longer_span s = record { len = suc s.len; closed = s.closed }

-- to the first character of the code `stop`
unfoldable pub to_stop : ℕ → List Char → Span
to_stop stop [] = unclosed
to_stop stop (c ∷ r) = cond (eqb c.code stop) last (longer_span (to_stop stop r))

-- to the first `*/`; `star`: the character before is a `*`. The opening's own does not count, and a
-- dropped CR is a character still
unfoldable pub to_star_slash : Bool → List Char → Span
to_star_slash star [] = unclosed
to_star_slash star (c ∷ r) = cond (star && eqb c.code (code "/")) last (longer_span (to_star_slash (eqb c.code (code "*")) r))
