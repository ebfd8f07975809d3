-- The tokens of two joined texts: those of the second have their parts of the source moved, those of the first are the same.
use Prim.Native.Nat.{ℕ, ◌+◌, ◌≤◌}
use mathlib.Core.Path.{◌≡◌, refl, sym, ap, ◌∙◌}
use mathlib.Core.Bool.{Bool, true, false, cond}
use mathlib.Core.List.{List, ◌++◌, append_assoc}
use native.Mathlib.Omega.{arith}
use native.Mathlib.Nat.{zero-add, add_assoc}
use lib.Dec.{eqb}
use lib.ListN.{length, take, drop, take-append-drop}
use lib.Seq.{take-append_seam, take-append-le, drop-append_seam, drop-append-le, drop-append-add}
use Rattle.utf8.specs.declared.Char.{Char}
use Rattle.utf8.specs.Chars.{chars, widths, well_formed}
use Rattle.utf8.proofs.Append.{chars_append}
use Rattle.utf8.proofs.Places.{place_chars, place_fits}
use Rattle.kinds.specs.Kinds.{STRING}
use Rattle.lexer.specs.Lexeme.{Lexeme}
use Rattle.lexer.specs.Placed.{placed}
use Rattle.reading.specs.Run.{Token, move}
use Rattle.scanner.specs.Scan.{part_from}
use Rattle.runs.specs.Joined.{move_part, move_seen}
use Rattle.runs.proofs.Seen.{seen_of, lexeme_of}

-- ---- tokens of the second text
-- a part that stands at a in the text area, or else at `start` in the source
part_moved : (w a start len : ℕ) (d : Bool) → part_from d (cond d a (w + start)) len ≡ move_part w (part_from d (cond d a start) len)
part_moved w a start len true = refl
part_moved w a start len false = ap (λ e. record { area = false; start = w + start; end = e }) (add_assoc w start len)

-- the value's start, after the opening quote of a string
quote_moved : (w start : ℕ) (d : Bool) → cond d (w + start + 1) (w + start) ≡ w + cond d (start + 1) start
quote_moved w start true = add_assoc w start 1
quote_moved w start false = refl

-- a token of the second of two joined texts is the same, with its parts of the source moved
pub seen_moved : (x y : List ℕ) (t : Token) → seen_of (x ++ y) (move (length x) t) ≡ move_seen (length x) (seen_of y t)
unfolding seen_of move_seen move placed
seen_moved x y t =
    let w = length x in
    let p = placed y t.start (lexeme_of t) in
    let at = cond (eqb t.kind STRING) (t.start + 1) t.start in
    rw (
      drop-append-add x y t.start,
      quote_moved w t.start (eqb t.kind STRING),
      part_moved w 0 t.start (length t.text) p.text_differs,
      part_moved w (cond p.text_differs (length t.text) 0) at (length t.value) p.value_differs,
    )

-- ---- tokens of the first text
-- what stands in a text after its first characters
chars_behind : (s : List ℕ) (p q : List Char) → chars s ≡ p ++ q → chars (drop (widths p) s) ≡ q
chars_behind s p q e = rw (e, take-append_seam p q, drop-append_seam p q, zero-add) at (place_chars (length p) s 0)

-- and they fit in it
widths_fit : (s : List ℕ) (p q : List Char) → chars s ≡ p ++ q → widths p ≤ length s
widths_fit s p q e = rw (e, take-append_seam p q, zero-add) at (place_fits (length p) s 0 (omega arith))

-- a lexeme of the first text stands in the joined bytes as in its own
placed_kept : (x y : List ℕ) (l : Lexeme) (p q : List Char) → well_formed x ≡ true → p ++ q ≡ chars x → l.len ≤ length q
    → placed (x ++ y) (widths p) l ≡ placed x (widths p) l
unfolding placed
placed_kept x y l p q g e h =
    let behind = chars_behind x p q (sym e) in
    let joined = chars_behind (x ++ y) p (q ++ chars y) (chars_append x y g ∙ rw (← e) (append_assoc p q (chars y))) in
    let inside = widths_fit (drop (widths p) x) (take l.len q) (drop l.len q) (behind ∙ sym (take-append-drop l.len q)) in
    rw (
      joined,
      behind,
      take-append-le l.len q (chars y) h,
      drop-append-le (widths p) x y (widths_fit x p q (sym e)),
      take-append-le (widths (take l.len q)) (drop (widths p) x) y inside,
    )

-- a token of the first is the same with more text after it
pub seen_kept : (x y : List ℕ) (t : Token) (p q : List Char) → well_formed x ≡ true → p ++ q ≡ chars x → t.start ≡ widths p → t.len ≤ length q
    → seen_of (x ++ y) t ≡ seen_of x t
unfolding seen_of
seen_kept x y t p q g e s h = rw (s, placed_kept x y (lexeme_of t) p q g e h)
