-- Worked examples, by computation: what stands after the opening of a comment or a raw string.
use Prim.Native.Char.{code}
use mathlib.Core.Path.{◌≡◌, refl}
use mathlib.Core.Bool.{true, false}
use mathlib.Core.List.{[], ◌∷◌, ◌++◌}
use Rattle.basics.specs.Spelling.{spelled}
use Rattle.utf8.specs.Chars.{chars_from, chars, first_char, octets, encode}
use Rattle.spans.specs.Span.{to_stop, to_star_slash}
use Rattle.spans.specs.Body.{body_of, raw_body, line_body, clean}
use Rattle.blanks.specs.Blank.{is_space}
use Rattle.spans.specs.Line.{blank_to_end, ends_line}

-- `/*/` is not closed
opening_star : to_star_slash false (chars (spelled "/")) ≡ record { len = 1; closed = false }
unfolding chars_from first_char to_star_slash
opening_star = refl

two_stars : to_star_slash false (chars (spelled "**/ /")) ≡ record { len = 3; closed = true }
unfolding chars_from first_char to_star_slash
two_stars = refl

-- a CR between `*` and `/` does not close
cr_between : to_star_slash false (chars ((code "*") ∷ code "\r" ∷ code "/" ∷ [])) ≡ record { len = 3; closed = false }
unfolding chars_from first_char to_star_slash
cr_between = refl

-- a raw string at place 1 with an LF, a CR, a character of two bytes and a stray byte
raw : raw_body 1 (chars ((code "\n") ∷ code "\r" ∷ 0xC3 ∷ 0xA9 ∷ 0xFF ∷ code "`" ∷ code "a" ∷ [])) ≡ record { end = 7; chars = 5; closed = true; lfs = 1; crs = 1; strays = 1 }
unfolding chars_from first_char to_stop body_of
raw = refl

raw_text : clean (chars ((code "\n") ∷ code "\r" ∷ 0xC3 ∷ 0xA9 ∷ 0xFF ∷ code "`" ∷ [])) ≡ code "\n" ∷ 0xC3 ∷ 0xA9 ∷ 0xEF ∷ 0xBF ∷ 0xBD ∷ code "`" ∷ []
unfolding chars_from first_char octets encode clean
raw_text = refl

-- a line comment reads its LF
line : line_body 2 (chars (spelled " c" ++ ((code "\n") ∷ spelled "x"))) ≡ record { end = 5; chars = 3; closed = true; lfs = 1; crs = 0; strays = 0 }
unfolding chars_from first_char to_stop body_of
line = refl

-- `x /* c */ r` LF: the comment does not end its line
code_behind : ends_line false (chars (spelled " c */ r" ++ ((code "\n") ∷ []))) ≡ false
unfolding chars_from first_char is_space blank_to_end ends_line
code_behind = refl

blanks_behind : ends_line false (chars (spelled " c */ " ++ ((code "\t") ∷ code "\r" ∷ code "\n" ∷ []))) ≡ true
unfolding chars_from first_char is_space blank_to_end ends_line
blanks_behind = refl

feed_inside : ends_line false (chars ((code "\n") ∷ spelled "*/ r")) ≡ true
unfolding chars_from first_char is_space blank_to_end ends_line
feed_inside = refl

never_closed : ends_line false (chars (spelled "/ r")) ≡ true
unfolding chars_from first_char is_space blank_to_end ends_line
never_closed = refl
