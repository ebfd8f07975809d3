-- What is read of a body, from the characters left, and the text that it has.
use Rattle.std.specs.Prelude.{ℕ, ◌+◌, ◌-◌, false, cond, List, [], ◌∷◌, ◌++◌, take}
use Prim.Native.Char.{code}
use Rattle.utf8.specs.declared.Char.{Char}
use Rattle.utf8.specs.Chars.{widths, is_stray, encode}
use Rattle.utf8.specs.Count.{is_lf, is_cr, count}
use Rattle.spans.specs.declared.body.Body.{Body}
use Rattle.spans.specs.Span.{Span, to_stop, to_star_slash}

-- the body of a span, at a place, of the characters left
unfoldable pub body_of : ℕ → Span → List Char → Body
body_of at s r =
    let cs = take s.len r in
    record {
      end = at + widths cs;
      chars = s.len;
      closed = s.closed;
      lfs = count is_lf cs;
      crs = count is_cr cs;
      strays = count is_stray cs;
    }

-- of what ends at the character `stop`, a raw string, a line comment and a general comment
abbrev pub stop_body : ℕ → ℕ → List Char → Body
stop_body stop at r = body_of at (to_stop stop r) r

abbrev pub raw_body : ℕ → List Char → Body
raw_body at r = stop_body (code "`") at r

abbrev pub line_body : ℕ → List Char → Body
line_body at r = stop_body (code "\n") at r

abbrev pub block_body : ℕ → List Char → Body
block_body at r = body_of at (to_star_slash false r) r

-- how many characters of a raw string's span belong to its value: not the closing backquote
abbrev pub raw_inside : Span → ℕ
raw_inside s = cond s.closed (s.len - 1) s.len

-- the bytes that a character has in the text of a comment or a raw string: a CR is dropped, a stray
-- byte is written as U+FFFD
abbrev pub cleaned : Char → List ℕ
cleaned c = cond (is_cr c) [] (encode c.code)

-- the text of characters there
unfoldable pub clean : List Char → List ℕ
clean [] = []
clean (c ∷ cs) = cleaned c ++ clean cs
