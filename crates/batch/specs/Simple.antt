-- Steps of the code. No public contract cites this file. Simple tokens, as the code of many scans reads them.
use Rattle.std.specs.Prelude.{ℕ, ◌+◌, ◌-◌, ◌<◌, ◌≡◌, Bool, true, false, cond, List, [], ◌∷◌, eqb, length, drop, get_or, Option, IfSome}
use Prim.Native.Char.{code}
use Rattle.utf8.specs.Chars.{chars}
use Rattle.digits.specs.Digit.{is_decimal}
use Rattle.kinds.specs.Kinds.{EOF, IDENT, STRING}
use Rattle.kinds.specs.Table.{Row, operators, keywords}
use Rattle.kinds.specs.Number.{kind_number}
use Rattle.keywords.specs.Search.{by_slot, row_in, kind_in}
use Rattle.words.specs.Word.{is_letter}
use Rattle.lexer.specs.declared.lexed.Lexed.{Lexed}
use Rattle.lexer.specs.Lex.{lex_token}
use Rattle.lexer.specs.Placed.{placed, said}
use Rattle.parts.specs.declared.token.Token.{Token}
use Rattle.batch.specs.declared.first.First.{First}
use Rattle.batch.specs.declared.first.First.TheVariants.{Letter, Delimiter, Point, LineFeed, Operator, Digit, Quote, Other}
use Rattle.batch.specs.declared.next.Next.{Next}
use Rattle.batch.specs.declared.start.Start.{Start}
use Rattle.batch.specs.KindOf.{kind_of}
use Rattle.batch.specs.Near.{line_feed}
use Rattle.scanner.specs.Steps.{is_plain, token_by}

-- the rows whose name starts with a byte
unfoldable pub rows_from : ℕ → List Row → List Row
rows_from b [] = []
rows_from b (row ∷ rows) = cond (eqb (get_or row.name 0 0) b) (row ∷ rows_from b rows) (rows_from b rows)

-- what the first byte of these operators tells: a delimiter of its kind, if it is the only one and
-- all of it; else an operator
abbrev pub operator_first : List Row → First
operator_first [] = Other
operator_first (row ∷ []) = cond (eqb (length row.name) 1) (Delimiter (kind_of row.kind)) Operator
operator_first (row ∷ next ∷ rows) = Operator

-- the double quote, with which a string starts and ends
abbrev pub quote : ℕ
quote = code "\""

abbrev pub point : ℕ
point = code "."

-- what a first byte tells; a slash may start a comment
unfoldable pub first_of : ℕ → First
first_of b =
    cond (is_letter b) Letter
    (cond (is_decimal b) Digit
    (cond (eqb b quote) Quote
    (cond (eqb b line_feed) LineFeed
    (cond (eqb b point) Point
    (cond (eqb b (code "/")) Other (operator_first (rows_from b operators)))))))

-- the table of what each first byte tells
abbrev pub IsTable : List First → Type 0
IsTable table = (b : ℕ) → b < 256 → get_or table b Other ≡ first_of b

-- so many decimal digits are before another byte
abbrev pub DigitsBefore : List ℕ → ℕ → Type 0
DigitsBefore text n =
    (n < length text) × (is_decimal (get_or text n 0) ≡ false) × ((k : ℕ) → k < n → is_decimal (get_or text k 0) ≡ true)

-- the tables of the keywords of at most eight bytes: their numbers and their kinds, each in its
-- slot
abbrev pub IsKeywords : List ℕ → List ℕ → Type 0
IsKeywords numbers kinds = (numbers ≡ by_slot (λ slot. (row_in slot keywords).1)) × (kinds ≡ by_slot (λ slot. (row_in slot keywords).0))

-- the kind that they tell of a word of n bytes, by the number that the word is
abbrev pub keyword_in : ℕ → ℕ → ℕ
keyword_in number n = kind_in (by_slot (λ slot. (row_in slot keywords).1)) (by_slot (λ slot. (row_in slot keywords).0)) number n

-- a token without a value; its text is the source's bytes from its start to an end
abbrev pub simple_token : ℕ → Bool → ℕ → ℕ → ℕ → Token
simple_token kind inserted position start end =
    record {
      kind = kind;
      inserted = inserted;
      position = position;
      code = 0;
      text = record { area = false; start = start; end = end };
      value = record { area = false; start = start; end = start };
    }

-- a string from a place to its closing quote; its value is the source's bytes between the quotes
abbrev pub string_token : ℕ → ℕ → ℕ → Token
string_token position start close =
    record {
      kind = STRING;
      inserted = false;
      position = position;
      code = 0;
      text = record { area = false; start = start; end = close + 1 };
      value = record { area = false; start = start + 1; end = close };
    }

-- a word of a kind, from a place to another
abbrev pub word_token : ℕ → ℕ → ℕ → ℕ → Token
word_token kind position at end = simple_token kind false position at (cond (eqb kind IDENT) end at)

-- a letter is at a place where a token starts
abbrev pub StartsWord : Start → Type 0
StartsWord start = is_letter (get_or start.src.now start.at 0) ≡ true

-- what was given is what the lexer says of the token at a place, whatever the mark is: a plain
-- token of ASCII characters, no line feed among them, that ends at most sixteen bytes after the
-- safe place
pub record Gave (src : List ℕ) (at safe position : ℕ) (r : Next) : Type 0 where
  pub x : Lexed
  pub reads : (mark : Bool) → said src at x ≡ placed src at (lex_token mark (chars (drop at src)))
  pub plain : is_plain x ≡ true
  pub ascii : x.chars ≡ x.end - at
  pub feeds : x.lfs ≡ 0
  pub known : eqb (kind_number x.kind) EOF ≡ false
  pub near : x.end < safe + 16
  pub token : r.token ≡ token_by x at position
  pub place : r.place ≡ x.end
  pub mark : r.mark ≡ x.mark

-- the same of what was given where a token starts
abbrev pub Gives : Start → Next → Type 0
Gives start next = Gave start.src.now start.at start.safe start.position next

-- if it was given
abbrev pub GivesSimple : Start → Option Next → Type 0
GivesSimple start r = IfSome r (Gives start)
