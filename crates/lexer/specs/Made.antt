-- Steps of the code. No public contract cites this file. The answers that the code makes.
use Rattle.std.specs.Prelude.{ℕ, ◌+◌, ◌-◌, ◌<◌, ◌≡◌, Bool, true, false, cond, not, ◌||◌, List, Option, Some, None, eqb, length, get_or}
pub use Prim.Native.Char.{code}
use Rattle.kinds.specs.declared.kind.Kind.{Kind}
use Rattle.kinds.specs.declared.kind.Kind.TheVariants.{Illegal, Semicolon}
use Rattle.errors.specs.declared.fault.Fault.{Fault}
use Rattle.errors.specs.declared.fault.Fault.TheVariants.{UnknownToken}
use Rattle.digits.specs.Digit.{is_decimal}
use Rattle.numbers.specs.declared.Spelling.{Spelling}
use Rattle.numbers.specs.declared.Spelling.TheVariants.{AsRead as Same, LowerPrefix, OctalPrefix, LowerExponent}
use Rattle.quotes.specs.declared.Quoted.{Quoted}
use Rattle.spans.specs.declared.body.Body.{Body}
use Rattle.lexer.specs.declared.lexed.Shown.{Shown}
use Rattle.lexer.specs.declared.lexed.Text.{Text}
use Rattle.lexer.specs.declared.lexed.Text.TheVariants.{Empty, AsRead, WithoutCr}
use Rattle.lexer.specs.declared.lexed.Value.{Value}
use Rattle.lexer.specs.declared.lexed.Value.TheVariants.{Empty as NoValue}
use Rattle.lexer.specs.declared.lexed.Lexed.{Lexed}

-- there is a byte there, which is no line feed, no digit and no backquote
abbrev pub StartsOther : List ℕ → ℕ → Type 0
StartsOther s at = (at < length s) × (eqb (get_or s at 0) (code "\n") ≡ false) × (is_decimal (get_or s at 0) ≡ false) × (eqb (get_or s at 0) (code "`") ≡ false)

-- a text or a value, how it is made, of so many bytes, and whether they are others than the source's
abbrev pub shown_as : {A : Type 0} → A → ℕ → Bool → Shown A
shown_as making bytes differs = record { making = making; bytes = bytes; differs = differs }

abbrev pub no_text : Shown Text
no_text = shown_as Empty 0 false

abbrev pub no_value : Shown Value
no_value = shown_as NoValue 0 false

-- a token of ASCII characters, with all that may differ between such tokens
abbrev pub answer_with : Option Fault → Kind → ℕ → ℕ → Bool → Bool → Shown Text → Lexed
answer_with error kind end chars inserted mark text =
    record {
      end = end;
      chars = chars;
      lfs = 0;
      strays = 0;
      kind = kind;
      inserted = inserted;
      mark = mark;
      error = error;
      code = 0;
      text = text;
      value = no_value;
    }

abbrev pub bare_as : Kind → ℕ → ℕ → Bool → Lexed
bare_as kind end chars mark = answer_with None kind end chars false mark no_text

-- whose text is the characters read
abbrev pub read_as : Kind → ℕ → ℕ → Bool → Lexed
read_as kind end chars mark = answer_with None kind end chars false mark (shown_as AsRead chars false)

-- characters that are no token
abbrev pub unknown_as : ℕ → ℕ → Bool → Lexed
unknown_as end chars mark = answer_with (Some UnknownToken) Illegal end chars false mark (shown_as AsRead chars false)

-- one character, of so many bytes, that starts no token; it may be a stray byte
abbrev pub illegal_at : ℕ → ℕ → Bool → Bool → Lexed
illegal_at at width mark stray =
    record {
      end = at + width;
      chars = 1;
      lfs = 0;
      strays = cond stray 1 0;
      kind = Illegal;
      inserted = false;
      mark = mark;
      error = Some UnknownToken;
      code = 0;
      text = shown_as AsRead width stray;
      value = no_value;
    }

abbrev pub inserted_at : ℕ → Lexed
inserted_at at = answer_with None Semicolon at 0 true false no_text

-- how many bytes more than was read a number's text has, and whether it is another
abbrev pub gained_by : Spelling → ℕ
gained_by Same = 0
gained_by LowerPrefix = 0
gained_by OctalPrefix = 1
gained_by LowerExponent = 0

abbrev pub respelled_by : Spelling → Bool
respelled_by Same = false
respelled_by LowerPrefix = true
respelled_by OctalPrefix = true
respelled_by LowerExponent = true

-- a literal by its body, of a kind, with its error
abbrev pub quoted_as : Quoted → ℕ → Kind → Option Fault → Lexed
quoted_as q at kind error =
    record {
      end = q.end;
      chars = q.content.chars + 1;
      lfs = 0;
      strays = q.content.strays;
      kind = kind;
      inserted = false;
      mark = true;
      error = error;
      code = 0;
      text = shown_as AsRead (q.end - at) (not (eqb q.content.strays 0));
      value = no_value;
    }

-- the text of a raw string or a comment by its body
abbrev pub clean_as : Body → ℕ → Shown Text
clean_as b at = shown_as WithoutCr (b.end - at - b.crs) (not (eqb b.crs 0) || not (eqb b.strays 0))

-- a raw string or a comment by its body
abbrev pub spanned_as : Body → ℕ → ℕ → Kind → Bool → Lexed
spanned_as b at opening kind mark =
    record {
      end = b.end;
      chars = b.chars + opening;
      lfs = b.lfs;
      strays = b.strays;
      kind = kind;
      inserted = false;
      mark = mark;
      error = None;
      code = 0;
      text = clean_as b at;
      value = no_value;
    }
