-- The table of what each first byte tells, as the loops of `batch::tables::firsts` build it.
use Prim.Native.Nat.{ℕ, zero, suc, ◌+◌, ◌-◌, ◌≤◌, ◌<◌}
use Prim.Native.Char.{code}
use mathlib.Core.Path.{◌≡◌, refl, sym, ap, ◌∙◌}
use mathlib.Core.List.{List, [], ◌∷◌}
use native.Mathlib.Nat.{add-zero, zero-add, add-suc, suc-add}
use native.Mathlib.Omega.{arith}
use lib.ListN.{get_or, set, replicate}
use Rattle.kinds.specs.declared.kind.Kind.TheVariants.{Lparen, Lbrack, Lbrace, Comma, Rparen, Rbrack, Rbrace, Semicolon}
use Rattle.kinds.specs.Table.{operators}
use Rattle.words.specs.Word.{is_letter}
use Rattle.batch.specs.declared.first.First.{First}
use Rattle.batch.specs.declared.first.First.TheVariants.{Letter, Delimiter, Point, LineFeed, Operator, Digit, Quote, Other}
use Rattle.batch.specs.KindOf.{all_kinds}
use Rattle.batch.specs.Simple.{rows_from, first_of, IsTable}

-- the table before the loops
unfoldable pub marks : List First
marks =
    let to-lparen = set (set (set (set (set (set (replicate 256 Other) (code "\n") LineFeed) (code "!") Operator) (code "\"") Quote) (code "%") Operator) (code "&") Operator) (code "(") (Delimiter Lparen) in
    let to-period = set (set (set (set (set (set to-lparen (code ")") (Delimiter Rparen)) (code "*") Operator) (code "+") Operator) (code ",") (Delimiter Comma)) (code "-") Operator) (code ".") Point in
    let to-greater = set (set (set (set (set to-period (code ":") Operator) (code ";") (Delimiter Semicolon)) (code "<") Operator) (code "=") Operator) (code ">") Operator in
    set (set (set (set (set (set (set to-greater (code "[") (Delimiter Lbrack)) (code "]") (Delimiter Rbrack)) (code "^") Operator) (code "_") Letter) (code "{") (Delimiter Lbrace)) (code "|") Operator) (code "}") (Delimiter Rbrace)

-- with the first n entries from a place on told to be of a class
unfoldable pub told : ℕ → First → List First → ℕ → List First
told from class table zero = table
told from class table (suc n) = set (told from class table n) (from + n) class

-- with the letters, in both cases, and the digits
abbrev pub capitals : ℕ → List First
capitals = told (code "A") Letter marks

abbrev pub smalls : ℕ → List First
smalls = told (code "a") Letter (capitals 26)

abbrev pub digits : ℕ → List First
digits = told (code "0") Digit (smalls 26)

-- what a function says of n numbers from one on
unfoldable said_of : (ℕ → First) → ℕ → ℕ → List First
said_of f from zero = []
said_of f from (suc n) = f from ∷ said_of f (suc from) n

said_at : (f : ℕ → First) (n from k : ℕ) → k < n → get_or (said_of f from n) k Other ≡ f (from + k)
unfolding said_of
said_at f zero from k h = absurd (omega arith)
said_at f (suc n) from zero h = ap f (sym (add-zero from))
said_at f (suc n) from (suc k) h = said_at f n (suc from) k (omega arith) ∙ ap f (suc-add from k ∙ sym (add-suc from k))

all_told : digits 10 ≡ said_of first_of 0 256
unfolding told marks said_of first_of rows_from operators is_letter all_kinds
all_told = refl

pub is_table : IsTable (digits 10)
is_table b h = ap (λ l. get_or l b Other) all_told ∙ said_at first_of 256 0 b h ∙ ap first_of (zero-add b)

-- one more entry, at the place k
pub more : (from : ℕ) (class : First) (table : List First) (k : ℕ) → from ≤ k → set (told from class table (k - from)) k class ≡ told from class table (k + 1 - from)
unfolding told
more from class table k h =
    let e : k + 1 - from ≡ suc (k - from) = omega arith in
    let at : from + (k - from) ≡ k = omega arith in
    rw (e, at)
