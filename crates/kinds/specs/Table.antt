-- The one table of the kinds: number, class and name of each, looked up by kind or by name.
use Rattle.std.specs.Prelude.{ℕ, Bool, true, false, cond, List, [], ◌∷◌, ◌++◌, eqb}
use Prim.Native.String.{String}
use Rattle.basics.specs.Same.{same}
use Rattle.basics.specs.Spelling.{spelled}
use Rattle.kinds.specs.Precedence.{among}
use Rattle.kinds.specs.Kinds.{NONE, ILLEGAL, EOF, COMMENT, IDENT, INT, FLOAT, IMAG, CHAR, STRING}
use Rattle.kinds.specs.Kinds.{ADD, SUB, MUL, QUO, REM, AND, OR, XOR, SHL, SHR, AND_NOT, ADD_ASSIGN, SUB_ASSIGN, MUL_ASSIGN, QUO_ASSIGN, REM_ASSIGN, AND_ASSIGN, OR_ASSIGN, XOR_ASSIGN, SHL_ASSIGN, SHR_ASSIGN, AND_NOT_ASSIGN}
use Rattle.kinds.specs.Kinds.{LAND, LOR, ARROW, INC, DEC, EQL, LSS, GTR, ASSIGN, NOT, NEQ, LEQ, GEQ, DEFINE, ELLIPSIS, LPAREN, LBRACK, LBRACE, COMMA, PERIOD, RPAREN, RBRACK, RBRACE, SEMICOLON, COLON}
use Rattle.kinds.specs.Kinds.{BREAK, CASE, CHAN, CONST, CONTINUE, DEFAULT, DEFER, ELSE, FALLTHROUGH, FOR, FUNC, GO, GOTO, IF, IMPORT, INTERFACE, MAP, PACKAGE, RANGE, RETURN, SELECT, STRUCT, SWITCH, TYPE, VAR}

-- the classes of the kinds
pub data Class : Type 0 where
  Literal : Class
  Operator : Class
  Keyword : Class
  Other : Class

-- what the table says of a kind
pub record Row : Type 0 where
  pub kind : ℕ
  pub class : Class
  pub name : List ℕ

-- a row of each class, its name in quotes
abbrev pub literal : ℕ → String → Row
literal k s = record { kind = k; class = Literal; name = spelled s }

abbrev pub operator : ℕ → String → Row
operator k s = record { kind = k; class = Operator; name = spelled s }

abbrev pub keyword : ℕ → String → Row
keyword k s = record { kind = k; class = Keyword; name = spelled s }

abbrev pub other : ℕ → String → Row
other k s = record { kind = k; class = Other; name = spelled s }

-- special tokens, identifiers and basic type literals
unfoldable pub specials : List Row
specials =
    other NONE "NONE" ∷
    other ILLEGAL "ILLEGAL" ∷
    other EOF "EOF" ∷
    other COMMENT "COMMENT" ∷
    literal IDENT "IDENT" ∷
    literal INT "INT" ∷
    literal FLOAT "FLOAT" ∷
    literal IMAG "IMAG" ∷
    literal CHAR "CHAR" ∷
    literal STRING "STRING" ∷
    []

-- operators and delimiters
unfoldable pub operators : List Row
operators =
    operator ADD "+" ∷
    operator SUB "-" ∷
    operator MUL "*" ∷
    operator QUO "/" ∷
    operator REM "%" ∷
    operator AND "&" ∷
    operator OR "|" ∷
    operator XOR "^" ∷
    operator SHL "<<" ∷
    operator SHR ">>" ∷
    operator AND_NOT "&^" ∷
    operator ADD_ASSIGN "+=" ∷
    operator SUB_ASSIGN "-=" ∷
    operator MUL_ASSIGN "*=" ∷
    operator QUO_ASSIGN "/=" ∷
    operator REM_ASSIGN "%=" ∷
    operator AND_ASSIGN "&=" ∷
    operator OR_ASSIGN "|=" ∷
    operator XOR_ASSIGN "^=" ∷
    operator SHL_ASSIGN "<<=" ∷
    operator SHR_ASSIGN ">>=" ∷
    operator AND_NOT_ASSIGN "&^=" ∷
    operator LAND "&&" ∷
    operator LOR "||" ∷
    operator ARROW "<-" ∷
    operator INC "++" ∷
    operator DEC "--" ∷
    operator EQL "==" ∷
    operator LSS "<" ∷
    operator GTR ">" ∷
    operator ASSIGN "=" ∷
    operator NOT "!" ∷
    operator NEQ "!=" ∷
    operator LEQ "<=" ∷
    operator GEQ ">=" ∷
    operator DEFINE ":=" ∷
    operator ELLIPSIS "..." ∷
    operator LPAREN "(" ∷
    operator LBRACK "[" ∷
    operator LBRACE "{" ∷
    operator COMMA "," ∷
    operator PERIOD "." ∷
    operator RPAREN ")" ∷
    operator RBRACK "]" ∷
    operator RBRACE "}" ∷
    operator SEMICOLON ";" ∷
    operator COLON ":" ∷
    []

-- the 25 keywords
unfoldable pub keywords : List Row
keywords =
    keyword BREAK "break" ∷
    keyword CASE "case" ∷
    keyword CHAN "chan" ∷
    keyword CONST "const" ∷
    keyword CONTINUE "continue" ∷
    keyword DEFAULT "default" ∷
    keyword DEFER "defer" ∷
    keyword ELSE "else" ∷
    keyword FALLTHROUGH "fallthrough" ∷
    keyword FOR "for" ∷
    keyword FUNC "func" ∷
    keyword GO "go" ∷
    keyword GOTO "goto" ∷
    keyword IF "if" ∷
    keyword IMPORT "import" ∷
    keyword INTERFACE "interface" ∷
    keyword MAP "map" ∷
    keyword PACKAGE "package" ∷
    keyword RANGE "range" ∷
    keyword RETURN "return" ∷
    keyword SELECT "select" ∷
    keyword STRUCT "struct" ∷
    keyword SWITCH "switch" ∷
    keyword TYPE "type" ∷
    keyword VAR "var" ∷
    []

-- all kinds, in the order of their numbers
unfoldable pub table : List Row
table = specials ++ operators ++ keywords

-- the kind of the first row with that name, or IDENT
unfoldable pub kind_named : List ℕ → List Row → ℕ
kind_named word [] = IDENT
kind_named word (row ∷ rows) = cond (same word row.name) row.kind (kind_named word rows)

-- the kind of a word: its keyword, or IDENT
abbrev pub ident_token : List ℕ → ℕ
ident_token word = kind_named word keywords

-- the row of a kind; a number that is no kind has the class of those that are no literal, operator
-- or keyword, and no name
unfoldable pub row_of : ℕ → List Row → Row
row_of k [] = other k ""
row_of k (row ∷ rows) = cond (eqb k row.kind) row (row_of k rows)

-- the name of a kind
abbrev pub name_of : ℕ → List ℕ
name_of k = (row_of k table).name

-- the class of a kind
abbrev pub class_of : ℕ → Class
class_of k = (row_of k table).class

-- whether a kind is of a class
abbrev pub is_literal : ℕ → Bool
is_literal k = elim (class_of k) [ Literal ↦ true | Operator ↦ false | Keyword ↦ false | Other ↦ false ]

abbrev pub is_operator : ℕ → Bool
is_operator k = elim (class_of k) [ Literal ↦ false | Operator ↦ true | Keyword ↦ false | Other ↦ false ]

abbrev pub is_keyword : ℕ → Bool
is_keyword k = elim (class_of k) [ Literal ↦ false | Operator ↦ false | Keyword ↦ true | Other ↦ false ]

-- of words and operators: "The mark is set after IDENT, .. `++ -- ) ] }`, break, continue,
-- fallthrough, return."
abbrev pub sets_mark : ℕ → Bool
sets_mark kind = among kind (IDENT ∷ INC ∷ DEC ∷ RPAREN ∷ RBRACK ∷ RBRACE ∷ BREAK ∷ CONTINUE ∷ FALLTHROUGH ∷ RETURN ∷ [])
