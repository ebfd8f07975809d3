-- The number of a kind: its place in the list of the kinds.
use Rattle.std.specs.Prelude.{ℕ, ◌≡◌, ◌<◌, Result, MatchResult}
use Rattle.kinds.specs.declared.kind.UnknownKind.{UnknownKind}
use Rattle.kinds.specs.declared.kind.Kind.{Kind}
use Rattle.kinds.specs.declared.kind.Kind.TheVariants.{None, Illegal, Eof, Comment}
use Rattle.kinds.specs.declared.kind.Kind.TheVariants.{Ident, Int, Float, Imag, Char, String}
use Rattle.kinds.specs.declared.kind.Kind.TheVariants.{Add, Sub, Mul, Quo, Rem, And, Or, Xor, Shl, Shr, AndNot, AddAssign, SubAssign, MulAssign, QuoAssign, RemAssign, AndAssign, OrAssign, XorAssign, ShlAssign, ShrAssign, AndNotAssign, Land, Lor, Arrow, Inc, Dec, Eql, Lss, Gtr, Assign, Not, Neq, Leq, Geq, Define, Ellipsis, Lparen, Lbrack, Lbrace, Comma, Period, Rparen, Rbrack, Rbrace, Semicolon, Colon}
use Rattle.kinds.specs.declared.kind.Kind.TheVariants.{Break, Case, Chan, Const, Continue, Default, Defer, Else, Fallthrough, For, Func, Go, Goto, If, Import, Interface, Map, Package, Range, Return, Select, Struct, Switch, «Type», Var}
use Rattle.kinds.specs.Kinds.{NONE, ILLEGAL, EOF, COMMENT, IDENT, INT, FLOAT, IMAG, CHAR, STRING, ADD, SUB, MUL, QUO, REM, AND, OR, XOR, SHL, SHR, AND_NOT, ADD_ASSIGN, SUB_ASSIGN, MUL_ASSIGN, QUO_ASSIGN, REM_ASSIGN, AND_ASSIGN, OR_ASSIGN, XOR_ASSIGN, SHL_ASSIGN, SHR_ASSIGN, AND_NOT_ASSIGN, LAND, LOR, ARROW, INC, DEC, EQL, LSS, GTR, ASSIGN, NOT, NEQ, LEQ, GEQ, DEFINE, ELLIPSIS, LPAREN, LBRACK, LBRACE, COMMA, PERIOD, RPAREN, RBRACK, RBRACE, SEMICOLON, COLON, BREAK, CASE, CHAN, CONST, CONTINUE, DEFAULT, DEFER, ELSE, FALLTHROUGH, FOR, FUNC, GO, GOTO, IF, IMPORT, INTERFACE, MAP, PACKAGE, RANGE, RETURN, SELECT, STRUCT, SWITCH, TYPE, VAR}

abbrev pub kind_number : Kind → ℕ
kind_number None = NONE
kind_number Illegal = ILLEGAL
kind_number Eof = EOF
kind_number Comment = COMMENT
kind_number Ident = IDENT
kind_number Int = INT
kind_number Float = FLOAT
kind_number Imag = IMAG
kind_number Char = CHAR
kind_number String = STRING
kind_number Add = ADD
kind_number Sub = SUB
kind_number Mul = MUL
kind_number Quo = QUO
kind_number Rem = REM
kind_number And = AND
kind_number Or = OR
kind_number Xor = XOR
kind_number Shl = SHL
kind_number Shr = SHR
kind_number AndNot = AND_NOT
kind_number AddAssign = ADD_ASSIGN
kind_number SubAssign = SUB_ASSIGN
kind_number MulAssign = MUL_ASSIGN
kind_number QuoAssign = QUO_ASSIGN
kind_number RemAssign = REM_ASSIGN
kind_number AndAssign = AND_ASSIGN
kind_number OrAssign = OR_ASSIGN
kind_number XorAssign = XOR_ASSIGN
kind_number ShlAssign = SHL_ASSIGN
kind_number ShrAssign = SHR_ASSIGN
kind_number AndNotAssign = AND_NOT_ASSIGN
kind_number Land = LAND
kind_number Lor = LOR
kind_number Arrow = ARROW
kind_number Inc = INC
kind_number Dec = DEC
kind_number Eql = EQL
kind_number Lss = LSS
kind_number Gtr = GTR
kind_number Assign = ASSIGN
kind_number Not = NOT
kind_number Neq = NEQ
kind_number Leq = LEQ
kind_number Geq = GEQ
kind_number Define = DEFINE
kind_number Ellipsis = ELLIPSIS
kind_number Lparen = LPAREN
kind_number Lbrack = LBRACK
kind_number Lbrace = LBRACE
kind_number Comma = COMMA
kind_number Period = PERIOD
kind_number Rparen = RPAREN
kind_number Rbrack = RBRACK
kind_number Rbrace = RBRACE
kind_number Semicolon = SEMICOLON
kind_number Colon = COLON
kind_number Break = BREAK
kind_number Case = CASE
kind_number Chan = CHAN
kind_number Const = CONST
kind_number Continue = CONTINUE
kind_number Default = DEFAULT
kind_number Defer = DEFER
kind_number Else = ELSE
kind_number Fallthrough = FALLTHROUGH
kind_number For = FOR
kind_number Func = FUNC
kind_number Go = GO
kind_number Goto = GOTO
kind_number If = IF
kind_number Import = IMPORT
kind_number Interface = INTERFACE
kind_number Map = MAP
kind_number Package = PACKAGE
kind_number Range = RANGE
kind_number Return = RETURN
kind_number Select = SELECT
kind_number Struct = STRUCT
kind_number Switch = SWITCH
kind_number «Type» = TYPE
kind_number Var = VAR

-- the kind with this number, or the number itself where it is that of no kind
abbrev pub Numbered : ℕ → Result Kind UnknownKind → Type 0
Numbered number r = MatchResult r (λ kind. kind_number kind ≡ number) (λ unknown. (unknown.0 ≡ number) × (VAR < number))
