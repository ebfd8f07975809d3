-- The numbers of the kinds, under the names of Go's package `token`.
use Rattle.std.specs.Prelude.{ℕ}

abbrev pub NONE : ℕ
NONE = 0

abbrev pub ILLEGAL : ℕ
ILLEGAL = 1

abbrev pub EOF : ℕ
EOF = 2

abbrev pub COMMENT : ℕ
COMMENT = 3

abbrev pub IDENT : ℕ
IDENT = 4

abbrev pub INT : ℕ
INT = 5

abbrev pub FLOAT : ℕ
FLOAT = 6

abbrev pub IMAG : ℕ
IMAG = 7

abbrev pub CHAR : ℕ
CHAR = 8

abbrev pub STRING : ℕ
STRING = 9

abbrev pub ADD : ℕ
ADD = 10

abbrev pub SUB : ℕ
SUB = 11

abbrev pub MUL : ℕ
MUL = 12

abbrev pub QUO : ℕ
QUO = 13

abbrev pub REM : ℕ
REM = 14

abbrev pub AND : ℕ
AND = 15

abbrev pub OR : ℕ
OR = 16

abbrev pub XOR : ℕ
XOR = 17

abbrev pub SHL : ℕ
SHL = 18

abbrev pub SHR : ℕ
SHR = 19

abbrev pub AND_NOT : ℕ
AND_NOT = 20

abbrev pub ADD_ASSIGN : ℕ
ADD_ASSIGN = 21

abbrev pub SUB_ASSIGN : ℕ
SUB_ASSIGN = 22

abbrev pub MUL_ASSIGN : ℕ
MUL_ASSIGN = 23

abbrev pub QUO_ASSIGN : ℕ
QUO_ASSIGN = 24

abbrev pub REM_ASSIGN : ℕ
REM_ASSIGN = 25

abbrev pub AND_ASSIGN : ℕ
AND_ASSIGN = 26

abbrev pub OR_ASSIGN : ℕ
OR_ASSIGN = 27

abbrev pub XOR_ASSIGN : ℕ
XOR_ASSIGN = 28

abbrev pub SHL_ASSIGN : ℕ
SHL_ASSIGN = 29

abbrev pub SHR_ASSIGN : ℕ
SHR_ASSIGN = 30

abbrev pub AND_NOT_ASSIGN : ℕ
AND_NOT_ASSIGN = 31

abbrev pub LAND : ℕ
LAND = 32

abbrev pub LOR : ℕ
LOR = 33

abbrev pub ARROW : ℕ
ARROW = 34

abbrev pub INC : ℕ
INC = 35

abbrev pub DEC : ℕ
DEC = 36

abbrev pub EQL : ℕ
EQL = 37

abbrev pub LSS : ℕ
LSS = 38

abbrev pub GTR : ℕ
GTR = 39

abbrev pub ASSIGN : ℕ
ASSIGN = 40

abbrev pub NOT : ℕ
NOT = 41

abbrev pub NEQ : ℕ
NEQ = 42

abbrev pub LEQ : ℕ
LEQ = 43

abbrev pub GEQ : ℕ
GEQ = 44

abbrev pub DEFINE : ℕ
DEFINE = 45

abbrev pub ELLIPSIS : ℕ
ELLIPSIS = 46

abbrev pub LPAREN : ℕ
LPAREN = 47

abbrev pub LBRACK : ℕ
LBRACK = 48

abbrev pub LBRACE : ℕ
LBRACE = 49

abbrev pub COMMA : ℕ
COMMA = 50

abbrev pub PERIOD : ℕ
PERIOD = 51

abbrev pub RPAREN : ℕ
RPAREN = 52

abbrev pub RBRACK : ℕ
RBRACK = 53

abbrev pub RBRACE : ℕ
RBRACE = 54

abbrev pub SEMICOLON : ℕ
SEMICOLON = 55

abbrev pub COLON : ℕ
COLON = 56

abbrev pub BREAK : ℕ
BREAK = 57

abbrev pub CASE : ℕ
CASE = 58

abbrev pub CHAN : ℕ
CHAN = 59

abbrev pub CONST : ℕ
CONST = 60

abbrev pub CONTINUE : ℕ
CONTINUE = 61

abbrev pub DEFAULT : ℕ
DEFAULT = 62

abbrev pub DEFER : ℕ
DEFER = 63

abbrev pub ELSE : ℕ
ELSE = 64

abbrev pub FALLTHROUGH : ℕ
FALLTHROUGH = 65

abbrev pub FOR : ℕ
FOR = 66

abbrev pub FUNC : ℕ
FUNC = 67

abbrev pub GO : ℕ
GO = 68

abbrev pub GOTO : ℕ
GOTO = 69

abbrev pub IF : ℕ
IF = 70

abbrev pub IMPORT : ℕ
IMPORT = 71

abbrev pub INTERFACE : ℕ
INTERFACE = 72

abbrev pub MAP : ℕ
MAP = 73

abbrev pub PACKAGE : ℕ
PACKAGE = 74

abbrev pub RANGE : ℕ
RANGE = 75

abbrev pub RETURN : ℕ
RETURN = 76

abbrev pub SELECT : ℕ
SELECT = 77

abbrev pub STRUCT : ℕ
STRUCT = 78

abbrev pub SWITCH : ℕ
SWITCH = 79

abbrev pub TYPE : ℕ
TYPE = 80

abbrev pub VAR : ℕ
VAR = 81
