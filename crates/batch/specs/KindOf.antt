-- Steps of the code. No public contract cites this file. The kind with a number.
use Rattle.std.specs.Prelude.{ℕ, List, [], ◌∷◌, get_or}
use Rattle.kinds.specs.declared.kind.Kind.{Kind}
use Rattle.kinds.specs.declared.kind.Kind.TheVariants.{None, Illegal, Eof, Comment, Ident, Int, Float, Imag, Char, String, Add, Sub, Mul, Quo, Rem, And, Or, Xor, Shl, Shr, AndNot, AddAssign, SubAssign, MulAssign, QuoAssign, RemAssign, AndAssign, OrAssign, XorAssign, ShlAssign, ShrAssign, AndNotAssign, Land, Lor, Arrow, Inc, Dec, Eql, Lss, Gtr, Assign, Not, Neq, Leq, Geq, Define, Ellipsis, Lparen, Lbrack, Lbrace, Comma, Period, Rparen, Rbrack, Rbrace, Semicolon, Colon, Break, Case, Chan, Const, Continue, Default, Defer, Else, Fallthrough, For, Func, Go, Goto, If, Import, Interface, Map, Package, Range, Return, Select, Struct, Switch, «Type», Var}

-- all kinds, by their numbers
unfoldable pub all_kinds : List Kind
all_kinds =
    None ∷ Illegal ∷ Eof ∷ Comment ∷ Ident ∷ Int ∷ Float ∷ Imag ∷ Char ∷ String ∷ Add ∷ Sub ∷ Mul ∷ Quo ∷ Rem ∷ And ∷ Or ∷ Xor ∷ Shl ∷ Shr ∷ AndNot ∷ AddAssign ∷ SubAssign ∷ MulAssign ∷ QuoAssign ∷ RemAssign ∷ AndAssign ∷ OrAssign ∷ XorAssign ∷ ShlAssign ∷ ShrAssign ∷ AndNotAssign ∷ Land ∷ Lor ∷ Arrow ∷ Inc ∷ Dec ∷ Eql ∷ Lss ∷ Gtr ∷ Assign ∷ Not ∷ Neq ∷ Leq ∷ Geq ∷ Define ∷ Ellipsis ∷ Lparen ∷ Lbrack ∷ Lbrace ∷ Comma ∷ Period ∷ Rparen ∷ Rbrack ∷ Rbrace ∷ Semicolon ∷ Colon ∷ Break ∷ Case ∷ Chan ∷ Const ∷ Continue ∷ Default ∷ Defer ∷ Else ∷ Fallthrough ∷ For ∷ Func ∷ Go ∷ Goto ∷ If ∷ Import ∷ Interface ∷ Map ∷ Package ∷ Range ∷ Return ∷ Select ∷ Struct ∷ Switch ∷ «Type» ∷ Var ∷ []

-- the kind with a number
abbrev pub kind_of : ℕ → Kind
kind_of number = get_or all_kinds number None
