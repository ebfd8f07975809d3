-- The tag of a kind, by which `kind as u8` and a derived `==` go, is its number.
use mathlib.Core.Path.{◌≡◌, refl, sym, ◌∙◌}
use mathlib.Core.Bool.{true, false}
use mathlib.Core.Logic.{◌≢◌}
use lib.Dec.{eqb}
use borrow.Author.Tests.{eqb-true, eqb-false}
use denote.Enum.Declared.{tag_of}
use denote.Enum.Bare.{sameb}
use Rattle.kinds.specs.contracts.kind.Kind.{the_type}
use Rattle.kinds.specs.declared.kind.Kind.{Kind}
use Rattle.kinds.specs.declared.kind.Kind.TheVariants.{None, Illegal, Eof, Comment}
use Rattle.kinds.specs.declared.kind.Kind.TheVariants.{Ident, Int, Float, Imag, Char, String}
use Rattle.kinds.specs.declared.kind.Kind.TheVariants.{Add, Sub, Mul, Quo, Rem, And, Or, Xor, Shl, Shr, AndNot, AddAssign, SubAssign, MulAssign, QuoAssign, RemAssign, AndAssign, OrAssign, XorAssign, ShlAssign, ShrAssign, AndNotAssign, Land, Lor, Arrow, Inc, Dec, Eql, Lss, Gtr, Assign, Not, Neq, Leq, Geq, Define, Ellipsis, Lparen, Lbrack, Lbrace, Comma, Period, Rparen, Rbrack, Rbrace, Semicolon, Colon}
use Rattle.kinds.specs.declared.kind.Kind.TheVariants.{Break, Case, Chan, Const, Continue, Default, Defer, Else, Fallthrough, For, Func, Go, Goto, If, Import, Interface, Map, Package, Range, Return, Select, Struct, Switch, «Type», Var}
use Rattle.kinds.specs.Number.{kind_number}

pub kind_tag : (kind : Kind) → tag_of the_type kind ≡ kind_number kind
kind_tag None = refl
kind_tag Illegal = refl
kind_tag Eof = refl
kind_tag Comment = refl
kind_tag Ident = refl
kind_tag Int = refl
kind_tag Float = refl
kind_tag Imag = refl
kind_tag Char = refl
kind_tag String = refl
kind_tag Add = refl
kind_tag Sub = refl
kind_tag Mul = refl
kind_tag Quo = refl
kind_tag Rem = refl
kind_tag And = refl
kind_tag Or = refl
kind_tag Xor = refl
kind_tag Shl = refl
kind_tag Shr = refl
kind_tag AndNot = refl
kind_tag AddAssign = refl
kind_tag SubAssign = refl
kind_tag MulAssign = refl
kind_tag QuoAssign = refl
kind_tag RemAssign = refl
kind_tag AndAssign = refl
kind_tag OrAssign = refl
kind_tag XorAssign = refl
kind_tag ShlAssign = refl
kind_tag ShrAssign = refl
kind_tag AndNotAssign = refl
kind_tag Land = refl
kind_tag Lor = refl
kind_tag Arrow = refl
kind_tag Inc = refl
kind_tag Dec = refl
kind_tag Eql = refl
kind_tag Lss = refl
kind_tag Gtr = refl
kind_tag Assign = refl
kind_tag Not = refl
kind_tag Neq = refl
kind_tag Leq = refl
kind_tag Geq = refl
kind_tag Define = refl
kind_tag Ellipsis = refl
kind_tag Lparen = refl
kind_tag Lbrack = refl
kind_tag Lbrace = refl
kind_tag Comma = refl
kind_tag Period = refl
kind_tag Rparen = refl
kind_tag Rbrack = refl
kind_tag Rbrace = refl
kind_tag Semicolon = refl
kind_tag Colon = refl
kind_tag Break = refl
kind_tag Case = refl
kind_tag Chan = refl
kind_tag Const = refl
kind_tag Continue = refl
kind_tag Default = refl
kind_tag Defer = refl
kind_tag Else = refl
kind_tag Fallthrough = refl
kind_tag For = refl
kind_tag Func = refl
kind_tag Go = refl
kind_tag Goto = refl
kind_tag If = refl
kind_tag Import = refl
kind_tag Interface = refl
kind_tag Map = refl
kind_tag Package = refl
kind_tag Range = refl
kind_tag Return = refl
kind_tag Select = refl
kind_tag Struct = refl
kind_tag Switch = refl
kind_tag «Type» = refl
kind_tag Var = refl

-- two kinds are one where their numbers are
pub same_kinds : (a b : Kind) → sameb the_type a b ≡ eqb (kind_number a) (kind_number b)
same_kinds a b = rw (kind_tag a, kind_tag b)

pub same_number : (a b : Kind) → sameb the_type a b ≡ true → kind_number a ≡ kind_number b
same_number a b e = eqb-true (kind_number a) (kind_number b) (sym (same_kinds a b) ∙ e)

pub other_number : (a b : Kind) → sameb the_type a b ≡ false → kind_number a ≢ kind_number b
other_number a b e = eqb-false (kind_number a) (kind_number b) (sym (same_kinds a b) ∙ e)
