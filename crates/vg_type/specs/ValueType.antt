-- Types of values: `Bits<n>`, `UInt<n>`, `SInt<n>` with a width of 1 to 128, and `Bool`.
use Rattle.std.specs.Prelude.{ℕ, ◌^◌, Bool, true, false, ◌&&◌, nat_eq, nat_le, nat_lt, Option, Some, None, if◌then◌else◌}
use Rattle.vg_ast.specs.declared.type_expr.BitsKind.{BitsKind}
use Rattle.vg_ast.specs.declared.type_expr.BitsKind.TheVariants as kinds
use Rattle.vg_whole.specs.declared.worth.Worth.{Worth}
use Rattle.vg_whole.specs.declared.worth.Worth.TheVariants as worths
use Rattle.vg_inline.specs.declared.declared.Declared.{Declared}
use Rattle.vg_inline.specs.declared.declared.Declared.TheVariants as declared
use Rattle.vg_type.specs.declared.value_type.ValueType.{ValueType}
use Rattle.vg_type.specs.declared.value_type.ValueType.TheVariants.{Sized, Bool as BoolType}
use Rattle.vg_type.specs.declared.sort.Sort.{Sort}
use Rattle.vg_type.specs.declared.sort.Sort.TheVariants as sorts

-- a width of values
abbrev pub is_width : ℕ → Bool
is_width n = nat_le 1 n && nat_le n 128

-- a type of this kind, where its width is 1 to 128
abbrev pub sized_type : BitsKind → ℕ → Option ValueType
sized_type kind n = if is_width n then Some (Sized kind n) else None

-- `Bits<n>`, where n is a width
abbrev pub bits_type : ℕ → Option ValueType
bits_type n = sized_type kinds.Bits n

-- how wide the values of a type are; a Bool is as wide as one bit
abbrev pub width_of : ValueType → ℕ
width_of (Sized kind width) = width
width_of BoolType = 1

-- a whole number fits a type of width n where it is below 2 ^ n
abbrev pub fits : ℕ → ValueType → Bool
fits n t = nat_lt n (2 ^ width_of t)

abbrev pub same_kind : BitsKind → BitsKind → Bool
same_kind kinds.Bits kinds.Bits = true
same_kind kinds.UInt kinds.UInt = true
same_kind kinds.SInt kinds.SInt = true
same_kind _ _ = false

-- types are equal where their kinds and their widths are
abbrev pub same_type : ValueType → ValueType → Bool
same_type (Sized k m) (Sized l n) = same_kind k l && nat_eq m n
same_type BoolType BoolType = true
same_type _ _ = false

-- ---- declared types

abbrev pub sized : BitsKind → Worth → Option ValueType
sized kind (worths.Whole n) = sized_type kind n
sized kind worths.NoValue = None
sized kind worths.Typed = None

-- what a declared type is, where its width is 1 to 128
abbrev pub type_of : Declared → Option ValueType
type_of (declared.Sized kind width) = sized kind width
type_of declared.Bool = Some BoolType

-- ---- what expressions are

abbrev pub sort_of_type : Option ValueType → Sort
sort_of_type None = sorts.Untyped
sort_of_type (Some t) = sorts.Typed t

-- what a whole number is, or else something with a type
abbrev pub whole_or : Worth → Sort → Sort
whole_or (worths.Whole n) typed = sorts.Whole n
whole_or worths.NoValue typed = sorts.NoValue
whole_or worths.Typed typed = typed

-- what an expression is worth as a whole number
abbrev pub worth_of : Sort → Worth
worth_of (sorts.Whole n) = worths.Whole n
worth_of sorts.NoValue = worths.NoValue
worth_of (sorts.Typed t) = worths.Typed
worth_of sorts.Untyped = worths.Typed

abbrev pub is_untyped : Sort → Bool
is_untyped sorts.Untyped = true
is_untyped _ = false

-- a place for a whole number has no value to go by; that of an expression with a type is told
abbrev pub is_valueless : Sort → Bool
is_valueless sorts.Untyped = true
is_valueless sorts.NoValue = true
is_valueless _ = false

-- an expression may stand where this type is asked for; a whole number takes the type
abbrev pub may_be : ValueType → Sort → Bool
may_be t (sorts.Typed u) = same_type t u
may_be t (sorts.Whole n) = true
may_be t sorts.NoValue = true
may_be t sorts.Untyped = false

-- the type of two expressions that stand for the same: that of both, and a whole number takes the type of the other
abbrev pub common_type : Sort → Sort → Option ValueType
common_type (sorts.Typed t) (sorts.Typed u) = if same_type t u then Some t else None
common_type (sorts.Typed t) (sorts.Whole n) = Some t
common_type (sorts.Typed t) sorts.NoValue = Some t
common_type (sorts.Whole n) (sorts.Typed u) = Some u
common_type sorts.NoValue (sorts.Typed u) = Some u
common_type _ _ = None
