-- The types that operators take and give.
use Rattle.std.specs.Prelude.{ℕ, ◌+◌, ◌*◌, ◌-◌, Bool, true, false, ◌&&◌, ◌||◌, not, nat_eq, nat_le, nat_lt, Option, Some, None, if◌then◌else◌}
use Rattle.vg_ast.specs.declared.operator.UnaryOperator.{UnaryOperator}
use Rattle.vg_ast.specs.declared.operator.UnaryOperator.TheVariants as unary
use Rattle.vg_ast.specs.declared.operator.BinaryOperator.{BinaryOperator}
use Rattle.vg_ast.specs.declared.operator.BinaryOperator.TheVariants as binary
use Rattle.vg_ast.specs.declared.type_expr.BitsKind.TheVariants as kinds
use Rattle.vg_type.specs.declared.value_type.ValueType.{ValueType}
use Rattle.vg_type.specs.declared.value_type.ValueType.TheVariants.{Sized, Bool as BoolType}
use Rattle.vg_type.specs.declared.sort.Sort.{Sort}
use Rattle.vg_type.specs.declared.sort.Sort.TheVariants as sorts
use Rattle.vg_type.specs.ValueType.{bits_type, sized_type, width_of, common_type}

-- ---- one operand

-- `~` and `-` take Bits, UInt or SInt and keep the type; `!` takes and gives Bool
abbrev pub unary_type : UnaryOperator → Sort → Option ValueType
unary_type unary.Complement (sorts.Typed (Sized kind width)) = Some (Sized kind width)
unary_type unary.Negate (sorts.Typed (Sized kind width)) = Some (Sized kind width)
unary_type unary.Not (sorts.Typed BoolType) = Some BoolType
unary_type _ _ = None

-- ---- two operands

abbrev pub is_shift : BinaryOperator → Bool
is_shift binary.ShiftLeft = true
is_shift binary.ShiftRight = true
is_shift _ = false

abbrev pub is_comparison : BinaryOperator → Bool
is_comparison binary.Equal = true
is_comparison binary.NotEqual = true
is_comparison binary.Less = true
is_comparison binary.LessEqual = true
is_comparison binary.Greater = true
is_comparison binary.GreaterEqual = true
is_comparison _ = false

-- Bool is allowed for `& | ^ = !=` alone
abbrev pub takes_bool : BinaryOperator → Bool
takes_bool binary.And = true
takes_bool binary.Or = true
takes_bool binary.Xor = true
takes_bool binary.Equal = true
takes_bool binary.NotEqual = true
takes_bool _ = false

abbrev pub takes : BinaryOperator → ValueType → Bool
takes op (Sized kind width) = true
takes op BoolType = takes_bool op

-- `*#` gives the double width
abbrev pub doubled : ValueType → Option ValueType
doubled (Sized kind width) = sized_type kind (2 * width)
doubled BoolType = None

-- what an operator that takes two operands of this type gives
abbrev pub result_of : BinaryOperator → ValueType → Option ValueType
result_of binary.MultiplyLong t = doubled t
result_of op t = if is_comparison op then Some BoolType else Some t

abbrev pub operated : BinaryOperator → Option ValueType → Option ValueType
operated op None = None
operated op (Some t) = if takes op t then result_of op t else None

-- the right side of a shift is a whole number, or Bits or UInt of any width
abbrev pub is_amount : Sort → Bool
is_amount (sorts.Whole n) = true
is_amount sorts.NoValue = true
is_amount (sorts.Typed (Sized kinds.Bits width)) = true
is_amount (sorts.Typed (Sized kinds.UInt width)) = true
is_amount _ = false

-- its left side has Bits, UInt or SInt, and it gives that type
abbrev pub shifted : Sort → Sort → Option ValueType
shifted (sorts.Typed (Sized kind width)) right = if is_amount right then Some (Sized kind width) else None
shifted _ right = None

abbrev pub binary_type : BinaryOperator → Sort → Sort → Option ValueType
binary_type op left right = if is_shift op then shifted left right else operated op (common_type left right)

-- the type that a whole number takes beside another operand; a shift's amount takes none
abbrev pub operand_type : BinaryOperator → Sort → Sort → Option ValueType
operand_type op left right = if is_shift op then None else common_type left right

-- a product of double width that is wider than 128 bits
abbrev pub is_too_wide : BinaryOperator → Option ValueType → Bool
is_too_wide binary.MultiplyLong (Some (Sized kind width)) = nat_lt 64 width
is_too_wide op t = false

-- ---- casts, slices and `join`

-- any type may be cast to any, but that a cast to Bool takes one bit; a whole number takes the type
abbrev pub cast_type : Option ValueType → Sort → Option ValueType
cast_type (Some BoolType) (sorts.Typed u) = if nat_eq (width_of u) 1 then Some BoolType else None
cast_type t (sorts.Typed u) = t
cast_type t (sorts.Whole n) = t
cast_type t sorts.NoValue = t
cast_type t sorts.Untyped = None

-- the high bit of a slice lies above its operand
abbrev pub is_above : ℕ → Sort → Bool
is_above high (sorts.Typed (Sized kind width)) = nat_le width high
is_above high _ = false

-- a slice leaves its operand, or its high bit is below its low one
abbrev pub leaves : Sort → Sort → Sort → Bool
leaves operand (sorts.Whole high) (sorts.Whole low) = nat_lt high low || is_above high operand
leaves operand _ _ = false

-- Bits, UInt and SInt have slices
abbrev pub is_sized : Sort → Bool
is_sized (sorts.Typed (Sized kind width)) = true
is_sized _ = false

abbrev pub cut_type : Sort → Sort → Option ValueType
cut_type (sorts.Whole high) (sorts.Whole low) = bits_type (high + 1 - low)
cut_type _ _ = None

-- the bits from high to low, both included
abbrev pub slice_type : Sort → Sort → Sort → Option ValueType
slice_type operand high low = if is_sized operand && not (leaves operand high low) then cut_type high low else None

-- Bits of the sum of the widths
abbrev pub join_type : Sort → Sort → Option ValueType
join_type (sorts.Typed (Sized k high)) (sorts.Typed (Sized l low)) = bits_type (high + low)
join_type _ _ = None

-- a join of more than 128 bits
abbrev pub is_too_long : Sort → Sort → Bool
is_too_long (sorts.Typed (Sized k high)) (sorts.Typed (Sized l low)) = nat_lt 128 (high + low)
is_too_long _ _ = false

-- ---- memory and conditionals

-- a size of 1 to 16 bytes
abbrev pub is_size : ℕ → Bool
is_size bytes = nat_le 1 bytes && nat_le bytes 16

abbrev pub is_wrong_size : Sort → Bool
is_wrong_size (sorts.Whole bytes) = not (is_size bytes)
is_wrong_size _ = false

-- the type of so many bytes
abbrev pub bytes_type : Sort → Option ValueType
bytes_type (sorts.Whole bytes) = if is_size bytes then bits_type (8 * bytes) else None
bytes_type _ = None

abbrev pub is_bool : Sort → Bool
is_bool (sorts.Typed BoolType) = true
is_bool _ = false

-- a conditional needs a Bool, and its two values have one type
abbrev pub choice_type : Sort → Sort → Sort → Option ValueType
choice_type condition one other = if is_bool condition then common_type one other else None
