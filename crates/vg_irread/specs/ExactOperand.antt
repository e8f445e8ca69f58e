-- That types, names and operands are read exactly.
use Rattle.std.specs.Prelude.{ℕ, false, [], ◌∷◌, Option}
use Rattle.vg_irparse.specs.declared.role.Role.{Role}
use Rattle.vg_irparse.specs.declared.role.Wanted.{Wanted}
use Rattle.vg_irread.specs.Kinds.{local}
use Rattle.vg_irread.specs.Exact.{IsExact}
use Rattle.vg_irread.specs.ReadingType.{type_at, a_type, type_kinds}
use Rattle.vg_irread.specs.ReadingOperand.{result_name_at, a_result_name, operand_at, an_operand, operand_kinds, any_typed_at, a_typed, value_at, a_value, value_type_kinds}

-- a type of any kind
abbrev pub TypesAreExact : Type 0
TypesAreExact = (role : Role) (w : Wanted) → IsExact (a_type role) type_kinds false [] (type_at w)

-- %r =
abbrev pub ResultNamesAreExact : Type 0
ResultNamesAreExact = IsExact a_result_name (local ∷ []) false [] result_name_at

-- an operand of an integer of so many bits, or of another type
abbrev pub OperandsAreExact : Type 0
OperandsAreExact = (width : Option ℕ) (w : Wanted) → IsExact (an_operand width) operand_kinds false [] (operand_at width w)

-- an operand behind a type of any kind
abbrev pub TypedAreExact : Type 0
TypedAreExact = (role : Role) (w : Wanted) → IsExact (a_typed role) type_kinds false [] (any_typed_at w)

-- an operand behind the type of a value
abbrev pub ValuesAreExact : Type 0
ValuesAreExact = (w : Wanted) → IsExact a_value value_type_kinds false [] (value_at w)
