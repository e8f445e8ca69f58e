-- What operands read. A value is read at a type, and is a number of that type: below 2 to its width.
use Rattle.std.specs.Prelude.{ℕ, ◌^◌, nat_lt, Option, Some, None, option_and_then, if◌then◌else◌}
use Rattle.vg_bits.specs.BitValue.{BitValue, bit_value}
use Rattle.vg_ir.specs.declared.ty.Ty.{Ty, out-Ty}
use Rattle.vg_ir.specs.declared.ty.Ty.TheOpen.{Ty-F}
use Rattle.vg_ir.specs.declared.operand.Value.{Value}
use Rattle.vg_ir.specs.declared.operand.Value.TheVariants as value
use Rattle.vg_ir.specs.declared.operand.Operand.{Operand}
use Rattle.vg_ir.specs.declared.operand.TypedOperand.{TypedOperand}
use Rattle.vg_ir.specs.Shape.{number_of}
use Rattle.vg_ir.specs.Answer.{Answer, Known, ◌>>=◌, known}
use Rattle.vg_ir.specs.State.{Placement, Values}

-- the width of an integer or an address
abbrev pub value_width : ℕ → Ty → Option ℕ
value_width width t = elim (out-Ty t) [
  | Ty-F.Int n ↦ Some n
  | Ty-F.Ptr ↦ Some width
  | Ty-F.Array count element ↦ None
  | Ty-F.Struct fields ↦ None
  | Ty-F.Named n ↦ None
]

-- a number, where it is one of this width
abbrev pub of_width : ℕ → ℕ → Option ℕ
of_width width x = if nat_lt x (2 ^ width) then Some x else None

-- what an operand stands for at a width: undef and poison are 0
abbrev pub number_at : Placement → Values → ℕ → Value → Option ℕ
number_at p values width (value.Local n) = option_and_then (of_width width) (values n)
number_at p values width (value.Global n) = of_width width (p.address n)
number_at p values width (value.Number n) = Some (number_of width n)
number_at p values width value.True = of_width width 1
number_at p values width value.False = Some 0
number_at p values width value.Null = Some 0
number_at p values width value.Undef = Some 0
number_at p values width value.Poison = Some 0

-- an operand at a width
abbrev pub operand : Placement → Values → ℕ → Operand → Answer BitValue
operand p values width o = known (number_at p values width o.value) >>= λ x. Known (bit_value width x)

-- an operand at a type
abbrev pub operand_at : Placement → Values → Ty → Operand → Answer BitValue
operand_at p values t o = known (value_width p.width t) >>= λ width. operand p values width o

-- an operand behind its type
abbrev pub typed_operand : Placement → Values → TypedOperand → Answer BitValue
typed_operand p values o = operand_at p values o.ty.ty o.operand
