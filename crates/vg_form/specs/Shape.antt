-- What trees with everything in place are, as far as the form of descriptions asks; all their places are free.
use Rattle.std.specs.Prelude.{ℕ, Bool, false, nat_eq, List, [], ◌∷◌, Some, if◌then◌else◌}
use Rattle.vg_ast.specs.declared.operator.BinaryOperator.{BinaryOperator}
use Rattle.vg_ast.specs.declared.operator.BinaryOperator.TheVariants as binary
use Rattle.vg_ast.specs.declared.type_expr.BitsKind.TheVariants as kinds
use Rattle.vg_whole.specs.declared.worth.Worth.{Worth}
use Rattle.vg_whole.specs.declared.worth.Worth.TheVariants.{Whole}
use Rattle.vg_inline.specs.declared.declared.Declared.{Declared}
use Rattle.vg_inline.specs.declared.declared.Declared.TheVariants.{Sized}
use Rattle.vg_inline.specs.declared.head.Head.{Head}
use Rattle.vg_inline.specs.declared.head.Head.TheVariants as heads
use Rattle.vg_inline.specs.declared.tree.Tree.{Tree, fold-Tree}
use Rattle.vg_inline.specs.declared.tree.Tree.TheOpen.{Tree-F}
use Rattle.vg_form.specs.declared.form.Behaviour.TheVariants.{AddRegisters, AddField}
use Rattle.vg_form.specs.declared.shape.Shape.{Shape}
use Rattle.vg_form.specs.declared.shape.Shape.TheVariants as shape
use Rattle.vg_form.specs.declared.shape.Operand.TheVariants.{Rd, Rs1, Rs2}

-- the field of this number in the one format: rd, rs1 or rs2
abbrev pub field_numbered : ℕ → Shape
field_numbered field =
    if nat_eq field 4 then shape.Field Rd
    else if nat_eq field 2 then shape.Field Rs1
    else if nat_eq field 1 then shape.Field Rs2
    else shape.Other

abbrev pub is_whole : ℕ → Worth → Bool
is_whole n (Whole m) = nat_eq n m
is_whole n _ = false

-- Bits<n>
abbrev pub is_bits : ℕ → Declared → Bool
is_bits n (Sized kinds.Bits width) = is_whole n width
is_bits n _ = false

-- X(field)
abbrev pub indexed : List Shape → Shape
indexed (shape.Field operand ∷ []) = shape.Register operand
indexed _ = shape.Other

-- field as Bits<32>
abbrev pub extended : Bool → Shape → Shape
extended is_word (shape.Field operand) = if is_word then shape.Extended operand else shape.Other
extended is_word _ = shape.Other

-- X(rs1) + X(rs2), or X(rs1) + rs2 as Bits<32>
abbrev pub sum : Shape → Shape → Shape
sum (shape.Register Rs1) (shape.Register Rs2) = shape.Value AddRegisters
sum (shape.Register Rs1) (shape.Extended Rs2) = shape.Value AddField
sum _ _ = shape.Other

abbrev pub operated : BinaryOperator → Shape → Shape → Shape
operated binary.Add left right = sum left right
operated _ left right = shape.Other

-- a cast of one operand, by whether it is to `Bits<32>`
abbrev pub cast_shape : Bool → List Shape → Shape
cast_shape is_word (operand ∷ []) = extended is_word operand
cast_shape is_word _ = shape.Other

abbrev pub binary_shape : BinaryOperator → List Shape → Shape
binary_shape op (left ∷ right ∷ []) = operated op left right
binary_shape op _ = shape.Other

-- a node over parts, where the register file is the item of this number
abbrev pub shaped : ℕ → Head → List Shape → Shape
shaped file (heads.Whole (Some value)) parts = shape.Number value
shaped file (heads.Field field) parts = field_numbered field
shaped file (heads.Indexed item at index_at) parts = if nat_eq item file then indexed parts else shape.Other
shaped file (heads.Cast target) parts = cast_shape (is_bits 32 target) parts
shaped file (heads.Binary op) parts = binary_shape op parts
shaped file _ parts = shape.Other

-- one level of a tree, with its parts
abbrev pub shape_step : ℕ → Tree-F Shape → Shape
shape_step file layer = shaped file layer.head layer.parts

abbrev pub shape_of : ℕ → Tree → Shape
shape_of file t = fold-Tree Shape (shape_step file) t
