-- The types of operands: each has the type that its instruction needs.
use Rattle.std.specs.Prelude.{Bool, true, false, ◌&&◌, List, find, is_some}
use Rattle.std.specs.Option.{option_map_or}
use Rattle.vg_ir.specs.declared.name.Name.{Name}
use Rattle.vg_ir.specs.declared.name.NameAt.{NameAt}
use Rattle.vg_ir.specs.declared.spot.Spot.{Spot}
use Rattle.vg_ir.specs.declared.ty.Ty.{Ty}
use Rattle.vg_ir.specs.declared.operand.Value.{Value}
use Rattle.vg_ir.specs.declared.operand.Value.TheVariants as value
use Rattle.vg_ir.specs.declared.operand.Operand.{Operand}
use Rattle.vg_ir.specs.declared.operand.TypedOperand.{TypedOperand}
use Rattle.vg_ir.specs.declared.global.Global.{Global}
use Rattle.vg_ir.specs.declared.function.Function.{Function}
use Rattle.vg_ir.specs.declared.module.Parts.{Parts}
use Rattle.vg_ir.specs.Lookup.{same_name, block_named}
use Rattle.vg_ircheck.specs.Place.{unless}
use Rattle.vg_ircheck.specs.Types.{is_integer, is_integer_of, is_address, same_type}
use Rattle.vg_ircheck.specs.ValueTypes.{type_of}

-- a global has the name
abbrev pub is_global_name : Parts → Name → Bool
is_global_name m n = is_some (find (λ (g : Global). same_name g.name.name n) m.globals)

-- what an operand names is of a type; undef and poison are of each
abbrev pub is_value_of : Parts → Function → Ty → Value → Bool
is_value_of m f t (value.Local n) = option_map_or (same_type t) (type_of f n) false
is_value_of m f t (value.Global n) = is_address t && is_global_name m n
is_value_of m f t (value.Number n) = is_integer t
is_value_of m f t value.True = is_integer_of 1 t
is_value_of m f t value.False = is_integer_of 1 t
is_value_of m f t value.Null = is_address t
is_value_of m f t value.Undef = true
is_value_of m f t value.Poison = true

-- an operand that isn't of its type, or whose type isn't as its instruction needs
abbrev pub operand_places : Parts → Function → (Ty → Bool) → Ty → Operand → List Spot
operand_places m f needed t o = unless (needed t && is_value_of m f t o.value) o.at

-- the same of an operand behind its type
abbrev pub typed_places : Parts → Function → (Ty → Bool) → TypedOperand → List Spot
typed_places m f needed o = operand_places m f needed o.ty.ty o.operand

-- any type is as it is needed
abbrev pub any_type : Ty → Bool
any_type t = true

-- the name of a branch's target that no block has
abbrev pub label_places : Function → NameAt → List Spot
label_places f n = unless (is_some (block_named f n.name)) n.at
