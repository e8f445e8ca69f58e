-- The types of the values of a function: of its parameters and of what its phis and instructions set.
use Rattle.std.specs.Prelude.{List, [], ◌∷◌, ◌++◌, map, flat_map, find, Option, Some, None, option_map}
use Rattle.vg_ir.specs.declared.name.Name.{Name}
use Rattle.vg_ir.specs.declared.ty.Ty.{Ty}
use Rattle.vg_ir.specs.declared.ty.Ty.TheVariants.{Int, Ptr}
use Rattle.vg_ir.specs.declared.instruction.Instruction.{Instruction}
use Rattle.vg_ir.specs.declared.instruction.Instruction.TheVariants as instruction
use Rattle.vg_ir.specs.declared.instruction.Call.{Call}
use Rattle.vg_ir.specs.declared.block.Phi.{Phi}
use Rattle.vg_ir.specs.declared.block.Block.{Block}
use Rattle.vg_ir.specs.declared.function.Function.{Function}
use Rattle.vg_ir.specs.declared.function.Parameter.{Parameter}
use Rattle.vg_ir.specs.Lookup.{same_name}

-- a value and its type
pub record Typed : Type 0 where
  pub name : Name
  pub ty : Ty

-- what a call sets, at the type that it is said to give
abbrev pub call_values : Call → List Typed
call_values c = elim c.result [
  | None ↦ []
  | Some r ↦ elim c.gives [ None ↦ [] | Some t ↦ record { name = r.name; ty = t.ty } ∷ [] ]
]

-- what an instruction sets
abbrev pub instruction_values : Instruction → List Typed
instruction_values (instruction.Binary i) = record { name = i.result.name; ty = i.ty.ty } ∷ []
instruction_values (instruction.Compare i) = record { name = i.result.name; ty = Int 1 } ∷ []
instruction_values (instruction.Select i) = record { name = i.result.name; ty = i.then.ty.ty } ∷ []
instruction_values (instruction.Cast i) = record { name = i.result.name; ty = i.target.ty } ∷ []
instruction_values (instruction.Freeze i) = record { name = i.result.name; ty = i.operand.ty.ty } ∷ []
instruction_values (instruction.Alloca i) = record { name = i.result.name; ty = Ptr } ∷ []
instruction_values (instruction.Load i) = record { name = i.result.name; ty = i.ty.ty } ∷ []
instruction_values (instruction.Store i) = []
instruction_values (instruction.ElementPointer i) = record { name = i.result.name; ty = Ptr } ∷ []
instruction_values (instruction.Call i) = call_values i

-- a parameter
abbrev pub parameter_value : Parameter → Typed
parameter_value q = record { name = q.name.name; ty = q.ty.ty }

-- what a phi sets
abbrev pub phi_value : Phi → Typed
phi_value p = record { name = p.result.name; ty = p.ty.ty }

-- what a block sets
abbrev pub block_values : Block → List Typed
block_values b = map phi_value b.phis ++ flat_map instruction_values b.instructions

-- the values of a function
abbrev pub function_values : Function → List Typed
function_values f = map parameter_value f.parameters ++ flat_map block_values f.blocks

-- the type of a name among some values: that of its first definition
abbrev pub type_among : List Typed → Name → Option Ty
type_among values n = option_map (λ (v : Typed). v.ty) (find (λ (v : Typed). same_name v.name n) values)

-- the type of a value of a function
abbrev pub type_of : Function → Name → Option Ty
type_of f n = type_among (function_values f) n
