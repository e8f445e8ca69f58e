-- The types that a module has in its text.
use Rattle.std.specs.Prelude.{List, [], ◌∷◌, ◌++◌, map, flat_map, Option, Some, None}
use Rattle.vg_ir.specs.declared.ty.TypeAt.{TypeAt}
use Rattle.vg_ir.specs.declared.ty.IntegerAt.{IntegerAt}
use Rattle.vg_ir.specs.declared.operand.TypedOperand.{TypedOperand}
use Rattle.vg_ir.specs.declared.initializer.Initializer.{Initializer, fold-Initializer}
use Rattle.vg_ir.specs.declared.initializer.Initializer.TheOpen.{Initializer-F}
use Rattle.vg_ir.specs.declared.instruction.Instruction.{Instruction}
use Rattle.vg_ir.specs.declared.instruction.Instruction.TheVariants as instruction
use Rattle.vg_ir.specs.declared.instruction.Index.{Index}
use Rattle.vg_ir.specs.declared.terminator.Terminator.{Terminator}
use Rattle.vg_ir.specs.declared.terminator.Terminator.TheVariants as terminator
use Rattle.vg_ir.specs.declared.terminator.Case.{Case}
use Rattle.vg_ir.specs.declared.block.Phi.{Phi}
use Rattle.vg_ir.specs.declared.block.Block.{Block}
use Rattle.vg_ir.specs.declared.function.Function.{Function}
use Rattle.vg_ir.specs.declared.function.Parameter.{Parameter}
use Rattle.vg_ir.specs.declared.global.Global.{Global}
use Rattle.vg_ir.specs.declared.module.Structure.{Structure}
use Rattle.vg_ir.specs.declared.module.Parts.{Parts}

-- of a list of elements, each behind its type
abbrev pub element_types : List (TypeAt × List TypeAt) → List TypeAt
element_types elements = flat_map (λ (e : TypeAt × List TypeAt). e.0 ∷ e.1) elements

-- one level of an initialiser
abbrev pub initial_types_step : Initializer-F (List TypeAt) → List TypeAt
initial_types_step (Initializer-F.Number n at) = []
initial_types_step (Initializer-F.True at) = []
initial_types_step (Initializer-F.False at) = []
initial_types_step (Initializer-F.Null at) = []
initial_types_step (Initializer-F.Zero at) = []
initial_types_step (Initializer-F.Undef at) = []
initial_types_step (Initializer-F.Poison at) = []
initial_types_step (Initializer-F.Text text at) = []
initial_types_step (Initializer-F.Global name at) = []
initial_types_step (Initializer-F.Array elements at) = element_types elements
initial_types_step (Initializer-F.Struct fields at) = element_types fields

-- the types in an initialiser
abbrev pub initial_types : Initializer → List TypeAt
initial_types i = fold-Initializer (List TypeAt) initial_types_step i

-- the type of a result, None for void
abbrev pub result_types : Option TypeAt → List TypeAt
result_types None = []
result_types (Some t) = t ∷ []

-- the types in an instruction, apart from those where integers alone may stand
abbrev pub instruction_types : Instruction → List TypeAt
instruction_types (instruction.Binary i) = i.ty ∷ []
instruction_types (instruction.Compare i) = i.ty ∷ []
instruction_types (instruction.Select i) = i.then.ty ∷ i.otherwise.ty ∷ []
instruction_types (instruction.Cast i) = i.operand.ty ∷ i.target ∷ []
instruction_types (instruction.Freeze i) = i.operand.ty ∷ []
instruction_types (instruction.Alloca i) = i.ty ∷ []
instruction_types (instruction.Load i) = i.ty ∷ []
instruction_types (instruction.Store i) = i.value.ty ∷ []
instruction_types (instruction.ElementPointer i) = i.ty ∷ []
instruction_types (instruction.Call i) = result_types i.gives ++ map (λ (a : TypedOperand). a.ty) i.arguments

-- the integer types in an instruction where no other type may stand: of a count and of indices
abbrev pub instruction_integers : Instruction → List IntegerAt
instruction_integers (instruction.Alloca i) = elim i.count [ None ↦ [] | Some c ↦ c.ty ∷ [] ]
instruction_integers (instruction.ElementPointer i) = map (λ (x : Index). x.ty) i.indices
instruction_integers _ = []

-- the types at the end of a block
abbrev pub terminator_types : Terminator → List TypeAt
terminator_types (terminator.Jump t) = []
terminator_types (terminator.Branch t) = []
terminator_types (terminator.Switch t) = t.value.ty ∷ map (λ (c : Case). c.ty) t.cases
terminator_types (terminator.Return t) = elim t.value [ None ↦ [] | Some v ↦ v.ty ∷ [] ]
terminator_types (terminator.Unreachable at) = []

-- the types in a block
abbrev pub block_types : Block → List TypeAt
block_types b =
    map (λ (p : Phi). p.ty) b.phis ++ flat_map instruction_types b.instructions ++ terminator_types b.terminator

-- the types in a function
abbrev pub function_types : Function → List TypeAt
function_types f =
    result_types f.gives ++ map (λ (q : Parameter). q.ty) f.parameters ++ flat_map block_types f.blocks

-- the integer types in a function where no other type may stand
abbrev pub function_integers : Function → List IntegerAt
function_integers f = flat_map (λ (b : Block). flat_map instruction_integers b.instructions) f.blocks

-- the types in a module
abbrev pub module_types : Parts → List TypeAt
module_types m =
    map (λ (s : Structure). s.ty) m.structures
    ++ flat_map (λ (g : Global). g.ty ∷ initial_types g.initial) m.globals
    ++ flat_map function_types m.functions

-- the integer types in a module where no other type may stand
abbrev pub module_integers : Parts → List IntegerAt
module_integers m = flat_map function_integers m.functions
