-- What the grammar wants of a module's parts beside their types.
use Rattle.std.specs.Prelude.{ℕ, Bool, true, false, not, ◌&&◌, nat_eq, List, [], ◌∷◌, map, Option}
use Rattle.std.specs.Option.{option_map_or}
use Rattle.std.specs.List.{list_all, list_any}
use Rattle.vg_ir.specs.declared.ty.Ty.{Ty}
use Rattle.vg_ir.specs.declared.ty.TypeAt.{TypeAt}
use Rattle.vg_ir.specs.declared.operand.Value.TheVariants as value
use Rattle.vg_ir.specs.declared.operand.Operand.{Operand}
use Rattle.vg_ir.specs.declared.operand.TypedOperand.{TypedOperand}
use Rattle.vg_ir.specs.declared.number.Number.{Number}
use Rattle.vg_ir.specs.declared.initializer.Initializer.{Initializer, fold-Initializer}
use Rattle.vg_ir.specs.declared.initializer.Initializer.TheOpen.{Initializer-F}
use Rattle.vg_ir.specs.declared.instruction.Instruction.{Instruction}
use Rattle.vg_ir.specs.declared.instruction.Instruction.TheVariants as instruction
use Rattle.vg_ir.specs.declared.instruction.Count.{Count}
use Rattle.vg_ir.specs.declared.instruction.Index.{Index}
use Rattle.vg_ir.specs.declared.terminator.Terminator.{Terminator}
use Rattle.vg_ir.specs.declared.terminator.Terminator.TheVariants as terminator
use Rattle.vg_ir.specs.declared.terminator.Switch.{Switch}
use Rattle.vg_ir.specs.declared.terminator.Case.{Case}
use Rattle.vg_ir.specs.declared.block.Phi.{Phi}
use Rattle.vg_ir.specs.declared.block.Incoming.{Incoming}
use Rattle.vg_ir.specs.declared.block.Block.{Block}
use Rattle.vg_ir.specs.declared.function.Function.{Function}
use Rattle.vg_ir.specs.declared.function.Parameter.{Parameter}
use Rattle.vg_ir.specs.declared.global.Global.{Global}
use Rattle.vg_ir.specs.declared.module.Structure.{Structure}
use Rattle.vg_ir.specs.declared.module.Parts.{Parts}
use Rattle.vg_ir.specs.Shape.{is_integer_width, has_widths, integer_width, is_scalar, is_struct, number_of, number_fits, number_fits_type}

-- ---- operands: a number at an integer type fits it

-- an operand that is a number has this property
abbrev pub is_number_with : (Number → Bool) → Operand → Bool
is_number_with fits o = elim o.value [
  | value.Local n ↦ true
  | value.Global n ↦ true
  | value.Number n ↦ fits n
  | value.True ↦ true
  | value.False ↦ true
  | value.Null ↦ true
  | value.Undef ↦ true
  | value.Poison ↦ true
]

-- an operand at a type
abbrev pub is_operand : TypeAt → Operand → Bool
is_operand t o = is_number_with (number_fits_type t.ty) o

-- an operand of i1
abbrev pub is_condition : Operand → Bool
is_condition o = is_number_with (number_fits 1) o

-- an operand behind its type
abbrev pub is_typed_operand : TypedOperand → Bool
is_typed_operand o = has_widths o.ty.ty && is_operand o.ty o.operand

-- the type of a value
abbrev pub is_value_type : TypeAt → Bool
is_value_type t = has_widths t.ty && is_scalar t.ty

-- the type of what a function gives; None for void
abbrev pub is_result_type : Option TypeAt → Bool
is_result_type gives = option_map_or is_value_type gives true

-- ---- initialisers: a number at an integer type fits it, and each written type has integers of the five widths

-- one level of an initialiser at a type
abbrev pub is_initial_step : Initializer-F (Ty → Bool) → Ty → Bool
is_initial_step (Initializer-F.Number n at) t = number_fits_type t n
is_initial_step (Initializer-F.True at) t = true
is_initial_step (Initializer-F.False at) t = true
is_initial_step (Initializer-F.Null at) t = true
is_initial_step (Initializer-F.Zero at) t = true
is_initial_step (Initializer-F.Undef at) t = true
is_initial_step (Initializer-F.Poison at) t = true
is_initial_step (Initializer-F.Text text at) t = true
is_initial_step (Initializer-F.Global name at) t = true
is_initial_step (Initializer-F.Array elements at) t = list_all (λ e. has_widths e.0.ty && e.1 e.0.ty) elements
is_initial_step (Initializer-F.Struct fields at) t = list_all (λ e. has_widths e.0.ty && e.1 e.0.ty) fields

-- an initialiser at a type
abbrev pub is_initial : Initializer → Ty → Bool
is_initial i = fold-Initializer (Ty → Bool) is_initial_step i

-- ---- instructions

-- an index of an integer type
abbrev pub is_index : Index → Bool
is_index i = is_integer_width i.ty.width && is_number_with (number_fits i.ty.width) i.operand

-- the count of an alloca
abbrev pub is_count : Count → Bool
is_count c = is_integer_width c.ty.width && number_fits c.ty.width c.number

-- no result, loaded, stored or passed value is an array or a structure
abbrev pub is_instruction : Instruction → Bool
is_instruction (instruction.Binary i) = is_value_type i.ty && is_operand i.ty i.left && is_operand i.ty i.right
is_instruction (instruction.Compare i) = has_widths i.ty.ty && is_operand i.ty i.left && is_operand i.ty i.right
is_instruction (instruction.Select i) = is_condition i.condition && is_typed_operand i.then && is_scalar i.then.ty.ty && is_typed_operand i.otherwise
is_instruction (instruction.Cast i) = is_typed_operand i.operand && is_value_type i.target
is_instruction (instruction.Freeze i) = is_typed_operand i.operand && is_scalar i.operand.ty.ty
is_instruction (instruction.Alloca i) = has_widths i.ty.ty && option_map_or is_count i.count true
is_instruction (instruction.Load i) = is_value_type i.ty
is_instruction (instruction.Store i) = is_typed_operand i.value && is_scalar i.value.ty.ty
is_instruction (instruction.ElementPointer i) = has_widths i.ty.ty && list_all is_index i.indices
is_instruction (instruction.Call i) = is_result_type i.gives && list_all (λ (a : TypedOperand). is_typed_operand a && is_scalar a.ty.ty) i.arguments

-- an instruction is an alloca
abbrev pub is_alloca : Instruction → Bool
is_alloca (instruction.Alloca i) = true
is_alloca _ = false

-- no number stands twice
abbrev pub are_distinct : List ℕ → Bool
are_distinct [] = true
are_distinct (n ∷ ns) = not (list_any (nat_eq n) ns) && are_distinct ns

-- the numbers of the cases differ modulo 2 ^ width
abbrev pub are_distinct_cases : ℕ → List Case → Bool
are_distinct_cases width cases = are_distinct (map (λ (c : Case). number_of width c.number) cases)

-- a case of a switch
abbrev pub is_case : Case → Bool
is_case c = has_widths c.ty.ty && number_fits_type c.ty.ty c.number

-- the numbers of a switch fit, and those of its cases differ
abbrev pub is_switch : Switch → Bool
is_switch s =
    is_typed_operand s.value && list_all is_case s.cases
    && option_map_or (λ width. are_distinct_cases width s.cases) (integer_width s.value.ty.ty) true

-- the end of a block
abbrev pub is_terminator : Terminator → Bool
is_terminator (terminator.Jump t) = true
is_terminator (terminator.Branch t) = is_condition t.condition
is_terminator (terminator.Switch t) = is_switch t
is_terminator (terminator.Return t) = option_map_or is_typed_operand t.value true
is_terminator (terminator.Unreachable at) = true

-- ---- blocks, functions, globals and structures

-- a list has no element
abbrev pub is_empty : {A : Type 0} → List A → Bool
is_empty [] = true
is_empty (x ∷ xs) = false

-- a phi lists a block
abbrev pub is_phi : Phi → Bool
is_phi p = is_value_type p.ty && not (is_empty p.incoming) && list_all (λ (i : Incoming). is_operand p.ty i.operand) p.incoming

-- phis, instructions and the end of a block
abbrev pub is_block : Block → Bool
is_block b = list_all is_phi b.phis && list_all is_instruction b.instructions && is_terminator b.terminator

-- no alloca stands in a block
abbrev pub has_no_alloca : Block → Bool
has_no_alloca b = not (list_any is_alloca b.instructions)

-- at least one block, and allocas in the first alone
abbrev pub are_blocks : List Block → Bool
are_blocks [] = false
are_blocks (entry ∷ others) = is_block entry && list_all is_block others && list_all has_no_alloca others

-- a function
abbrev pub is_function : Function → Bool
is_function f =
    is_result_type f.gives && list_all (λ (p : Parameter). is_value_type p.ty) f.parameters && are_blocks f.blocks

-- a global
abbrev pub is_global : Global → Bool
is_global g = has_widths g.ty.ty && is_initial g.initial g.ty.ty

-- the definition of a structure, which is written with its fields
abbrev pub is_structure : Structure → Bool
is_structure s = has_widths s.ty.ty && is_struct s.ty.ty

-- a module: each of its parts is well formed
abbrev pub is_module : Parts → Bool
is_module m = list_all is_structure m.structures && list_all is_global m.globals && list_all is_function m.functions
