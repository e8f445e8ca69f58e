-- What is asked of a text that is in the grammar so far: that the numbers of each `switch` differ, and of names, what they are
-- the names of. Of several the first in the text counts.
use Rattle.std.specs.Prelude.{ℕ, Bool, true, false, not, ◌&&◌, ◌||◌, nat_eq, nat_lt, cond, List, [], ◌∷◌, ◌++◌, map, flat_map, Option, Some, None}
use Rattle.std.specs.Option.{option_map_or}
use Rattle.std.specs.List.{list_any}
use Rattle.vg_ir.specs.declared.name.Name.{Name}
use Rattle.vg_ir.specs.declared.spot.Spot.{Spot}
use Rattle.vg_ir.specs.declared.ty.TypeAt.{TypeAt}
use Rattle.vg_ir.specs.declared.operand.Operand.{Operand}
use Rattle.vg_ir.specs.declared.operand.TypedOperand.{TypedOperand}
use Rattle.vg_ir.specs.declared.operand.Value.TheVariants as values
use Rattle.vg_ir.specs.declared.initializer.Initializer.{Initializer, fold-Initializer}
use Rattle.vg_ir.specs.declared.initializer.Initializer.TheOpen.{Initializer-F}
use Rattle.vg_ir.specs.declared.instruction.Instruction.{Instruction}
use Rattle.vg_ir.specs.declared.instruction.Instruction.TheVariants as instructions
use Rattle.vg_ir.specs.declared.instruction.Index.{Index}
use Rattle.vg_ir.specs.declared.terminator.Terminator.{Terminator}
use Rattle.vg_ir.specs.declared.terminator.Terminator.TheVariants as terminators
use Rattle.vg_ir.specs.declared.terminator.Case.{Case}
use Rattle.vg_ir.specs.declared.block.Phi.{Phi}
use Rattle.vg_ir.specs.declared.block.Incoming.{Incoming}
use Rattle.vg_ir.specs.declared.block.Block.{Block}
use Rattle.vg_ir.specs.declared.function.Function.{Function}
use Rattle.vg_ir.specs.declared.global.Global.{Global}
use Rattle.vg_ir.specs.declared.module.Parts.{Parts}
use Rattle.vg_ir.specs.Shape.{integer_width, number_of}
use Rattle.vg_ir.specs.Lookup.{same_name}

-- the least of places
abbrev pub least_of : ℕ → Option ℕ → ℕ
least_of n None = n
least_of n (Some m) = cond (nat_lt m n) m n

abbrev pub least : List ℕ → Option ℕ
least [] = None
least (n ∷ ns) = Some (least_of n (least ns))

-- ---- the numbers of a switch, modulo 2 ^ width

-- the places of the numbers that one before them equals, of cases behind others of these numbers
abbrev pub repeats_from : ℕ → List ℕ → List Case → List ℕ
repeats_from width before [] = []
repeats_from width before (c ∷ cs) =
    cond (list_any (nat_eq (number_of width c.number)) before) (c.at.at ∷ []) []
    ++ repeats_from width (number_of width c.number ∷ before) cs

abbrev pub terminator_repeats : Terminator → List ℕ
terminator_repeats (terminators.Switch s) = option_map_or (λ width. repeats_from width [] s.cases) (integer_width s.value.ty.ty) []
terminator_repeats _ = []

abbrev pub function_repeats : Function → List ℕ
function_repeats f = flat_map (λ (b : Block). terminator_repeats b.terminator) f.blocks

-- the places of all numbers that one before them in their `switch` equals
abbrev pub repeats : Parts → List ℕ
repeats m = flat_map function_repeats m.functions

-- ---- operands that are names of functions

abbrev pub is_function_name : Parts → Name → Bool
is_function_name m n = list_any (λ (f : Function). same_name f.name.name n) m.functions

abbrev pub is_global_name : Parts → Name → Bool
is_global_name m n = list_any (λ (g : Global). same_name g.name.name n) m.globals

abbrev pub name_address : Parts → Name → Spot → List ℕ
name_address m n at = cond (is_function_name m n) (at.at ∷ []) []

abbrev pub operand_address : Parts → Operand → List ℕ
operand_address m o = elim o.value [
  | values.Local n ↦ []
  | values.Global n ↦ name_address m n o.at
  | values.Number n ↦ []
  | values.True ↦ []
  | values.False ↦ []
  | values.Null ↦ []
  | values.Undef ↦ []
  | values.Poison ↦ []
]

abbrev pub operands_addresses : Parts → List Operand → List ℕ
operands_addresses m os = flat_map (operand_address m) os

-- the operands of an instruction
abbrev pub operands_of : Instruction → List Operand
operands_of (instructions.Binary i) = i.left ∷ i.right ∷ []
operands_of (instructions.Compare i) = i.left ∷ i.right ∷ []
operands_of (instructions.Select i) = i.condition ∷ i.then.operand ∷ i.otherwise.operand ∷ []
operands_of (instructions.Cast i) = i.operand.operand ∷ []
operands_of (instructions.Freeze i) = i.operand.operand ∷ []
operands_of (instructions.Alloca i) = []
operands_of (instructions.Load i) = i.pointer ∷ []
operands_of (instructions.Store i) = i.value.operand ∷ i.pointer ∷ []
operands_of (instructions.ElementPointer i) = i.pointer ∷ map (λ (x : Index). x.operand) i.indices
operands_of (instructions.Call i) = map (λ (a : TypedOperand). a.operand) i.arguments

-- the operands of a terminator
abbrev pub terminator_operands : Terminator → List Operand
terminator_operands (terminators.Jump t) = []
terminator_operands (terminators.Branch t) = t.condition ∷ []
terminator_operands (terminators.Switch t) = t.value.operand ∷ []
terminator_operands (terminators.Return t) = option_map_or (λ (v : TypedOperand). v.operand ∷ []) t.value []
terminator_operands (terminators.Unreachable at) = []

abbrev pub phi_operands : Phi → List Operand
phi_operands p = map (λ (i : Incoming). i.operand) p.incoming

abbrev pub block_operands : Block → List Operand
block_operands b = flat_map phi_operands b.phis ++ flat_map operands_of b.instructions ++ terminator_operands b.terminator

-- one level of an initialiser, with those of its parts
abbrev pub initial_address_step : Parts → Initializer-F (List ℕ) → List ℕ
initial_address_step m (Initializer-F.Number n at) = []
initial_address_step m (Initializer-F.True at) = []
initial_address_step m (Initializer-F.False at) = []
initial_address_step m (Initializer-F.Null at) = []
initial_address_step m (Initializer-F.Zero at) = []
initial_address_step m (Initializer-F.Undef at) = []
initial_address_step m (Initializer-F.Poison at) = []
initial_address_step m (Initializer-F.Text text at) = []
initial_address_step m (Initializer-F.Global n at) = name_address m n at
initial_address_step m (Initializer-F.Array elements at) = flat_map (λ (e : TypeAt × List ℕ). e.1) elements
initial_address_step m (Initializer-F.Struct fields at) = flat_map (λ (e : TypeAt × List ℕ). e.1) fields

abbrev pub initial_addresses : Parts → Initializer → List ℕ
initial_addresses m i = fold-Initializer (List ℕ) (initial_address_step m) i

-- the places of operands and initialisers that are names of functions
abbrev pub function_addresses : Parts → List ℕ
function_addresses m =
    flat_map (λ (g : Global). initial_addresses m g.initial) m.globals
    ++ flat_map (λ (f : Function). flat_map (λ (b : Block). operands_addresses m (block_operands b)) f.blocks) m.functions

-- ---- functions that are called and not defined: no function and no global of the module has their name

abbrev pub is_external : Parts → Name → Bool
is_external m n = not (is_function_name m n || is_global_name m n)

abbrev pub call_external : Parts → Instruction → List ℕ
call_external m (instructions.Call i) = cond (is_external m i.callee.name) (i.callee.at.at ∷ []) []
call_external m _ = []

-- the places of the names of functions that are called and not defined
abbrev pub external_functions : Parts → List ℕ
external_functions m =
    flat_map (λ (f : Function). flat_map (λ (b : Block). flat_map (call_external m) b.instructions) f.blocks) m.functions
