-- How many functions, globals, instructions, parameters and cases a module may have, and how deep its types may nest; and what
-- is too many.
use Rattle.std.specs.Prelude.{ℕ, zero, suc, Bool, true, false, List, [], ◌∷◌, ◌++◌, map, flat_map, slice_get, Option, Some, None}
use Rattle.std.specs.List.{list_all}
use Rattle.vg_ir.specs.declared.spot.Spot.{Spot}
use Rattle.vg_ir.specs.declared.ty.Ty.{Ty}
use Rattle.vg_ir.specs.declared.ty.Ty.TheOpen.{Ty-F}
use Rattle.vg_ir.specs.declared.ty.TypeAt.{TypeAt}
use Rattle.vg_ir.specs.declared.instruction.Instruction.{Instruction}
use Rattle.vg_ir.specs.declared.instruction.Instruction.TheVariants as instruction
use Rattle.vg_ir.specs.declared.terminator.Terminator.{Terminator}
use Rattle.vg_ir.specs.declared.terminator.Terminator.TheVariants as terminator
use Rattle.vg_ir.specs.declared.terminator.Case.{Case}
use Rattle.vg_ir.specs.declared.block.Phi.{Phi}
use Rattle.vg_ir.specs.declared.block.Block.{Block}
use Rattle.vg_ir.specs.declared.function.Function.{Function}
use Rattle.vg_ir.specs.declared.function.Parameter.{Parameter}
use Rattle.vg_ir.specs.declared.global.Global.{Global}
use Rattle.vg_ir.specs.declared.module.Parts.{Parts}
use Rattle.vg_ir.specs.Address.{opened}
use Rattle.vg_ircheck.specs.Place.{unless}
use Rattle.vg_ircheck.specs.Written.{module_types}

-- ---- the words of instructions

-- the place of an instruction's word
abbrev pub instruction_word : Instruction → Spot
instruction_word (instruction.Binary i) = i.at
instruction_word (instruction.Compare i) = i.at
instruction_word (instruction.Select i) = i.at
instruction_word (instruction.Cast i) = i.at
instruction_word (instruction.Freeze i) = i.at
instruction_word (instruction.Alloca i) = i.at
instruction_word (instruction.Load i) = i.at
instruction_word (instruction.Store i) = i.at
instruction_word (instruction.ElementPointer i) = i.at
instruction_word (instruction.Call i) = i.at

-- the place of the word that ends a block
abbrev pub terminator_word : Terminator → Spot
terminator_word (terminator.Jump t) = t.at
terminator_word (terminator.Branch t) = t.at
terminator_word (terminator.Switch t) = t.at
terminator_word (terminator.Return t) = t.at
terminator_word (terminator.Unreachable at) = at

-- the words of a block: of its phis, its instructions and its end
abbrev pub block_words : Block → List Spot
block_words b =
    map (λ (p : Phi). p.at) b.phis ++ map instruction_word b.instructions ++ terminator_word b.terminator ∷ []

-- the words of a function
abbrev pub function_words : Function → List Spot
function_words f = flat_map block_words f.blocks

-- the words of all instructions
abbrev pub module_words : Parts → List Spot
module_words m = flat_map function_words m.functions

-- ---- too many

-- the first of a list that is too many, where at most so many may be in it
abbrev pub first_beyond : ℕ → List Spot → List Spot
first_beyond most places = elim (slice_get places most) [ None ↦ [] | Some s ↦ s ∷ [] ]

abbrev pub most_functions : ℕ
most_functions = 4096

abbrev pub most_globals : ℕ
most_globals = 4096

abbrev pub most_instructions : ℕ
most_instructions = 262144

-- of a function
abbrev pub most_parameters : ℕ
most_parameters = 64

-- of a switch
abbrev pub most_cases : ℕ
most_cases = 1024

-- the numbers of the cases of a switch
abbrev pub case_numbers : Terminator → List Spot
case_numbers (terminator.Jump t) = []
case_numbers (terminator.Branch t) = []
case_numbers (terminator.Switch t) = map (λ (c : Case). c.at) t.cases
case_numbers (terminator.Return t) = []
case_numbers (terminator.Unreachable at) = []

-- the first case too many of each switch of a function
abbrev pub case_excess : Function → List Spot
case_excess f = flat_map (λ (b : Block). first_beyond most_cases (case_numbers b.terminator)) f.blocks

-- the first parameter of a function that is too many
abbrev pub parameter_excess : Function → List Spot
parameter_excess f = first_beyond most_parameters (map (λ (q : Parameter). q.name.at) f.parameters)

-- ---- nested types

abbrev pub most_nested : ℕ
most_nested = 16

-- Nothing more is nested: an integer, an address, or a name without a definition.
abbrev pub is_innermost : Option (Ty-F Ty) → Bool
is_innermost None = true
is_innermost (Some layer) = elim layer [
  | Ty-F.Int n ↦ true
  | Ty-F.Ptr ↦ true
  | Ty-F.Array count element ↦ false
  | Ty-F.Struct fields ↦ false
  | Ty-F.Named n ↦ false
]

-- what is in the brackets of a type has a property
abbrev pub has_inside : (Ty → Bool) → Option (Ty-F Ty) → Bool
has_inside has None = true
has_inside has (Some layer) = elim layer [
  | Ty-F.Int n ↦ true
  | Ty-F.Ptr ↦ true
  | Ty-F.Array count element ↦ has element
  | Ty-F.Struct fields ↦ list_all has fields
  | Ty-F.Named n ↦ false
]

-- A type nests at most so many brackets deep. A name counts as its definition, which begins with a bracket.
unfoldable pub nests_within : ℕ → Parts → Ty → Bool
nests_within zero m t = is_innermost (opened m t)
nests_within (suc brackets) m t = has_inside (nests_within brackets m) (opened m t)

-- a written type that nests too deep
abbrev pub nested_places : Parts → TypeAt → List Spot
nested_places m t = unless (nests_within most_nested m t.ty) t.at

-- ---- a module

-- all places where a count is exceeded, in no order
abbrev pub count_places : Parts → List Spot
count_places m =
    first_beyond most_functions (map (λ (f : Function). f.name.at) m.functions)
    ++ first_beyond most_globals (map (λ (g : Global). g.name.at) m.globals)
    ++ first_beyond most_instructions (module_words m)
    ++ flat_map parameter_excess m.functions
    ++ flat_map case_excess m.functions
    ++ flat_map (nested_places m) (module_types m)
