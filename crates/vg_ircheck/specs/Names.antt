-- The names that a module defines, by their scopes, and those that are defined twice. Structures are names of one scope,
-- globals and functions of another, and the values and blocks of a function of a scope of its own.
use Rattle.std.specs.Prelude.{List, [], ◌∷◌, ◌++◌, map, flat_map, filter, Option, Some, None}
use Rattle.vg_ir.specs.declared.spot.Spot.{Spot}
use Rattle.vg_ir.specs.declared.name.NameAt.{NameAt}
use Rattle.vg_ir.specs.declared.instruction.Instruction.{Instruction}
use Rattle.vg_ir.specs.declared.instruction.Instruction.TheVariants as instruction
use Rattle.vg_ir.specs.declared.block.Phi.{Phi}
use Rattle.vg_ir.specs.declared.block.Block.{Block}
use Rattle.vg_ir.specs.declared.function.Function.{Function}
use Rattle.vg_ir.specs.declared.function.Parameter.{Parameter}
use Rattle.vg_ir.specs.declared.global.Global.{Global}
use Rattle.vg_ir.specs.declared.module.Structure.{Structure}
use Rattle.vg_ir.specs.declared.module.Parts.{Parts}
use Rattle.vg_ir.specs.Lookup.{same_name}
use Rattle.vg_ircheck.specs.Place.{later}

-- the name that an instruction sets
abbrev pub set_name : Instruction → Option NameAt
set_name (instruction.Binary i) = Some i.result
set_name (instruction.Compare i) = Some i.result
set_name (instruction.Select i) = Some i.result
set_name (instruction.Cast i) = Some i.result
set_name (instruction.Freeze i) = Some i.result
set_name (instruction.Alloca i) = Some i.result
set_name (instruction.Load i) = Some i.result
set_name (instruction.Store i) = None
set_name (instruction.ElementPointer i) = Some i.result
set_name (instruction.Call i) = i.result

-- it as a list
abbrev pub set_names : Instruction → List NameAt
set_names i = elim (set_name i) [ None ↦ [] | Some n ↦ n ∷ [] ]

-- the values that a block sets
abbrev pub block_results : Block → List NameAt
block_results b = map (λ (p : Phi). p.result) b.phis ++ flat_map set_names b.instructions

-- a block and the values that it sets
abbrev pub block_names : Block → List NameAt
block_names b = b.name ∷ block_results b

-- the values and blocks of a function
abbrev pub function_names : Function → List NameAt
function_names f = map (λ (q : Parameter). q.name) f.parameters ++ flat_map block_names f.blocks

-- globals and functions
abbrev pub global_names : Parts → List NameAt
global_names m = map (λ (g : Global). g.name) m.globals ++ map (λ (f : Function). f.name) m.functions

-- structures
abbrev pub structure_names : Parts → List NameAt
structure_names m = map (λ (s : Structure). s.name) m.structures

-- the other definitions of a name among some
abbrev pub same_names : NameAt → List NameAt → List NameAt
same_names d others = filter (λ (e : NameAt). same_name d.name e.name) others

-- Of two definitions of one name in a scope, the second is the one that stands later in the text.
unfoldable pub second_places : List NameAt → List Spot
second_places [] = []
second_places (d ∷ ds) = map (λ (e : NameAt). later d.at e.at) (same_names d ds) ++ second_places ds

-- the places of the second definitions of all names of a module
abbrev pub twice_places : Parts → List Spot
twice_places m =
    second_places (structure_names m) ++ second_places (global_names m)
    ++ flat_map (λ (f : Function). second_places (function_names f)) m.functions
