-- What a name of a module stands for: the first definition of it.
use Rattle.std.specs.Prelude.{Bool, ◌&&◌, nat_eq, Option, find}
use Rattle.std.specs.Str.{bytes_eq}
use Rattle.vg_ir.specs.declared.name.Name.{Name}
use Rattle.vg_ir.specs.declared.module.Structure.{Structure}
use Rattle.vg_ir.specs.declared.module.Parts.{Parts}
use Rattle.vg_ir.specs.declared.function.Function.{Function}
use Rattle.vg_ir.specs.declared.block.Block.{Block}

-- two names are one: of one text of the program, with the same bytes
abbrev pub same_name : Name → Name → Bool
same_name a b = nat_eq a.unit b.unit && bytes_eq a.text b.text

-- the structure of a name
abbrev pub structure_named : Parts → Name → Option Structure
structure_named m n = find (λ (s : Structure). same_name s.name.name n) m.structures

-- the function of a name
abbrev pub function_named : Parts → Name → Option Function
function_named m n = find (λ (f : Function). same_name f.name.name n) m.functions

-- the block of a name, in a function
abbrev pub block_named : Function → Name → Option Block
block_named f n = find (λ (b : Block). same_name b.name.name n) f.blocks
