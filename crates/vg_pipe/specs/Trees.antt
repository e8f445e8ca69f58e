-- The trees of an instruction, in a state: what they read, and the write of a resource. The memory has the number 0
-- among the resources, and the r-th register or register file the number r + 1.
use Rattle.std.specs.Prelude.{ℕ, zero, suc, Bool, true, false, ◌||◌, nat_eq, List, [], ◌∷◌, ◌++◌, map, flat_map, Option, Some, None, if◌then◌else◌}
use Rattle.std.specs.Option.{option_map_or}
use Rattle.std.specs.List.{filter_map}
use Rattle.vg_isa.specs.declared.isa.Parts.{Parts}
use Rattle.vg_isa.specs.declared.expr.Expr.{Expr}
use Rattle.vg_isa.specs.declared.ids.ResourceId.{ResourceId}
use Rattle.vg_isa.specs.declared.ids.ResourceId.TheVariants.{Memory, Reg}
use Rattle.vg_isa.specs.declared.instr.Write.{Write}
use Rattle.vg_isa.specs.Node.{write_trees, next_trees, nodes_of, access_in}
use Rattle.vg_isa.specs.Value.{Reads, value_of}
use Rattle.vg_place.specs.Reading.{reading}

-- ---- reads

-- one of the trees reads the location
abbrev pub are_reading : Parts → ℕ → Reads → List Expr → ℕ → ℕ → Bool
are_reading d word s [] r i = false
are_reading d word s (e ∷ trees) r i = (reading d word s e).reads r i || are_reading d word s trees r i

-- the addresses of the memory reads of trees, each in front of those in it
abbrev pub addresses_of : Parts → ℕ → Reads → List Expr → List ℕ
addresses_of d word s trees = map (λ (access : Expr × ℕ). (value_of d access.0 word s).number) (filter_map access_in (flat_map nodes_of trees))

-- ---- writes

-- the resource has this number
abbrev pub has_number : ℕ → ResourceId → Bool
has_number zero Memory = true
has_number zero (Reg q) = false
has_number (suc r) Memory = false
has_number (suc r) (Reg q) = nat_eq r q.0

-- the write of the resource with this number, where there is one; there is one at most
abbrev pub write_to : ℕ → List Write → Option Write
write_to r [] = None
write_to r (w ∷ writes) = if has_number r w.resource then Some w else write_to r writes

-- the trees of writes, and those of the next program counter
abbrev pub all_trees : List Write → Option (Expr × Expr) → List Expr
all_trees writes next = flat_map write_trees writes ++ next_trees next

-- the index or address at which a write writes; 0 for a single register
abbrev pub place_of : Parts → ℕ → Reads → Option Expr → ℕ
place_of d word s at = option_map_or (λ (e : Expr). (value_of d e word s).number) at 0
