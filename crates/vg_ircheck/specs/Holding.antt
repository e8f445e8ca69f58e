-- Structures that hold themselves: through fields and elements, and through other structures in them.
use Rattle.std.specs.Prelude.{Bool, false, List, [], ◌∷◌, map, flat_map, if◌then◌else◌}
use Rattle.std.specs.Option.{option_map_or}
use Rattle.std.specs.List.{list_any}
use Rattle.vg_ir.specs.declared.name.Name.{Name}
use Rattle.vg_ir.specs.declared.spot.Spot.{Spot}
use Rattle.vg_ir.specs.declared.module.Structure.{Structure}
use Rattle.vg_ir.specs.declared.module.Parts.{Parts}
use Rattle.vg_ir.specs.Lookup.{same_name, structure_named}
use Rattle.vg_ircheck.specs.Types.{Leaf, Whole, Address, Structure as Held, leaves_of}
use Rattle.vg_ircheck.specs.Steps.{leads}

-- a name stands innermost in a type
abbrev pub is_held_leaf : Name → Leaf → Bool
is_held_leaf n (Whole bits) = false
is_held_leaf n Address = false
is_held_leaf n (Held other) = same_name other n

-- a structure has another in its definition
abbrev pub is_held_in : Parts → Name → Name → Bool
is_held_in m outer inner =
    option_map_or (λ (s : Structure). list_any (is_held_leaf inner) (leaves_of s.ty.ty)) (structure_named m outer) false

-- a structure holds itself
abbrev pub holds_itself : Parts → Name → Bool
holds_itself m n = leads (is_held_in m) (map (λ (s : Structure). s.name.name) m.structures) n n

-- the names of the structures that hold themselves, in their definitions
abbrev pub holding_places : Parts → List Spot
holding_places m =
    flat_map (λ (s : Structure). if holds_itself m s.name.name then (s.name.at ∷ []) else []) m.structures
