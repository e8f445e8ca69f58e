-- Types: whether two are one, and which names and integers a written type has, each with its place.
use Rattle.std.specs.Prelude.{ℕ, ◌+◌, Bool, true, false, ◌&&◌, nat_eq, nat_lt, List, [], ◌∷◌, flat_map, Option, Some, None, is_some}
use Rattle.std.specs.Option.{option_map_or}
use Rattle.vg_ir.specs.declared.name.Name.{Name}
use Rattle.vg_ir.specs.declared.spot.Spot.{Spot}
use Rattle.vg_ir.specs.declared.ty.Ty.{Ty, out-Ty, fold-Ty}
use Rattle.vg_ir.specs.declared.ty.Ty.TheOpen.{Ty-F}
use Rattle.vg_ir.specs.declared.ty.TypeAt.{TypeAt}
use Rattle.vg_ir.specs.declared.module.Parts.{Parts}
use Rattle.vg_ir.specs.Lookup.{same_name, structure_named}
use Rattle.vg_ir.specs.Shape.{integer_width}
use Rattle.vg_ircheck.specs.Place.{unless}

-- ---- kinds of types

-- an integer
abbrev pub is_integer : Ty → Bool
is_integer t = is_some (integer_width t)

-- the integer of so many bits
abbrev pub is_integer_of : ℕ → Ty → Bool
is_integer_of n t = option_map_or (nat_eq n) (integer_width t) false

-- an address
abbrev pub is_address : Ty → Bool
is_address t = elim (out-Ty t) [
  | Ty-F.Int n ↦ false
  | Ty-F.Ptr ↦ true
  | Ty-F.Array count element ↦ false
  | Ty-F.Struct fields ↦ false
  | Ty-F.Named n ↦ false
]

-- ---- equal types: structures by a name are the same by that name alone

-- each of some types is the one at its place
abbrev pub same_in_order : List (Ty → Bool) → List Ty → Bool
same_in_order [] [] = true
same_in_order [] (t ∷ ts) = false
same_in_order (s ∷ ss) [] = false
same_in_order (s ∷ ss) (t ∷ ts) = s t && same_in_order ss ts

-- one level of a type: whether another is the same
abbrev pub same_type_step : Ty-F (Ty → Bool) → Ty → Bool
same_type_step (Ty-F.Int n) t = is_integer_of n t
same_type_step Ty-F.Ptr t = is_address t
same_type_step (Ty-F.Array count element) t = elim (out-Ty t) [
  | Ty-F.Int m ↦ false
  | Ty-F.Ptr ↦ false
  | Ty-F.Array others other ↦ nat_eq count others && element other
  | Ty-F.Struct fields ↦ false
  | Ty-F.Named m ↦ false
]
same_type_step (Ty-F.Struct fields) t = elim (out-Ty t) [
  | Ty-F.Int m ↦ false
  | Ty-F.Ptr ↦ false
  | Ty-F.Array others other ↦ false
  | Ty-F.Struct other_fields ↦ same_in_order fields other_fields
  | Ty-F.Named m ↦ false
]
same_type_step (Ty-F.Named n) t = elim (out-Ty t) [
  | Ty-F.Int m ↦ false
  | Ty-F.Ptr ↦ false
  | Ty-F.Array others other ↦ false
  | Ty-F.Struct fields ↦ false
  | Ty-F.Named m ↦ same_name n m
]

-- two types are one
abbrev pub same_type : Ty → Ty → Bool
same_type s t = fold-Ty (Ty → Bool) same_type_step s t

-- two results are of one type; None is void
abbrev pub same_result : Option TypeAt → Option TypeAt → Bool
same_result None None = true
same_result None (Some t) = false
same_result (Some s) None = false
same_result (Some s) (Some t) = same_type s.ty t.ty

-- two lists of types are one
abbrev pub same_types : List Ty → List Ty → Bool
same_types [] [] = true
same_types [] (t ∷ ts) = false
same_types (s ∷ ss) [] = false
same_types (s ∷ ss) (t ∷ ts) = same_type s t && same_types ss ts

-- ---- what stands innermost in a type

-- an integer of so many bits, an address, or a structure by its name
pub data Leaf : Type 0 where
  Whole : ℕ → Leaf
  Address : Leaf
  Structure : Name → Leaf

-- one level of a type: what stands innermost in it, in the order of the text
abbrev pub leaves_step : Ty-F (List Leaf) → List Leaf
leaves_step (Ty-F.Int n) = Whole n ∷ []
leaves_step Ty-F.Ptr = Address ∷ []
leaves_step (Ty-F.Array count element) = element
leaves_step (Ty-F.Struct fields) = flat_map (λ field. field) fields
leaves_step (Ty-F.Named n) = Structure n ∷ []

-- what stands innermost in a type
abbrev pub leaves_of : Ty → List Leaf
leaves_of t = fold-Ty (List Leaf) leaves_step t

-- each at its place; one without a place of its own has that of the whole type
abbrev pub leaves_at : Spot → List Spot → List Leaf → List (Leaf × Spot)
leaves_at whole places [] = []
leaves_at whole [] (l ∷ ls) = (l, whole) ∷ leaves_at whole [] ls
leaves_at whole (s ∷ ss) (l ∷ ls) = (l, s) ∷ leaves_at whole ss ls

-- what stands innermost in a written type, with the places
abbrev pub placed_leaves : TypeAt → List (Leaf × Spot)
placed_leaves t = leaves_at t.at t.leaves (leaves_of t.ty)

-- a name among them has a definition
abbrev pub is_known : Parts → Leaf → Bool
is_known m (Whole n) = true
is_known m Address = true
is_known m (Structure n) = is_some (structure_named m n)

-- an integer among them has at most so many bits
abbrev pub is_within : ℕ → Leaf → Bool
is_within width (Whole n) = nat_lt n (width + 1)
is_within width Address = true
is_within width (Structure n) = true

-- the places in a written type of names without a definition
abbrev pub unknown_places : Parts → TypeAt → List Spot
unknown_places m t = flat_map (λ (l : Leaf × Spot). unless (is_known m l.0) l.1) (placed_leaves t)

-- the places in a written type of integers of more bits than an address
abbrev pub wide_places : ℕ → TypeAt → List Spot
wide_places width t = flat_map (λ (l : Leaf × Spot). unless (is_within width l.0) l.1) (placed_leaves t)
