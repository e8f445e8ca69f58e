-- The types of initialisers: where one isn't of its type. A wrong element is told at the element, a wrong number of elements at
-- the first lexeme of the whole.
use Rattle.std.specs.Prelude.{ℕ, Bool, true, false, ◌&&◌, nat_eq, List, [], ◌∷◌, ◌++◌, length, flat_map, Option, Some, None}
use Rattle.std.specs.Option.{option_map_or}
use Rattle.vg_ir.specs.declared.spot.Spot.{Spot}
use Rattle.vg_ir.specs.declared.ty.Ty.{Ty, out-Ty}
use Rattle.vg_ir.specs.declared.ty.Ty.TheOpen.{Ty-F}
use Rattle.vg_ir.specs.declared.ty.TypeAt.{TypeAt}
use Rattle.vg_ir.specs.declared.initializer.Initializer.{Initializer, fold-Initializer}
use Rattle.vg_ir.specs.declared.initializer.Initializer.TheOpen.{Initializer-F}
use Rattle.vg_ir.specs.declared.global.Global.{Global}
use Rattle.vg_ir.specs.declared.module.Parts.{Parts}
use Rattle.vg_ir.specs.Address.{opened}
use Rattle.vg_ircheck.specs.Place.{unless}
use Rattle.vg_ircheck.specs.Types.{is_integer, is_integer_of, is_address, same_type}
use Rattle.vg_ircheck.specs.OperandTyping.{is_global_name}

-- the number and the type of the elements of an array
abbrev pub array_of : Ty → Option (ℕ × Ty)
array_of t = elim (out-Ty t) [
  | Ty-F.Int n ↦ None
  | Ty-F.Ptr ↦ None
  | Ty-F.Array count element ↦ Some (count, element)
  | Ty-F.Struct fields ↦ None
  | Ty-F.Named n ↦ None
]

-- the types of the fields of a structure, which may be given by its name
abbrev pub fields_of : Parts → Ty → Option (List Ty)
fields_of m t = elim (opened m t) [
  | None ↦ None
  | Some layer ↦ elim layer [
    | Ty-F.Int n ↦ None
    | Ty-F.Ptr ↦ None
    | Ty-F.Array count element ↦ None
    | Ty-F.Struct fields ↦ Some fields
    | Ty-F.Named n ↦ None
  ]
]

-- an array of so many bytes
abbrev pub is_text_type : ℕ → Ty → Bool
is_text_type n t = option_map_or (λ (a : ℕ × Ty). nat_eq a.0 n && is_integer_of 8 a.1) (array_of t) false

-- The places in an initialiser, where it is known whether the type in front of it is the one that is needed there.
abbrev pub Judged : Type 0
Judged = Bool → Ty → List Spot

-- an element at the type that is written in front of it, where another may be needed
abbrev pub element_places : Option Ty → TypeAt × Judged → List Spot
element_places needed e = e.1 (option_map_or (λ t. same_type t e.0.ty) needed true) e.0.ty

-- fields at their types; where there are more of them than types, the others are judged by themselves
abbrev pub field_places : List Ty → List (TypeAt × Judged) → List Spot
field_places types [] = []
field_places [] (e ∷ es) = element_places None e ++ field_places [] es
field_places (t ∷ ts) (e ∷ es) = element_places (Some t) e ++ field_places ts es

-- an array of elements
abbrev pub array_places : Spot → Option (ℕ × Ty) → Bool → List (TypeAt × Judged) → List Spot
array_places at None fits elements = at ∷ flat_map (element_places None) elements
array_places at (Some a) fits elements =
    unless (fits && nat_eq a.0 (length elements)) at ++ flat_map (element_places (Some a.1)) elements

-- a structure of fields
abbrev pub struct_places : Spot → Option (List Ty) → Bool → List (TypeAt × Judged) → List Spot
struct_places at None fits fields = at ∷ field_places [] fields
struct_places at (Some types) fits fields =
    unless (fits && nat_eq (length types) (length fields)) at ++ field_places types fields

-- one level of an initialiser
abbrev pub initial_step : Parts → Initializer-F Judged → Bool → Ty → List Spot
initial_step m (Initializer-F.Number n at) fits t = unless (fits && is_integer t) at
initial_step m (Initializer-F.True at) fits t = unless (fits && is_integer_of 1 t) at
initial_step m (Initializer-F.False at) fits t = unless (fits && is_integer_of 1 t) at
initial_step m (Initializer-F.Null at) fits t = unless (fits && is_address t) at
initial_step m (Initializer-F.Zero at) fits t = unless fits at
initial_step m (Initializer-F.Undef at) fits t = unless fits at
initial_step m (Initializer-F.Poison at) fits t = unless fits at
initial_step m (Initializer-F.Text text at) fits t = unless (fits && is_text_type (length text) t) at
initial_step m (Initializer-F.Global n at) fits t = unless (fits && is_address t && is_global_name m n) at
initial_step m (Initializer-F.Array elements at) fits t = array_places at (array_of t) fits elements
initial_step m (Initializer-F.Struct fields at) fits t = struct_places at (fields_of m t) fits fields

-- the places in an initialiser at a type
abbrev pub initial_places : Parts → Initializer → Bool → Ty → List Spot
initial_places m i = fold-Initializer Judged (initial_step m) i

-- the initialiser of a global
abbrev pub global_places : Parts → Global → List Spot
global_places m g = initial_places m g.initial true g.ty.ty
