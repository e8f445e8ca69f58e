-- Layout: how many bytes a type takes, at which multiples it stands, and where the fields of a structure are.
-- `width` is the number of bits of an address.
use Rattle.std.specs.Prelude.{ℕ, zero, suc, ◌+◌, ◌-◌, ◌*◌, ◌/◌, max, nat_eq, List, [], ◌∷◌, map, if◌then◌else◌}
use Rattle.std.specs.Option.{option_map_or}
use Rattle.vg_ir.specs.declared.ty.Ty.{Ty, out-Ty}
use Rattle.vg_ir.specs.declared.ty.Ty.TheOpen.{Ty-F}
use Rattle.vg_ir.specs.declared.module.Structure.{Structure}
use Rattle.vg_ir.specs.declared.module.Parts.{Parts}
use Rattle.vg_ir.specs.Lookup.{structure_named}

-- in bytes
pub record SizeAlign : Type 0 where
  pub size : ℕ
  pub align : ℕ

-- the least multiple of a not below n
abbrev pub round_up : ℕ → ℕ → ℕ
round_up n a = (n + a - 1) / a * a

-- i1 and i8 take a byte, i16, i32 and i64 take 2, 4 and 8
abbrev pub integer_bytes : ℕ → ℕ
integer_bytes n = if nat_eq n 1 then 1 else (n / 8)

-- an integer or an address stands at the multiples of its size
abbrev pub scalar_layout : ℕ → SizeAlign
scalar_layout bytes = record { size = bytes; align = bytes }

-- where fields end that begin at or behind an offset, each at the next multiple of its alignment
abbrev pub fields_end : ℕ → List SizeAlign → ℕ
fields_end at [] = at
fields_end at (l ∷ ls) = fields_end (round_up at l.align + l.size) ls

-- where the field of this number begins
abbrev pub field_at : ℕ → List SizeAlign → ℕ → ℕ
field_at at [] k = at
field_at at (l ∷ ls) zero = round_up at l.align
field_at at (l ∷ ls) (suc k) = field_at (round_up at l.align + l.size) ls k

-- the alignment of a structure is the greatest of its fields
abbrev pub greatest_align : List SizeAlign → ℕ
greatest_align [] = 1
greatest_align (l ∷ ls) = max l.align (greatest_align ls)

-- fields in order; the size is rounded up to the alignment
abbrev pub struct_layout : List SizeAlign → SizeAlign
struct_layout ls = record { size = round_up (fields_end 0 ls) (greatest_align ls); align = greatest_align ls }

-- what has no layout
abbrev pub no_layout : SizeAlign
no_layout = record { size = 0; align = 1 }

-- so many elements of a layout, one behind the other
abbrev pub array_layout : ℕ → SizeAlign → SizeAlign
array_layout count l = record { size = count * l.size; align = l.align }

-- the layout of what a type is made of, where `inner` lays out its parts
abbrev pub layer_layout : Parts → ℕ → (Ty → SizeAlign) → Ty-F Ty → SizeAlign
layer_layout m width inner (Ty-F.Int n) = scalar_layout (integer_bytes n)
layer_layout m width inner Ty-F.Ptr = scalar_layout (width / 8)
layer_layout m width inner (Ty-F.Array count element) = array_layout count (inner element)
layer_layout m width inner (Ty-F.Struct fields) = struct_layout (map inner fields)
layer_layout m width inner (Ty-F.Named n) =
    option_map_or (λ (s : Structure). inner s.ty.ty) (structure_named m n) no_layout

-- The layout of a type of so many levels of arrays, structures and names. What is nested deeper, and a name without a
-- definition, takes no byte.
unfoldable pub layout_within : ℕ → Parts → ℕ → Ty → SizeAlign
layout_within zero m width t = no_layout
layout_within (suc levels) m width t = layer_layout m width (layout_within levels m width) (out-Ty t)

-- Types nest at most 16 brackets deep, where a name counts as what it stands for. Each bracket may have a name, and the
-- innermost has a type in it.
abbrev pub type_levels : ℕ
type_levels = 33

-- the layout of a type
abbrev pub layout_of : Parts → ℕ → Ty → SizeAlign
layout_of m width t = layout_within type_levels m width t

-- the bytes of a type
abbrev pub size_of : Parts → ℕ → Ty → ℕ
size_of m width t = (layout_of m width t).size

-- the offset of a field of a structure with these fields
abbrev pub offset_in : Parts → ℕ → List Ty → ℕ → ℕ
offset_in m width fields k = field_at 0 (map (layout_of m width) fields) k
