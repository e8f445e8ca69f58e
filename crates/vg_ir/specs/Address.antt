-- What getelementptr makes of an address: each index leads on, and all sums are modulo 2 to the width of addresses.
use Rattle.std.specs.Prelude.{ℕ, ◌+◌, ◌*◌, ◌%◌, ◌^◌, List, [], ◌∷◌, Option, Some, option_map, slice_get}
use Rattle.vg_bits.specs.BitValue.{BitValue, sign_extend}
use Rattle.vg_ir.specs.declared.ty.Ty.{Ty, out-Ty}
use Rattle.vg_ir.specs.declared.ty.Ty.TheOpen.{Ty-F}
use Rattle.vg_ir.specs.declared.operand.Value.TheVariants as value
use Rattle.vg_ir.specs.declared.instruction.Index.{Index}
use Rattle.vg_ir.specs.declared.module.Structure.{Structure}
use Rattle.vg_ir.specs.declared.module.Parts.{Parts}
use Rattle.vg_ir.specs.Shape.{number_of}
use Rattle.vg_ir.specs.Lookup.{structure_named}
use Rattle.vg_ir.specs.TypeLayout.{size_of, offset_in}
use Rattle.vg_ir.specs.Answer.{Answer, Known, Lacking, ◌>>=◌, known}
use Rattle.vg_ir.specs.State.{Placement, Values}
use Rattle.vg_ir.specs.Operands.{operand}

-- an index at the width of addresses: extended by its sign, or cut
abbrev pub index_number : ℕ → BitValue → ℕ
index_number width i = (sign_extend i width).number

-- an address and so many elements of a size
abbrev pub moved_by : ℕ → ℕ → ℕ → ℕ → ℕ
moved_by width at index size = (at + index * size) % 2 ^ width

-- the address behind so many elements of a type
abbrev pub element_at : Parts → Placement → Values → Ty → ℕ → Index → Answer ℕ
element_at m p values t at i =
    operand p values i.ty.width i.operand >>= λ index.
    Known (moved_by p.width at (index_number p.width index) (size_of m p.width t))

-- the number of a field, which is written as a number
abbrev pub field_number : Index → Answer ℕ
field_number i = elim i.operand.value [
  | value.Local n ↦ Lacking
  | value.Global n ↦ Lacking
  | value.Number n ↦ Known (number_of i.ty.width n)
  | value.True ↦ Lacking
  | value.False ↦ Lacking
  | value.Null ↦ Lacking
  | value.Undef ↦ Lacking
  | value.Poison ↦ Lacking
]

-- what a type is made of: a name stands for its structure
abbrev pub opened : Parts → Ty → Option (Ty-F Ty)
opened m t = elim (out-Ty t) [
  | Ty-F.Int n ↦ Some (Ty-F.Int n)
  | Ty-F.Ptr ↦ Some Ty-F.Ptr
  | Ty-F.Array count element ↦ Some (Ty-F.Array count element)
  | Ty-F.Struct fields ↦ Some (Ty-F.Struct fields)
  | Ty-F.Named n ↦ option_map (λ (s : Structure). out-Ty s.ty.ty) (structure_named m n)
]

-- where an index leads in a type that begins at an address: the part's type and its address
abbrev pub part_at : Parts → Placement → Values → Ty-F Ty → ℕ → Index → Answer (Ty × ℕ)
part_at m p values (Ty-F.Int n) at i = Lacking
part_at m p values Ty-F.Ptr at i = Lacking
part_at m p values (Ty-F.Array count element) at i = element_at m p values element at i >>= λ to. Known (element, to)
part_at m p values (Ty-F.Struct fields) at i =
    field_number i >>= λ k.
    known (slice_get fields k) >>= λ field.
    Known (field, moved_by p.width at 1 (offset_in m p.width fields k))
part_at m p values (Ty-F.Named n) at i = Lacking

-- further indices, each into the part where the one before leads
abbrev pub inner_at : Parts → Placement → Values → Ty → ℕ → List Index → Answer ℕ
inner_at m p values t at [] = Known at
inner_at m p values t at (i ∷ more) =
    known (opened m t) >>= λ layer.
    part_at m p values layer at i >>= λ part.
    inner_at m p values part.0 part.1 more

-- The first index goes by whole elements of the type.
abbrev pub element_address : Parts → Placement → Values → Ty → ℕ → List Index → Answer ℕ
element_address m p values t at [] = Known at
element_address m p values t at (i ∷ more) =
    element_at m p values t at i >>= λ to. inner_at m p values t to more
