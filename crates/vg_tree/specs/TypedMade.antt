-- Trees that stand for expressions have the widths of their types.
use Rattle.std.specs.Prelude.{◌≡◌, ℕ, true, Some}
use Rattle.vg_isa.specs.declared.isa.Parts.{Parts}
use Rattle.vg_isa.specs.declared.expr.Expr.{Expr}
use Rattle.vg_isa.specs.Declaration.{is_file, register_width}
use Rattle.vg_isa.specs.Typing.{Typing, typing_of}
use Rattle.vg_type.specs.declared.value_type.ValueType.{ValueType}
use Rattle.vg_type.specs.declared.sort.Sort.{Sort}
use Rattle.vg_type.specs.declared.sort.Sort.TheVariants as sorts
use Rattle.vg_type.specs.ValueType.{is_width, width_of}
use Rattle.vg_tree.specs.declared.made.Made.{Made}
use Rattle.vg_tree.specs.declared.resource.Resource.{Resource}
use Rattle.vg_tree.specs.Resource.{resource_at, typed_sort}
use Rattle.vg_tree.specs.Made.{Frame, field_sort_at, field_tree, resource_tree, address_in}

-- a tree whose operands have the widths that their places need, of this width
abbrev pub typed : ℕ → Typing
typed width = record { width = width; is_typed = true }

-- a tree of a type
pub record IsTreeOf (d : Parts) (t : ValueType) (e : Expr) : Type 0 where
  pub wide : is_width (width_of t) ≡ true
  pub typing : typing_of d e ≡ typed (width_of t)

-- what has no type stands there at 128 bits
abbrev pub sort_width : Sort → ℕ
sort_width (sorts.Typed t) = width_of t
sort_width _ = 128

-- a tree of the width of what it is
pub record IsTypedMade (d : Parts) (m : Made) : Type 0 where
  pub wide : is_width (sort_width m.sort) ≡ true
  pub typing : typing_of d m.tree ≡ typed (sort_width m.sort)

-- a register of a file has this type, and its index another
pub record IsFileOf (d : Parts) (r : Resource) (t : ValueType) : Type 0 where
  pub index : ValueType
  pub taken : r.index ≡ Some index
  pub index_wide : is_width (width_of index) ≡ true
  pub file : is_file d.regs r.id.0 (width_of index) ≡ true
  pub wide : is_width (width_of t) ≡ true
  pub width : register_width d.regs r.id.0 ≡ width_of t

-- a processor has the fields, the registers, the program counter and the addresses that an instruction names
pub record IsFrameOf (d : Parts) (frame : Frame) : Type 0 where
  pub fields : (k : ℕ) (t : ValueType) → typed_sort (field_sort_at frame k) ≡ Some t → IsTreeOf d t (field_tree frame.format k)
  pub singles : (k : ℕ) (t : ValueType) → (resource_at frame.setting k).single ≡ Some t → IsTreeOf d t (resource_tree (resource_at frame.setting k))
  pub files : (k : ℕ) (t : ValueType) → (resource_at frame.setting k).gives ≡ Some t → IsFileOf d (resource_at frame.setting k) t
  pub address : ValueType
  pub addressed : address_in frame.setting ≡ Some address
  pub address_wide : is_width (width_of address) ≡ true
  pub address_width : width_of address ≡ d.pc.width
