-- What types and numbers are, apart from what a module makes of them.
use Rattle.std.specs.Prelude.{ℕ, ◌-◌, ◌%◌, ◌^◌, Bool, true, false, ◌||◌, nat_eq, nat_lt, nat_le, Option, Some, None, if◌then◌else◌}
use Rattle.std.specs.List.{list_all}
use Rattle.vg_ir.specs.declared.ty.Ty.{Ty, out-Ty, fold-Ty}
use Rattle.vg_ir.specs.declared.ty.Ty.TheOpen.{Ty-F}
use Rattle.vg_ir.specs.declared.number.Number.{Number}

-- the integers of 1, 8, 16, 32 and 64 bits
abbrev pub is_integer_width : ℕ → Bool
is_integer_width n = nat_eq n 1 || nat_eq n 8 || nat_eq n 16 || nat_eq n 32 || nat_eq n 64

-- one level of a type: whether each integer in it has one of these widths
abbrev pub has_widths_step : Ty-F Bool → Bool
has_widths_step (Ty-F.Int n) = is_integer_width n
has_widths_step Ty-F.Ptr = true
has_widths_step (Ty-F.Array count element) = element
has_widths_step (Ty-F.Struct fields) = list_all (λ field. field) fields
has_widths_step (Ty-F.Named name) = true

-- each integer in a type has 1, 8, 16, 32 or 64 bits
abbrev pub has_widths : Ty → Bool
has_widths t = fold-Ty Bool has_widths_step t

-- the width of an integer type
abbrev pub integer_width : Ty → Option ℕ
integer_width t = elim (out-Ty t) [
  | Ty-F.Int n ↦ Some n
  | Ty-F.Ptr ↦ None
  | Ty-F.Array count element ↦ None
  | Ty-F.Struct fields ↦ None
  | Ty-F.Named name ↦ None
]

-- an integer or an address, the types that a value may have
abbrev pub is_scalar : Ty → Bool
is_scalar t = elim (out-Ty t) [
  | Ty-F.Int n ↦ true
  | Ty-F.Ptr ↦ true
  | Ty-F.Array count element ↦ false
  | Ty-F.Struct fields ↦ false
  | Ty-F.Named name ↦ false
]

-- a structure that is written with its fields
abbrev pub is_struct : Ty → Bool
is_struct t = elim (out-Ty t) [
  | Ty-F.Int n ↦ false
  | Ty-F.Ptr ↦ false
  | Ty-F.Array count element ↦ false
  | Ty-F.Struct fields ↦ true
  | Ty-F.Named name ↦ false
]

-- the number below 2 ^ width that differs from the written one by a multiple of 2 ^ width
abbrev pub number_of : ℕ → Number → ℕ
number_of width n =
    if n.negative then ((2 ^ width - n.magnitude % 2 ^ width) % 2 ^ width) else (n.magnitude % 2 ^ width)

-- from -2 ^ (width - 1) to 2 ^ width - 1
abbrev pub number_fits : ℕ → Number → Bool
number_fits width n = if n.negative then nat_le n.magnitude (2 ^ (width - 1)) else nat_lt n.magnitude (2 ^ width)

-- where the type is an integer, the number fits it
abbrev pub number_fits_type : Ty → Number → Bool
number_fits_type t n = elim (integer_width t) [ None ↦ true | Some width ↦ number_fits width n ]
