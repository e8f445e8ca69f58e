-- Widths: each operand has the width that its place needs.
use Rattle.std.specs.Prelude.{ℕ, ◌+◌, ◌*◌, ◌-◌, ◌%◌, ◌^◌, Bool, true, false, ◌&&◌, nat_eq, nat_le, nat_lt, Option, Some, None}
use Rattle.vg_bits.specs.BitValue.{BitValue}
use Rattle.vg_isa.specs.declared.isa.Parts.{Parts}
use Rattle.vg_isa.specs.declared.expr.Expr.{Expr, fold-Expr}
use Rattle.vg_isa.specs.declared.expr.Expr.TheOpen.{Expr-F}
use Rattle.vg_isa.specs.declared.operator.BinOp.{BinOp}
use Rattle.vg_isa.specs.declared.operator.BinOp.TheVariants as binop
use Rattle.vg_isa.specs.declared.operator.CastOp.{CastOp}
use Rattle.vg_isa.specs.declared.operator.CastOp.TheVariants.{Extend, SignExtend, Cut, Keep}
use Rattle.vg_isa.specs.declared.ids.ResourceId.{ResourceId}
use Rattle.vg_isa.specs.declared.ids.ResourceId.TheVariants.{Memory, Reg}
use Rattle.vg_isa.specs.declared.instr.Write.{Write}
use Rattle.vg_isa.specs.declared.write_made.Made.{Made}
use Rattle.vg_isa.specs.Declaration.{bits_of, ranges_of, has_field, register_width, is_single, is_file}

-- a tree's width, and whether each operand in it has the width that its place needs
pub record Typing : Type 0 where
  pub width : ℕ
  pub is_typed : Bool

-- a width of values
abbrev pub is_width : ℕ → Bool
is_width n = nat_le 1 n && nat_le n 128

-- a number of this width is below 2 to it
abbrev pub fits : ℕ → ℕ → Bool
fits width number = nat_lt number (2 ^ width)

-- an operator's result at the widths of its operands
abbrev pub binary_width : BinOp → ℕ → ℕ
binary_width (binop.MulLong signed) a = 2 * a
binary_width binop.Eq a = 1
binary_width binop.Lt a = 1
binary_width binop.Slt a = 1
binary_width _ a = a

-- the operands' widths fit the operator
abbrev pub binary_fits : BinOp → ℕ → ℕ → Bool
binary_fits (binop.MulLong signed) a b = nat_eq a b && nat_le a 64
binary_fits binop.Shl a b = true
binary_fits binop.Shr a b = true
binary_fits binop.Sar a b = true
binary_fits _ a b = nat_eq a b

-- the operand's width fits the cast to a width
abbrev pub cast_fits : CastOp → ℕ → ℕ → Bool
cast_fits Extend width a = nat_le a width
cast_fits SignExtend width a = nat_le a width
cast_fits Cut width a = nat_le width a
cast_fits Keep width a = nat_eq a width

-- one level of a tree, with the typing of each child
abbrev pub typing_step : Parts → Expr-F Typing → Typing
typing_step d (Expr-F.Const b) = record { width = b.width; is_typed = is_width b.width && fits b.width b.number }
typing_step d (Expr-F.Field f) = record { width = bits_of (ranges_of d f); is_typed = has_field d f }
typing_step d Expr-F.Pc = record { width = d.pc.width; is_typed = true }
typing_step d (Expr-F.Reg r None) = record { width = register_width d.regs r.0; is_typed = is_single d.regs r.0 }
typing_step d (Expr-F.Reg r (Some i)) = record { width = register_width d.regs r.0; is_typed = i.is_typed && is_file d.regs r.0 i.width }
typing_step d (Expr-F.Mem a bytes) = record { width = 8 * bytes; is_typed = a.is_typed && nat_eq a.width d.pc.width && nat_lt 0 bytes && nat_le bytes 16 }
typing_step d (Expr-F.Unary op a) = a
typing_step d (Expr-F.Binary op a b) = record { width = binary_width op a.width; is_typed = a.is_typed && b.is_typed && binary_fits op a.width b.width }
typing_step d (Expr-F.Cast op width a) = record { width = width; is_typed = a.is_typed && is_width width && cast_fits op width a.width }
typing_step d (Expr-F.Slice a hi lo) = record { width = hi + 1 - lo; is_typed = a.is_typed && nat_le lo hi && nat_lt hi a.width }
typing_step d (Expr-F.Join a b) = record { width = a.width + b.width; is_typed = a.is_typed && b.is_typed && nat_le (a.width + b.width) 128 }
typing_step d (Expr-F.If c a b) = record { width = a.width; is_typed = c.is_typed && a.is_typed && b.is_typed && nat_eq c.width 1 && nat_eq a.width b.width }

abbrev pub typing_of : Parts → Expr → Typing
typing_of d = fold-Expr Typing (typing_step d)

abbrev pub width_of : Parts → Expr → ℕ
width_of d e = (typing_of d e).width

abbrev pub is_typed : Parts → Expr → Bool
is_typed d e = (typing_of d e).is_typed

-- a tree of this width
abbrev pub has_width : Parts → ℕ → Expr → Bool
has_width d width e = is_typed d e && nat_eq (width_of d e) width

-- the width of 1 to 16 bytes
abbrev pub is_bytes : ℕ → Bool
is_bytes width = nat_eq (width % 8) 0 && nat_le 8 width && nat_le width 128

-- a write has the index or address that its resource needs, and a value of the resource's width
abbrev pub is_write_of : Parts → ResourceId → Option Expr → Expr → Bool
is_write_of d Memory (Some at) value = has_width d d.pc.width at && is_typed d value && is_bytes (width_of d value)
is_write_of d Memory None value = false
is_write_of d (Reg r) (Some at) value = is_typed d at && is_file d.regs r.0 (width_of d at) && has_width d (register_width d.regs r.0) value
is_write_of d (Reg r) None value = is_single d.regs r.0 && has_width d (register_width d.regs r.0) value

abbrev pub is_write : Parts → Write → Bool
is_write d write = has_width d 1 write.guard && is_write_of d write.resource write.at write.value

-- an index or address and a value have the widths that the resource needs
abbrev pub is_made_of : Parts → ResourceId → Option BitValue → BitValue → Bool
is_made_of d Memory (Some at) value = nat_eq at.width d.pc.width && is_bytes value.width
is_made_of d Memory None value = false
is_made_of d (Reg r) (Some at) value = is_file d.regs r.0 at.width && nat_eq value.width (register_width d.regs r.0)
is_made_of d (Reg r) None value = is_single d.regs r.0 && nat_eq value.width (register_width d.regs r.0)

abbrev pub is_made : Parts → Made → Bool
is_made d made = is_made_of d made.resource made.at made.value
