-- The value of a tree for an instruction word, in a state.
use Rattle.std.specs.Prelude.{◌≡◌, ◌≢◌, ℕ, zero, suc, ◌+◌, ◌*◌, ◌%◌, ◌^◌, ◌<◌, ◌≤◌, Bool, IsTrue, nat_eq, length, Option, Some, None, if◌then◌else◌}
use Rattle.vg_bits.specs.BitValue.{BitValue, IsBitValue}
use Rattle.vg_bits.specs.BitValue as bits
use Rattle.vg_isa.specs.declared.isa.Parts.{Parts}
use Rattle.vg_isa.specs.declared.expr.Expr.{Expr, fold-Expr}
use Rattle.vg_isa.specs.declared.expr.Expr.TheOpen.{Expr-F}
use Rattle.vg_isa.specs.declared.operator.UnOp.{UnOp}
use Rattle.vg_isa.specs.declared.operator.UnOp.TheVariants.{Not, Neg}
use Rattle.vg_isa.specs.declared.operator.BinOp.{BinOp}
use Rattle.vg_isa.specs.declared.operator.BinOp.TheVariants as binop
use Rattle.vg_isa.specs.declared.operator.CastOp.{CastOp}
use Rattle.vg_isa.specs.declared.operator.CastOp.TheVariants.{Extend, SignExtend, Cut, Keep}
use Rattle.vg_isa.specs.Declaration.{field_of, has_register, register_width}

-- What a state reads: the program counter, each register of a declaration at its index, and each byte of
-- memory at its address.
pub record Reads : Type 0 where
  pub pc : BitValue
  pub reg : ℕ → ℕ → BitValue
  pub byte : ℕ → ℕ

-- so many bytes from an address on, the least significant first, the addresses modulo space
abbrev pub loaded : (ℕ → ℕ) → ℕ → ℕ → ℕ → ℕ
loaded byte space at zero = 0
loaded byte space at (suc bytes) = byte (at % space) + 256 * loaded byte space (at + 1) bytes

-- so many bytes of memory at an address, where addresses have this width
abbrev pub memory_value : (ℕ → ℕ) → ℕ → BitValue → ℕ → BitValue
memory_value byte width at bytes = record { width = 8 * bytes; number = loaded byte (2 ^ width) at.number bytes }

-- a Bool as a bit value
abbrev pub flag : Bool → BitValue
flag b = record { width = 1; number = if b then 1 else 0 }

abbrev pub unary_value : UnOp → BitValue → BitValue
unary_value Not a = bits.not a
unary_value Neg a = bits.neg a

abbrev pub binary_value : BinOp → BitValue → BitValue → BitValue
binary_value binop.Add a b = bits.add a b
binary_value binop.Sub a b = bits.sub a b
binary_value binop.Mul a b = bits.mul a b
binary_value (binop.MulLong signed) a b = bits.mul_long a b signed
binary_value binop.Udiv a b = bits.udiv a b
binary_value binop.Sdiv a b = bits.sdiv a b
binary_value binop.Urem a b = bits.urem a b
binary_value binop.Srem a b = bits.srem a b
binary_value binop.And a b = bits.and a b
binary_value binop.Or a b = bits.or a b
binary_value binop.Xor a b = bits.xor a b
binary_value binop.Shl a b = bits.shl a b
binary_value binop.Shr a b = bits.shr a b
binary_value binop.Sar a b = bits.sar a b
binary_value binop.Eq a b = flag (bits.eq a b)
binary_value binop.Lt a b = flag (bits.lt a b)
binary_value binop.Slt a b = flag (bits.slt a b)

abbrev pub cast_value : CastOp → ℕ → BitValue → BitValue
cast_value Extend width a = bits.extend a width
cast_value SignExtend width a = bits.sign_extend a width
cast_value Cut width a = bits.cut a width
cast_value Keep width a = a

-- a condition holds
abbrev pub holds : BitValue → Bool
holds c = nat_eq c.number 1

-- one level of a tree, with the value of each child
abbrev pub value_step : Parts → ℕ → Reads → Expr-F BitValue → BitValue
value_step d word s (Expr-F.Const b) = b
value_step d word s (Expr-F.Field f) = field_of d f word
value_step d word s Expr-F.Pc = s.pc
value_step d word s (Expr-F.Reg r None) = s.reg r.0 0
value_step d word s (Expr-F.Reg r (Some i)) = s.reg r.0 i.number
value_step d word s (Expr-F.Mem a bytes) = memory_value s.byte d.pc.width a bytes
value_step d word s (Expr-F.Unary op a) = unary_value op a
value_step d word s (Expr-F.Binary op a b) = binary_value op a b
value_step d word s (Expr-F.Cast op width a) = cast_value op width a
value_step d word s (Expr-F.Slice a hi lo) = bits.slice a hi lo
value_step d word s (Expr-F.Join a b) = bits.join a b
value_step d word s (Expr-F.If c a b) = if holds c then a else b

-- the value of a tree for an instruction word in a state
abbrev pub value_of : Parts → Expr → ℕ → Reads → BitValue
value_of d e word s = fold-Expr BitValue (value_step d word s) e

-- ---- what states read

-- a state reads values of the declared widths
pub record HasDeclaredWidths (d : Parts) (s : Reads) : Type 0 where
  pub pc : s.pc.width ≡ d.pc.width
  pub reg : (r i : ℕ) → r < length d.regs → (s.reg r i).width ≡ register_width d.regs r

-- a state reads bit values of the declared widths, and bytes
pub record IsLawful (d : Parts) (s : Reads) : Type 0 where
  pub widths : HasDeclaredWidths d s
  pub pc : s.pc.number < 2 ^ d.pc.width
  pub reg : (r i : ℕ) → IsTrue (has_register d.regs r i) → (s.reg r i).number < 2 ^ register_width d.regs r
  pub byte : (at : ℕ) → at < 2 ^ d.pc.width → s.byte at < 256

-- a bit value of this width
pub record IsValue (width : ℕ) (v : BitValue) : Type 0 where
  pub value : IsBitValue v
  pub width_is : v.width ≡ width

-- two states read alike: at each register of the description, and at each address
pub record ReadAlike (d : Parts) (s t : Reads) : Type 0 where
  pub pc : s.pc ≡ t.pc
  pub reg : (r i : ℕ) → IsTrue (has_register d.regs r i) → s.reg r i ≡ t.reg r i
  pub byte : (at : ℕ) → at < 2 ^ d.pc.width → s.byte at ≡ t.byte at

-- the least address from one on whose byte isn't 0; None where there is none
abbrev pub IsNextSet : (ℕ → ℕ) → ℕ → Option ℕ → Type 0
IsNextSet byte from None = (at : ℕ) → from ≤ at → byte at ≡ 0
IsNextSet byte from (Some at) = (from ≤ at) × (byte at ≢ 0) × ((k : ℕ) → from ≤ k → k < at → byte k ≡ 0)
