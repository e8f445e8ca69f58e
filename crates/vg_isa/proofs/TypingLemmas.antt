-- The typing of a tree by the typings of its children, one equation for each way to make a tree.
use Rattle.std.proofs.Common.{◌≡◌, ℕ, Some, None, sym, ap, ◌∙◌}
use Rattle.vg_bits.specs.BitValue.{BitValue}
use Rattle.vg_isa.specs.declared.isa.Parts.{Parts}
use Rattle.vg_isa.specs.declared.ids.FieldId.{FieldId}
use Rattle.vg_isa.specs.declared.ids.RegId.{RegId}
use Rattle.vg_isa.specs.declared.operator.UnOp.{UnOp}
use Rattle.vg_isa.specs.declared.operator.BinOp.{BinOp}
use Rattle.vg_isa.specs.declared.operator.CastOp.{CastOp}
use Rattle.vg_isa.specs.declared.expr.Expr.{Expr, fold-roll-Expr}
use Rattle.vg_isa.specs.declared.expr.Expr.TheOpen.{Expr-F}
use Rattle.vg_isa.specs.declared.expr.Expr.TheVariants.{Const, Field, Pc, Reg, Mem, Unary, Binary, Cast, Slice, Join, If, rolls-Const, rolls-Field, rolls-Pc, rolls-Reg, rolls-Mem, rolls-Unary, rolls-Binary, rolls-Cast, rolls-Slice, rolls-Join, rolls-If}
use Rattle.vg_isa.specs.Typing.{Typing, typing_step, typing_of}

pub typing-Const : (d : Parts) (b : BitValue) → typing_of d (Const b) ≡ typing_step d (Expr-F.Const b)
typing-Const d b = ap (typing_of d) (sym (rolls-Const b)) ∙ fold-roll-Expr Typing (typing_step d) (Expr-F.Const b)

pub typing-Field : (d : Parts) (f : FieldId) → typing_of d (Field f) ≡ typing_step d (Expr-F.Field f)
typing-Field d f = ap (typing_of d) (sym (rolls-Field f)) ∙ fold-roll-Expr Typing (typing_step d) (Expr-F.Field f)

pub typing-Pc : (d : Parts) → typing_of d Pc ≡ typing_step d Expr-F.Pc
typing-Pc d = ap (typing_of d) (sym rolls-Pc) ∙ fold-roll-Expr Typing (typing_step d) Expr-F.Pc

-- a single register
pub typing-Reg_single : (d : Parts) (r : RegId) → typing_of d (Reg r None) ≡ typing_step d (Expr-F.Reg r None)
typing-Reg_single d r = ap (typing_of d) (sym (rolls-Reg r None)) ∙ fold-roll-Expr Typing (typing_step d) (Expr-F.Reg r None)

-- a register of a file
pub typing-Reg : (d : Parts) (r : RegId) (i : Expr) → typing_of d (Reg r (Some i)) ≡ typing_step d (Expr-F.Reg r (Some (typing_of d i)))
typing-Reg d r i = ap (typing_of d) (sym (rolls-Reg r (Some i))) ∙ fold-roll-Expr Typing (typing_step d) (Expr-F.Reg r (Some i))

pub typing-Mem : (d : Parts) (a : Expr) (bytes : ℕ) → typing_of d (Mem a bytes) ≡ typing_step d (Expr-F.Mem (typing_of d a) bytes)
typing-Mem d a bytes = ap (typing_of d) (sym (rolls-Mem a bytes)) ∙ fold-roll-Expr Typing (typing_step d) (Expr-F.Mem a bytes)

pub typing-Unary : (d : Parts) (op : UnOp) (a : Expr) → typing_of d (Unary op a) ≡ typing_step d (Expr-F.Unary op (typing_of d a))
typing-Unary d op a = ap (typing_of d) (sym (rolls-Unary op a)) ∙ fold-roll-Expr Typing (typing_step d) (Expr-F.Unary op a)

pub typing-Binary : (d : Parts) (op : BinOp) (a b : Expr) → typing_of d (Binary op a b) ≡ typing_step d (Expr-F.Binary op (typing_of d a) (typing_of d b))
typing-Binary d op a b = ap (typing_of d) (sym (rolls-Binary op a b)) ∙ fold-roll-Expr Typing (typing_step d) (Expr-F.Binary op a b)

pub typing-Cast : (d : Parts) (op : CastOp) (width : ℕ) (a : Expr) → typing_of d (Cast op width a) ≡ typing_step d (Expr-F.Cast op width (typing_of d a))
typing-Cast d op width a = ap (typing_of d) (sym (rolls-Cast op width a)) ∙ fold-roll-Expr Typing (typing_step d) (Expr-F.Cast op width a)

pub typing-Slice : (d : Parts) (a : Expr) (high low : ℕ) → typing_of d (Slice a high low) ≡ typing_step d (Expr-F.Slice (typing_of d a) high low)
typing-Slice d a high low = ap (typing_of d) (sym (rolls-Slice a high low)) ∙ fold-roll-Expr Typing (typing_step d) (Expr-F.Slice a high low)

pub typing-Join : (d : Parts) (a b : Expr) → typing_of d (Join a b) ≡ typing_step d (Expr-F.Join (typing_of d a) (typing_of d b))
typing-Join d a b = ap (typing_of d) (sym (rolls-Join a b)) ∙ fold-roll-Expr Typing (typing_step d) (Expr-F.Join a b)

pub typing-If : (d : Parts) (c a b : Expr) → typing_of d (If c a b) ≡ typing_step d (Expr-F.If (typing_of d c) (typing_of d a) (typing_of d b))
typing-If d c a b = ap (typing_of d) (sym (rolls-If c a b)) ∙ fold-roll-Expr Typing (typing_step d) (Expr-F.If c a b)
