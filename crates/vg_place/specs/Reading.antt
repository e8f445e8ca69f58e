-- What a tree reads. The memory has the number 0 among the resources, and the r-th register or register file the
-- number r + 1. A location is a resource and an index; the index of the memory is an address.
use Rattle.std.specs.Prelude.{◌≡◌, ℕ, zero, suc, ◌+◌, ◌%◌, ◌^◌, ◌<◌, Bool, false, ◌&&◌, ◌||◌, nat_eq, IsTrue, Some, None}
use Rattle.vg_bits.specs.BitValue.{BitValue}
use Rattle.vg_isa.specs.declared.isa.Parts.{Parts}
use Rattle.vg_isa.specs.declared.expr.Expr.{Expr, fold-Expr}
use Rattle.vg_isa.specs.declared.expr.Expr.TheOpen.{Expr-F}
use Rattle.vg_isa.specs.declared.ids.ResourceId.TheVariants.{Reg}
use Rattle.vg_isa.specs.Value.{Reads, value_step}
use Rattle.vg_place.specs.declared.stage_table.Stages.{Stages}
use Rattle.vg_place.specs.Stage.{read_stage}

-- so many bytes from an address on, the addresses modulo space, have this one among them
abbrev pub covers : ℕ → ℕ → ℕ → ℕ → Bool
covers space at zero a = false
covers space at (suc bytes) a = nat_eq (at % space) a || covers space (at + 1) bytes a

-- the location is a register
abbrev pub is_register_at : ℕ → ℕ → ℕ → ℕ → Bool
is_register_at q j zero i = false
is_register_at q j (suc r) i = nat_eq r q && nat_eq i j

-- the location is one of so many bytes of memory
abbrev pub is_byte_of : ℕ → ℕ → ℕ → ℕ → ℕ → Bool
is_byte_of space at bytes zero i = covers space at bytes i
is_byte_of space at bytes (suc r) i = false

-- A tree's value in a state, and whether it reads a location to get it.
pub record Reading : Type 0 where
  pub value : BitValue
  pub reads : ℕ → ℕ → Bool

-- one level of a tree. Both branches of a conditional are read.
abbrev pub reads_step : Parts → Expr-F Reading → ℕ → ℕ → Bool
reads_step d (Expr-F.Const b) r i = false
reads_step d (Expr-F.Field f) r i = false
reads_step d Expr-F.Pc r i = false
reads_step d (Expr-F.Reg q None) r i = is_register_at q.0 0 r i
reads_step d (Expr-F.Reg q (Some x)) r i = x.reads r i || is_register_at q.0 x.value.number r i
reads_step d (Expr-F.Mem a bytes) r i = a.reads r i || is_byte_of (2 ^ d.pc.width) a.value.number bytes r i
reads_step d (Expr-F.Unary op a) r i = a.reads r i
reads_step d (Expr-F.Binary op a b) r i = a.reads r i || b.reads r i
reads_step d (Expr-F.Cast op width a) r i = a.reads r i
reads_step d (Expr-F.Slice a hi lo) r i = a.reads r i
reads_step d (Expr-F.Join a b) r i = a.reads r i || b.reads r i
reads_step d (Expr-F.If c a b) r i = c.reads r i || (a.reads r i || b.reads r i)

abbrev pub value_in : Expr-F Reading → Expr-F BitValue
value_in (Expr-F.Const b) = Expr-F.Const b
value_in (Expr-F.Field f) = Expr-F.Field f
value_in Expr-F.Pc = Expr-F.Pc
value_in (Expr-F.Reg q None) = Expr-F.Reg q None
value_in (Expr-F.Reg q (Some x)) = Expr-F.Reg q (Some x.value)
value_in (Expr-F.Mem a bytes) = Expr-F.Mem a.value bytes
value_in (Expr-F.Unary op a) = Expr-F.Unary op a.value
value_in (Expr-F.Binary op a b) = Expr-F.Binary op a.value b.value
value_in (Expr-F.Cast op width a) = Expr-F.Cast op width a.value
value_in (Expr-F.Slice a hi lo) = Expr-F.Slice a.value hi lo
value_in (Expr-F.Join a b) = Expr-F.Join a.value b.value
value_in (Expr-F.If c a b) = Expr-F.If c.value a.value b.value

abbrev pub reading_step : Parts → ℕ → Reads → Expr-F Reading → Reading
reading_step d word s x = record { value = value_step d word s (value_in x); reads = reads_step d x }

-- a tree's reading for an instruction word in a state
abbrev pub reading : Parts → ℕ → Reads → Expr → Reading
reading d word s e = fold-Expr Reading (reading_step d word s) e

-- ---- two states

-- the stage in which a location of a resource is read
abbrev pub stage_at : Stages → ℕ → ℕ
stage_at s zero = s.memory.read
stage_at s (suc r) = read_stage s (Reg (record { 0 = r }))

-- two states have the same at a location
abbrev pub SameAt : Reads → Reads → ℕ → ℕ → Type 0
SameAt v w zero i = v.byte i ≡ w.byte i
SameAt v w (suc r) i = v.reg r i ≡ w.reg r i

-- Two states agree on the instruction's address and on what a tree reads in the first u stages.
pub record AgreeOn (d : Parts) (s : Stages) (word : ℕ) (e : Expr) (u : ℕ) (v w : Reads) : Type 0 where
  pub pc : v.pc ≡ w.pc
  pub same : (r i : ℕ) → stage_at s r < u → IsTrue ((reading d word v e).reads r i) → SameAt v w r i
