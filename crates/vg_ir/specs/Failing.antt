-- The ten cases in which a step is undefined, each as what the state has at that step.
use Rattle.std.specs.Prelude.{◌≡◌, ℕ, ◌-◌, ◌^◌, ◌<◌, ◌≤◌, Bool, true, false, IsTrue, List, [], ◌∷◌, Some, None}
use Rattle.vg_bits.specs.BitValue.{BitValue}
use Rattle.vg_ir.specs.declared.operator.BinaryOperator.{BinaryOperator}
use Rattle.vg_ir.specs.declared.operator.BinaryOperator.TheVariants as binary
use Rattle.vg_ir.specs.declared.instruction.Instruction.{Instruction}
use Rattle.vg_ir.specs.declared.instruction.Instruction.TheVariants as instruction
use Rattle.vg_ir.specs.declared.terminator.Terminator.{Terminator}
use Rattle.vg_ir.specs.declared.terminator.Terminator.TheVariants as terminator
use Rattle.vg_ir.specs.declared.module.Parts.{Parts}
use Rattle.vg_ir.specs.TypeLayout.{size_of}
use Rattle.vg_ir.specs.Memory.{Bytes, Object, object_at, loaded}
use Rattle.vg_ir.specs.Answer.{Cause, UnsignedByZero, SignedByZero, SignedOverflow, ShiftTooFar, Unreachable, LoadOutside, StoreOutside, LoadUnset, LoadNoBit, StoreConstant, Known}
use Rattle.vg_ir.specs.State.{Placement, IrState, live_objects}
use Rattle.vg_ir.specs.Operands.{value_width, operand, operand_at, typed_operand}

-- udiv and urem
abbrev pub divides_unsigned : BinaryOperator → Bool
divides_unsigned binary.Udiv = true
divides_unsigned binary.Urem = true
divides_unsigned _ = false

-- sdiv and srem
abbrev pub divides_signed : BinaryOperator → Bool
divides_signed binary.Sdiv = true
divides_signed binary.Srem = true
divides_signed _ = false

-- shl, lshr and ashr
abbrev pub shifts : BinaryOperator → Bool
shifts binary.Shl = true
shifts binary.Lshr = true
shifts binary.Ashr = true
shifts _ = false

-- a two-operand instruction of two values
abbrev pub BinaryFails : BinaryOperator → BitValue → BitValue → Cause → Type 0
BinaryFails op a b UnsignedByZero = IsTrue (divides_unsigned op) × (b.number ≡ 0)
BinaryFails op a b SignedByZero = IsTrue (divides_signed op) × (b.number ≡ 0)
BinaryFails op a b SignedOverflow =
    IsTrue (divides_signed op) × (0 < b.number) × (a.number ≡ 2 ^ (a.width - 1)) × (b.number ≡ 2 ^ b.width - 1)
BinaryFails op a b ShiftTooFar = IsTrue (shifts op) × (a.width ≤ b.number)
BinaryFails op a b _ = ⊥

-- a load of so many bytes as a number of a width
abbrev pub LoadFails : List Object → Bytes → ℕ → ℕ → ℕ → Cause → Type 0
LoadFails objects set at bytes width LoadOutside = object_at objects at bytes ≡ None
LoadFails objects set at bytes width LoadUnset =
    (o : Object) × (object_at objects at bytes ≡ Some o) × (loaded set at bytes ≡ None)
LoadFails objects set at bytes width LoadNoBit =
    (o : Object) × (object_at objects at bytes ≡ Some o) × (width ≡ 1) × ((x : ℕ) × (loaded set at bytes ≡ Some x) × (1 < x))
LoadFails objects set at bytes width _ = ⊥

-- a store of so many bytes
abbrev pub StoreFails : List Object → ℕ → ℕ → Cause → Type 0
StoreFails objects at bytes StoreOutside = object_at objects at bytes ≡ None
StoreFails objects at bytes StoreConstant =
    (o : Object) × (object_at objects at bytes ≡ Some o) × (o.constant ≡ true)
StoreFails objects at bytes _ = ⊥

-- the end of a block
abbrev pub EndFails : Terminator → Cause → Type 0
EndFails (terminator.Unreachable at) Unreachable = Unit {0}
EndFails _ _ = ⊥

-- an instruction, whose operands are read first
abbrev pub InstructionFails : Parts → Placement → IrState → Instruction → Cause → Type 0
InstructionFails m p s (instruction.Binary i) c =
    (a : BitValue) × (b : BitValue)
    × (operand_at p s.frame.values i.ty.ty i.left ≡ Known a)
    × (operand_at p s.frame.values i.ty.ty i.right ≡ Known b)
    × BinaryFails i.operator a b c
InstructionFails m p s (instruction.Load i) c =
    (width : ℕ) × (at : BitValue)
    × (value_width p.width i.ty.ty ≡ Some width)
    × (operand p s.frame.values p.width i.pointer ≡ Known at)
    × LoadFails (live_objects m p s) s.set at.number (size_of m p.width i.ty.ty) width c
InstructionFails m p s (instruction.Store i) c =
    (x : BitValue) × (at : BitValue)
    × (typed_operand p s.frame.values i.value ≡ Known x)
    × (operand p s.frame.values p.width i.pointer ≡ Known at)
    × StoreFails (live_objects m p s) at.number (size_of m p.width i.value.ty.ty) c
InstructionFails m p s _ c = ⊥

-- the next step, where this is left of the block
abbrev pub LeftFails : Parts → Placement → IrState → List Instruction → Cause → Type 0
LeftFails m p s [] c = EndFails s.frame.last c
LeftFails m p s (i ∷ left) c = InstructionFails m p s i c

-- the next step
abbrev pub StepFails : Parts → Placement → IrState → Cause → Type 0
StepFails m p s c = LeftFails m p s s.frame.left c
