-- A run for each cause why a step is undefined, and for what isn't one. Each function is one block.
use Rattle.std.specs.Prelude.{ℕ, true, List, [], ◌∷◌, None}
use Rattle.vg_ir.specs.declared.ty.Ty.{Ty}
use Rattle.vg_ir.specs.declared.ty.Ty.TheVariants.{Int, Ptr}
use Rattle.vg_ir.specs.declared.operand.Operand.{Operand}
use Rattle.vg_ir.specs.declared.operator.BinaryOperator.{BinaryOperator}
use Rattle.vg_ir.specs.declared.initializer.Initializer.TheVariants as initial
use Rattle.vg_ir.specs.declared.instruction.Instruction.{Instruction}
use Rattle.vg_ir.specs.declared.terminator.Terminator.{Terminator}
use Rattle.vg_ir.specs.declared.module.Parts.{Parts}
use Rattle.vg_ir.specs.Control.{Outcome}
use Rattle.vg_ir.specs.Run.{ir_run}
use Rattle.vg_irrows.specs.Words.{here, named, name_at, type_at, local, global, number, positive, binary, alloca, load, store, call, ret, block, function, functions, stack, at_base}

-- define i32 @f() { INSTRUCTIONS END }
abbrev pub straight : List Instruction → Terminator → Parts
straight instructions end = functions (function (Int 32) "f" [] (block "0" [] instructions end ∷ []) ∷ [])

-- the outcome of such a module after so many steps
abbrev pub straight_run : List Instruction → Terminator → ℕ → Outcome
straight_run instructions end k = ir_run (straight instructions end) (stack 12582912 13631488 64 at_base) (named "f") [] k

-- `%r = OP T a, b` and `ret i32 0`
abbrev pub operation : BinaryOperator → Ty → Operand → Operand → ℕ → Outcome
operation op t a b k = straight_run (binary "r" op t a b ∷ []) (ret (Int 32) (number 0)) k

-- @c = constant i8 5, at 0x800000
-- define i32 @f() {
--   %a = load i8, ptr @c
--   store i8 %a, ptr @c
--   ret i32 0
-- }
abbrev pub kept : Parts
kept = record {
  structures = [];
  globals = record { name = name_at "c"; linkage = None; constant = true; ty = type_at (Int 8); initial = initial.Number (positive 5) here; align = None } ∷ [];
  functions = function (Int 32) "f" [] (block "0" [] (load "a" (Int 8) (global "c") ∷ store (Int 8) (local "a") (global "c") ∷ []) (ret (Int 32) (number 0)) ∷ []) ∷ [];
}

-- its outcome after so many steps
abbrev pub kept_run : ℕ → Outcome
kept_run k = ir_run kept (record (stack 12582912 13631488 64 at_base) { address = λ n. 8388608 }) (named "f") [] k

-- define ptr @g() {
--   %a = alloca i32
--   store i32 7, ptr %a
--   ret ptr %a
-- }
-- define i32 @f() {
--   %p = call ptr @g()
--   %x = load i32, ptr %p
--   ret i32 %x
-- }
abbrev pub left_behind : Parts
left_behind = functions (
    function Ptr "g" [] (block "0" [] (alloca "a" (Int 32) ∷ store (Int 32) (number 7) (local "a") ∷ []) (ret Ptr (local "a")) ∷ [])
    ∷ function (Int 32) "f" [] (block "0" [] (call "p" Ptr "g" [] ∷ load "x" (Int 32) (local "p") ∷ []) (ret (Int 32) (local "x")) ∷ [])
    ∷ [])

-- its outcome after so many steps
abbrev pub left_behind_run : ℕ → Outcome
left_behind_run k = ir_run left_behind (stack 12582912 13631488 64 at_base) (named "f") [] k
