-- Casts, structures and addresses, choices and calls.
use Rattle.std.specs.Prelude.{ℕ, false, [], ◌∷◌, None, if◌then◌else◌}
use Rattle.vg_ir.specs.declared.name.Name.{Name}
use Rattle.vg_ir.specs.declared.ty.Ty.{Ty}
use Rattle.vg_ir.specs.declared.ty.Ty.TheVariants.{Int, Ptr, Array, Struct, Named}
use Rattle.vg_ir.specs.declared.operand.Value.TheVariants.{True, Undef}
use Rattle.vg_ir.specs.declared.operator.BinaryOperator.TheVariants.{Lshr, Shl, Sub}
use Rattle.vg_ir.specs.declared.operator.Predicate.TheVariants.{Slt}
use Rattle.vg_ir.specs.declared.operator.CastOperator.TheVariants.{Trunc, Sext, Zext, PtrToInt}
use Rattle.vg_ir.specs.declared.initializer.Initializer.{Initializer}
use Rattle.vg_ir.specs.declared.initializer.Initializer.TheVariants as initial
use Rattle.vg_ir.specs.declared.module.Parts.{Parts}
use Rattle.vg_ir.specs.Lookup.{same_name}
use Rattle.vg_ir.specs.Control.{Outcome}
use Rattle.vg_ir.specs.Run.{ir_run}
use Rattle.vg_irrows.specs.Words.{here, named, name_at, type_at, local, global, positive, negative, number, minus, constant, typed, binary, compare, select, cast, freeze, load, store, index, element, call, call_void, jump, case, switch, ret, ret_void, incoming, phi, block, parameter, function, functions, stack, at_base}
use Rattle.vg_irrows.specs.Causes.{straight_run}

-- %a = lshr i8 -128, 7
-- %b = trunc i8 %a to i1
-- %c = sext i1 %b to i32
-- %d = zext i8 %a to i32
-- %e = sub i32 %d, %c
-- ret i32 %e
abbrev pub narrow_run : ℕ → Outcome
narrow_run k = straight_run (
    binary "a" Lshr (Int 8) (minus 128) (number 7)
    ∷ cast "b" Trunc (Int 8) (local "a") (Int 1)
    ∷ cast "c" Sext (Int 1) (local "b") (Int 32)
    ∷ cast "d" Zext (Int 8) (local "a") (Int 32)
    ∷ binary "e" Sub (Int 32) (local "d") (local "c")
    ∷ []) (ret (Int 32) (local "e")) k

-- %s = type { i8, i32, [2 x i16] }
-- @g = global %s { i8 1, i32 -2, [2 x i16] [i16 3, i16 4] }          ; at 0x800000
-- @p = global ptr @g                                                   ; at 0x80000c
-- define i32 @f() {
--   %q = load ptr, ptr @p
--   %e = getelementptr %s, ptr %q, i32 0, i32 2, i64 1
--   %x = load i16, ptr %e
--   %d = getelementptr i16, ptr %e, i8 -1
--   store i16 %x, ptr %d
--   %n = getelementptr %s, ptr %q, i32 1
--   %o = ptrtoint ptr %n to i32
--   ret i32 %o
-- }
abbrev pub record_of : Ty
record_of = Named (named "s")

-- [2 x i16]
abbrev pub pair : Ty
pair = Array 2 (Int 16)

-- { i8 1, i32 -2, [2 x i16] [i16 3, i16 4] }
abbrev pub first_value : Initializer
first_value = initial.Struct (
    (type_at (Int 8), initial.Number (positive 1) here)
    ∷ (type_at (Int 32), initial.Number (negative 2) here)
    ∷ (type_at pair, initial.Array ((type_at (Int 16), initial.Number (positive 3) here) ∷ (type_at (Int 16), initial.Number (positive 4) here) ∷ []) here)
    ∷ []) here

-- the module
abbrev pub structures : Parts
structures = record {
  structures = record { name = name_at "s"; ty = type_at (Struct (Int 8 ∷ Int 32 ∷ pair ∷ [])) } ∷ [];
  globals =
      record { name = name_at "g"; linkage = None; constant = false; ty = type_at record_of; initial = first_value; align = None }
      ∷ record { name = name_at "p"; linkage = None; constant = false; ty = type_at Ptr; initial = initial.Global (named "g") here; align = None }
      ∷ [];
  functions = function (Int 32) "f" [] (block "0" [] (
      load "q" Ptr (global "p")
      ∷ element "e" record_of (local "q") (index 32 (number 0) ∷ index 32 (number 2) ∷ index 64 (number 1) ∷ [])
      ∷ load "x" (Int 16) (local "e")
      ∷ element "d" (Int 16) (local "e") (index 8 (minus 1) ∷ [])
      ∷ store (Int 16) (local "x") (local "d")
      ∷ element "n" record_of (local "q") (index 32 (number 1) ∷ [])
      ∷ cast "o" PtrToInt Ptr (local "n") (Int 32)
      ∷ []) (ret (Int 32) (local "o")) ∷ []) ∷ [];
}

-- @p stands behind @g
abbrev pub global_address : Name → ℕ
global_address n = if same_name n (named "p") then 8388620 else 8388608

-- its outcome after so many steps
abbrev pub structures_run : ℕ → Outcome
structures_run k = ir_run structures (record (stack 12582912 13631488 64 at_base) { address = global_address }) (named "f") [] k

-- define i8 @f(i8 %v) {
--   switch i8 %v, label %d [ i8 -1, label %a  i8 1, label %b ]
-- a:
--   br label %d
-- b:
--   br label %d
-- d:
--   %r = phi i8 [ 10, %0 ], [ 20, %a ], [ 30, %b ]
--   %c = icmp slt i8 %v, 0
--   %s = select i1 %c, i8 %r, i8 undef
--   %t = freeze i8 %s
--   %u = call i8 @twice(i8 %t, i1 true)
--   call void @nothing()
--   ret i8 %u
-- }
-- define i8 @twice(i8 %x, i1 %y) {
--   %z = zext i1 %y to i8
--   %w = shl i8 %x, %z
--   ret i8 %w
-- }
-- define void @nothing() { ret void }
abbrev pub choices : Parts
choices = functions (
    function (Int 8) "f" (parameter (Int 8) "v" ∷ []) (
    block "0" [] [] (switch (Int 8) (local "v") "d" (case (Int 8) (negative 1) "a" ∷ case (Int 8) (positive 1) "b" ∷ []))
    ∷ block "a" [] [] (jump "d")
    ∷ block "b" [] [] (jump "d")
    ∷ block "d" (phi "r" (Int 8) (incoming (number 10) "0" ∷ incoming (number 20) "a" ∷ incoming (number 30) "b" ∷ []) ∷ []) (
    compare "c" Slt (Int 8) (local "v") (number 0)
    ∷ select "s" (local "c") (Int 8) (local "r") (constant Undef)
    ∷ freeze "t" (Int 8) (local "s")
    ∷ call "u" (Int 8) "twice" (typed (Int 8) (local "t") ∷ typed (Int 1) (constant True) ∷ [])
    ∷ call_void "nothing" []
    ∷ []) (ret (Int 8) (local "u"))
    ∷ [])
    ∷ function (Int 8) "twice" (parameter (Int 8) "x" ∷ parameter (Int 1) "y" ∷ []) (
    block "0" [] (
    cast "z" Zext (Int 1) (local "y") (Int 8)
    ∷ binary "w" Shl (Int 8) (local "x") (local "z")
    ∷ []) (ret (Int 8) (local "w"))
    ∷ [])
    ∷ record { name = name_at "nothing"; linkage = None; gives = None; parameters = []; blocks = block "0" [] [] ret_void ∷ [] }
    ∷ [])

-- its outcome for an argument, after so many steps
abbrev pub choices_run : ℕ → ℕ → Outcome
choices_run v k = ir_run choices (stack 12582912 13631488 64 at_base) (named "f") (v ∷ []) k
