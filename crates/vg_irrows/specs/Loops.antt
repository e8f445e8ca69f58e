-- Loops: phis that change places, and a factorial with its values in memory.
use Rattle.std.specs.Prelude.{ℕ, [], ◌∷◌, if◌then◌else◌}
use Rattle.vg_ir.specs.declared.name.Name.{Name}
use Rattle.vg_ir.specs.declared.ty.Ty.TheVariants.{Int}
use Rattle.vg_ir.specs.declared.operator.BinaryOperator.TheVariants.{Add, Mul}
use Rattle.vg_ir.specs.declared.operator.Predicate.TheVariants.{Ult, Sgt}
use Rattle.vg_ir.specs.declared.module.Parts.{Parts}
use Rattle.vg_ir.specs.Lookup.{same_name}
use Rattle.vg_ir.specs.State.{Placement}
use Rattle.vg_irrows.specs.Words.{named, local, number, minus, binary, compare, alloca, load, store, jump, branch, ret, incoming, phi, block, parameter, function, functions, stack}

-- define i32 @s() {
--   br label %l
-- l:
--   %a = phi i32 [ 1, %0 ], [ %b, %l ]
--   %b = phi i32 [ 2, %0 ], [ %a, %l ]
--   %i = phi i32 [ 0, %0 ], [ %j, %l ]
--   %j = add i32 %i, 1
--   %c = icmp ult i32 %j, 4
--   br i1 %c, label %l, label %e
-- e:
--   %r = mul i32 %a, 10
--   %q = add i32 %r, %b
--   ret i32 %q
-- }
abbrev pub exchange : Parts
exchange = functions (function (Int 32) "s" [] (
    block "0" [] [] (jump "l")
    ∷ block "l" (
    phi "a" (Int 32) (incoming (number 1) "0" ∷ incoming (local "b") "l" ∷ [])
    ∷ phi "b" (Int 32) (incoming (number 2) "0" ∷ incoming (local "a") "l" ∷ [])
    ∷ phi "i" (Int 32) (incoming (number 0) "0" ∷ incoming (local "j") "l" ∷ [])
    ∷ []) (
    binary "j" Add (Int 32) (local "i") (number 1)
    ∷ compare "c" Ult (Int 32) (local "j") (number 4)
    ∷ []) (branch (local "c") "l" "e")
    ∷ block "e" [] (
    binary "r" Mul (Int 32) (local "a") (number 10)
    ∷ binary "q" Add (Int 32) (local "r") (local "b")
    ∷ []) (ret (Int 32) (local "q"))
    ∷ []) ∷ [])

-- define i32 @fact(i32 %0) {
--   %2 = alloca i32
--   %3 = alloca i32
--   store i32 %0, ptr %2
--   store i32 1, ptr %3
--   br label %4
-- 4:
--   %5 = load i32, ptr %2
--   %6 = icmp sgt i32 %5, 1
--   br i1 %6, label %7, label %13
-- 7:
--   %8 = load i32, ptr %2
--   %9 = load i32, ptr %3
--   %10 = mul i32 %9, %8
--   store i32 %10, ptr %3
--   %11 = load i32, ptr %2
--   %12 = add i32 %11, -1
--   store i32 %12, ptr %2
--   br label %4
-- 13:
--   %14 = load i32, ptr %3
--   ret i32 %14
-- }
abbrev pub factorial : Parts
factorial = functions (function (Int 32) "fact" (parameter (Int 32) "0" ∷ []) (
    block "1" [] (
    alloca "2" (Int 32)
    ∷ alloca "3" (Int 32)
    ∷ store (Int 32) (local "0") (local "2")
    ∷ store (Int 32) (number 1) (local "3")
    ∷ []) (jump "4")
    ∷ block "4" [] (
    load "5" (Int 32) (local "2")
    ∷ compare "6" Sgt (Int 32) (local "5") (number 1)
    ∷ []) (branch (local "6") "7" "13")
    ∷ block "7" [] (
    load "8" (Int 32) (local "2")
    ∷ load "9" (Int 32) (local "3")
    ∷ binary "10" Mul (Int 32) (local "9") (local "8")
    ∷ store (Int 32) (local "10") (local "3")
    ∷ load "11" (Int 32) (local "2")
    ∷ binary "12" Add (Int 32) (local "11") (minus 1)
    ∷ store (Int 32) (local "12") (local "2")
    ∷ []) (jump "4")
    ∷ block "13" [] (load "14" (Int 32) (local "3") ∷ []) (ret (Int 32) (local "14"))
    ∷ []) ∷ [])

-- %2 stands at the frame's lowest address, and %3 behind it
abbrev pub second_behind_first : Name → Name → ℕ
second_behind_first f n = if same_name n (named "3") then 4 else 0

-- a stack of 1 MiB, and frames of 128 bytes
abbrev pub usual_stack : Placement
usual_stack = stack 12582912 13631488 128 second_behind_first
