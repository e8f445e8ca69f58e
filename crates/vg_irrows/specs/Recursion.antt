-- A recursion, on a small stack.
use Rattle.std.specs.Prelude.{[], ◌∷◌}
use Rattle.vg_ir.specs.declared.ty.Ty.TheVariants.{Int}
use Rattle.vg_ir.specs.declared.operator.BinaryOperator.TheVariants.{Add, Sub}
use Rattle.vg_ir.specs.declared.operator.Predicate.TheVariants.{Eq}
use Rattle.vg_ir.specs.declared.module.Parts.{Parts}
use Rattle.vg_ir.specs.State.{Placement}
use Rattle.vg_irrows.specs.Words.{local, number, typed, binary, compare, call, branch, ret, block, parameter, function, functions, stack, at_base}

-- define i32 @f(i32 %n) {
--   %z = icmp eq i32 %n, 0
--   br i1 %z, label %a, label %b
-- a:
--   ret i32 0
-- b:
--   %m = sub i32 %n, 1
--   %r = call i32 @f(i32 %m)
--   %s = add i32 %r, %n
--   ret i32 %s
-- }
abbrev pub sum_to : Parts
sum_to = functions (function (Int 32) "f" (parameter (Int 32) "n" ∷ []) (
    block "0" [] (compare "z" Eq (Int 32) (local "n") (number 0) ∷ []) (branch (local "z") "a" "b")
    ∷ block "a" [] [] (ret (Int 32) (number 0))
    ∷ block "b" [] (
    binary "m" Sub (Int 32) (local "n") (number 1)
    ∷ call "r" (Int 32) "f" (typed (Int 32) (local "m") ∷ [])
    ∷ binary "s" Add (Int 32) (local "r") (local "n")
    ∷ []) (ret (Int 32) (local "s"))
    ∷ []) ∷ [])

-- room for four frames of 80 bytes, and 79 bytes more
abbrev pub four_frames : Placement
four_frames = stack 12582912 12583311 80 at_base
