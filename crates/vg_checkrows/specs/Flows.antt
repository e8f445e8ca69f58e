-- Functions whose values are set on some paths alone, and structures that hold one another.
use Rattle.std.specs.Prelude.{Bool, List, [], ◌∷◌}
use Rattle.vg_ir.specs.declared.ty.Ty.TheVariants.{Int, Ptr, Array, Struct, Named}
use Rattle.vg_ir.specs.declared.operand.Value.TheVariants.{True}
use Rattle.vg_ir.specs.declared.block.Phi.{Phi}
use Rattle.vg_ir.specs.declared.block.Incoming.{Incoming}
use Rattle.vg_ircheck.specs.Phis.{lists_predecessors}
use Rattle.vg_ir.specs.declared.operator.BinaryOperator.TheVariants.{Add}
use Rattle.vg_ir.specs.declared.function.Function.{Function}
use Rattle.vg_ir.specs.declared.module.Parts.{Parts}
use Rattle.vg_irrows.specs.Words.{named, name_at, type_at, local, number, constant, binary, jump, branch, ret, phi, block, parameter, function, functions}

-- define i32 @u(i1 %c) {
--   br i1 %c, label %a, label %b
-- a:
--   %v = add i32 1, 2
--   br label %d
-- b:
--   br label %d
-- d:
--   ret i32 %v
-- }
abbrev pub diamond_function : Function
diamond_function = function (Int 32) "u" (parameter (Int 1) "c" ∷ []) (
    block "0" [] [] (branch (local "c") "a" "b")
    ∷ block "a" [] (binary "v" Add (Int 32) (number 1) (number 2) ∷ []) (jump "d")
    ∷ block "b" [] [] (jump "d")
    ∷ block "d" [] [] (ret (Int 32) (local "v"))
    ∷ [])

-- the module
abbrev pub diamond : Parts
diamond = functions (diamond_function ∷ [])

-- define i32 @u(i1 %c) {
--   ret i32 0
-- d:
--   %w = add i32 %v, 1
--   %v = add i32 1, 2
--   ret i32 %w
-- }
abbrev pub unreached_function : Function
unreached_function = function (Int 32) "u" (parameter (Int 1) "c" ∷ []) (
    block "0" [] [] (ret (Int 32) (number 0))
    ∷ block "d" [] (binary "w" Add (Int 32) (local "v") (number 1) ∷ binary "v" Add (Int 32) (number 1) (number 2) ∷ []) (ret (Int 32) (local "w"))
    ∷ [])

-- %s = type { i8, [2 x %t] }
-- %t = type { ptr, %u }
-- %u = type { %s }
-- %v = type { %s, ptr }
abbrev pub rings : Parts
rings = record {
  structures =
      record { name = name_at "s"; ty = type_at (Struct (Int 8 ∷ Array 2 (Named (named "t")) ∷ [])) }
      ∷ record { name = name_at "t"; ty = type_at (Struct (Ptr ∷ Named (named "u") ∷ [])) }
      ∷ record { name = name_at "u"; ty = type_at (Struct (Named (named "s") ∷ [])) }
      ∷ record { name = name_at "v"; ty = type_at (Struct (Named (named "s") ∷ Ptr ∷ [])) }
      ∷ [];
  globals = [];
  functions = [];
}

-- define i32 @p() {
--   br label %l
-- l:
--   PHI
--   br i1 true, label %l, label %e
-- e:
--   ret i32 0
-- }
abbrev pub loop_with : Phi → Function
loop_with p = function (Int 32) "p" [] (
    block "0" [] [] (jump "l")
    ∷ block "l" (p ∷ []) [] (branch (constant True) "l" "e")
    ∷ block "e" [] [] (ret (Int 32) (number 0))
    ∷ [])

-- a phi of its second block, from some blocks
abbrev pub phi_from : List Incoming → Phi
phi_from from = phi "a" (Int 8) from

-- the blocks that it lists are those from which an edge leads to it
abbrev pub lists_right : List Incoming → Bool
lists_right from = lists_predecessors (loop_with (phi_from from)) 1 (phi_from from)
