-- Where things stand in small modules, and what they cost.
use Prim.Native.String.{String}
use Rattle.std.specs.Prelude.{false, [], ◌∷◌, Some, None}
use Rattle.vg_ir.specs.declared.ty.Ty.{Ty}
use Rattle.vg_ir.specs.declared.instruction.Instruction.TheVariants.{Alloca}
use Rattle.vg_ir.specs.declared.ty.Ty.TheVariants.{Int, Ptr, Array}
use Rattle.vg_ir.specs.declared.initializer.Initializer.TheVariants as initial
use Rattle.vg_ir.specs.declared.global.Global.{Global}
use Rattle.vg_ir.specs.declared.function.Function.{Function}
use Rattle.vg_ir.specs.declared.module.Parts.{Parts}
use Rattle.vg_irplace.specs.declared.target.Target.{Target}
use Rattle.vg_irrows.specs.Words.{here, name_at, type_at, number, alloca, block, function, functions, ret}

-- a processor of 32 bits with eight registers for arguments and twelve that are saved, and a stack of 1 MiB
abbrev pub usual_target : Target
usual_target = record { width = 32; data_base = 8388609; low = 12582912; high = 13631488; arguments = 8; saved = 12 }

-- define i32 @z() { ret i32 7 }
abbrev pub seven : Function
seven = function (Int 32) "z" [] (block "0" [] [] (ret (Int 32) (number 7)) ∷ [])

-- the module
abbrev pub seven_module : Parts
seven_module = functions (seven ∷ [])

-- define i32 @o() {
--   %a = alloca i8
--   %b = alloca i8, align 8
--   %c = alloca [3 x i16]
--   ret i32 0
-- }
abbrev pub objects : Function
objects = function (Int 32) "o" [] (block "0" [] (
    alloca "a" (Int 8)
    ∷ Alloca (record { at = here; result = name_at "b"; ty = type_at (Int 8); count = None; align = Some (record { bytes = 8; at = here }) })
    ∷ alloca "c" (Array 3 (Int 16))
    ∷ []) (ret (Int 32) (number 0)) ∷ [])

-- a global of zeros
abbrev pub zeros : String → Ty → Global
zeros n t = record { name = name_at n; linkage = None; constant = false; ty = type_at t; initial = initial.Zero here; align = None }

-- @g = global i8 zeroinitializer
-- @h = global i32 zeroinitializer
-- @p = global ptr zeroinitializer
-- with the functions above
abbrev pub placed : Parts
placed = record { structures = []; globals = zeros "g" (Int 8) ∷ zeros "h" (Int 32) ∷ zeros "p" Ptr ∷ []; functions = seven ∷ objects ∷ [] }
