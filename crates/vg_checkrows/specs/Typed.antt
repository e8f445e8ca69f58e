-- Instructions, initialisers and names of a small function, and where they break the rule of types.
use Rattle.std.specs.Prelude.{ℕ, true, List, [], ◌∷◌, None}
use Prim.Native.String.{String}
use Rattle.vg_ir.specs.declared.spot.Spot.{Spot}
use Rattle.vg_ir.specs.declared.ty.Ty.{Ty}
use Rattle.vg_ir.specs.declared.ty.Ty.TheVariants.{Int, Ptr, Array, Struct}
use Rattle.vg_ir.specs.declared.operand.Value.{Value}
use Rattle.vg_ir.specs.declared.operand.Value.TheVariants as value
use Rattle.vg_ir.specs.declared.operand.Operand.{Operand}
use Rattle.vg_ir.specs.declared.initializer.Initializer.{Initializer}
use Rattle.vg_ir.specs.declared.initializer.Initializer.TheVariants as initial
use Rattle.vg_ir.specs.declared.name.NameAt.{NameAt}
use Rattle.vg_ir.specs.declared.instruction.Instruction.{Instruction}
use Rattle.vg_ir.specs.declared.terminator.Terminator.{Terminator}
use Rattle.vg_ir.specs.declared.function.Function.{Function}
use Rattle.vg_ir.specs.declared.module.Parts.{Parts}
use Rattle.vg_ircheck.specs.InstructionTyping.{instruction_places, terminator_places}
use Rattle.vg_ircheck.specs.InitialTyping.{initial_places}
use Rattle.vg_irrows.specs.Words.{named, name_at, type_at, local, positive, block, parameter, function, ret}

-- the byte of a number
abbrev pub byte : ℕ → Spot
byte n = record { unit = 0; at = n }

-- an operand at a byte
abbrev pub operand_at : ℕ → Value → Operand
operand_at n v = record { value = v; at = byte n }

-- %TEXT at a byte
abbrev pub local_at : ℕ → String → Operand
local_at n text = operand_at n (value.Local (named text))

-- a number at a byte
abbrev pub number_at : ℕ → ℕ → Operand
number_at n x = operand_at n (value.Number (positive x))

-- a name at a byte
abbrev pub label_at : ℕ → String → NameAt
label_at n text = record { name = named text; at = byte n }

-- %s = type { i8, [2 x i32] }
-- @g = global i32 0
-- define i32 @f(i32 %a, i8 %b, i1 %c, ptr %p) {
--   ret i32 %a
-- }
abbrev pub small_function : Function
small_function = function (Int 32) "f" (
    parameter (Int 32) "a" ∷ parameter (Int 8) "b" ∷ parameter (Int 1) "c" ∷ parameter Ptr "p" ∷ []) (
    block "0" [] [] (ret (Int 32) (local "a")) ∷ [])

-- the module
abbrev pub small : Parts
small = record {
  structures = record { name = name_at "s"; ty = type_at (Struct (Int 8 ∷ Array 2 (Int 32) ∷ [])) } ∷ [];
  globals = record { name = name_at "g"; linkage = None; constant = true; ty = type_at (Int 32); initial = initial.Zero (byte 0); align = None } ∷ [];
  functions = small_function ∷ [];
}

-- where an instruction breaks the rule in this function
abbrev pub instruction_faults : Instruction → List Spot
instruction_faults i = instruction_places small small_function i

-- where the end of a block does
abbrev pub end_faults : Terminator → List Spot
end_faults t = terminator_places small small_function t

-- where an initialiser at a type does
abbrev pub initial_faults : Ty → Initializer → List Spot
initial_faults t i = initial_places small i true t
