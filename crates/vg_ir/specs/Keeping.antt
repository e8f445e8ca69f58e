-- Which steps leave memory as it is.
use Rattle.std.specs.Prelude.{Bool, true, false, List, [], ◌∷◌}
use Rattle.vg_ir.specs.declared.instruction.Instruction.{Instruction}
use Rattle.vg_ir.specs.declared.instruction.Instruction.TheVariants as instruction
use Rattle.vg_ir.specs.declared.terminator.Terminator.{Terminator}
use Rattle.vg_ir.specs.declared.terminator.Terminator.TheVariants as terminator

-- an instruction neither stores nor calls
abbrev pub keeps_bytes : Instruction → Bool
keeps_bytes (instruction.Store i) = false
keeps_bytes (instruction.Call i) = false
keeps_bytes _ = true

-- an instruction makes no object and calls nothing
abbrev pub keeps_objects : Instruction → Bool
keeps_objects (instruction.Alloca i) = false
keeps_objects (instruction.Call i) = false
keeps_objects _ = true

-- the next step neither stores nor calls
abbrev pub next_keeps_bytes : List Instruction → Bool
next_keeps_bytes [] = true
next_keeps_bytes (i ∷ left) = keeps_bytes i

-- the end of a block doesn't return
abbrev pub stays_in_function : Terminator → Bool
stays_in_function (terminator.Return t) = false
stays_in_function _ = true

-- the next step neither makes an object, nor calls, nor returns
abbrev pub next_keeps_objects : List Instruction → Terminator → Bool
next_keeps_objects [] last = stays_in_function last
next_keeps_objects (i ∷ left) last = keeps_objects i
