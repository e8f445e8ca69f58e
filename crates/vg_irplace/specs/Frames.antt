-- Frames. From its lowest address a frame holds the arguments that the function passes on the stack, then its allocas, then its
-- values with two words more and the saved registers; each of the three is rounded up to 16 bytes.
use Rattle.std.specs.Prelude.{ℕ, ◌+◌, ◌-◌, ◌*◌, ◌/◌, max, List, [], ◌∷◌, map, flat_map, length, Option, if◌then◌else◌}
use Rattle.std.specs.Option.{option_map_or}
use Rattle.vg_ir.specs.declared.name.Name.{Name}
use Rattle.vg_ir.specs.declared.global.Alignment.{Alignment}
use Rattle.vg_ir.specs.declared.instruction.Instruction.{Instruction}
use Rattle.vg_ir.specs.declared.instruction.Instruction.TheVariants as instruction
use Rattle.vg_ir.specs.declared.instruction.Alloca.{Alloca}
use Rattle.vg_ir.specs.declared.block.Block.{Block}
use Rattle.vg_ir.specs.declared.function.Function.{Function}
use Rattle.vg_ir.specs.declared.module.Parts.{Parts}
use Rattle.vg_ir.specs.declared.ty.Ty.{Ty}
use Rattle.vg_ir.specs.Lookup.{same_name}
use Rattle.vg_ir.specs.TypeLayout.{round_up, layout_of, size_of}
use Rattle.vg_ir.specs.Effect.{count_of}
use Rattle.vg_ircheck.specs.Names.{block_results}
use Rattle.vg_irplace.specs.declared.target.Target.{Target}

-- the least multiple of 16 not below a number
abbrev pub round16 : ℕ → ℕ
round16 n = round_up n 16

-- the bytes of an address
abbrev pub word_bytes : Target → ℕ
word_bytes t = t.width / 8

-- a written alignment; 0 counts as none
abbrev pub written_align : Option Alignment → ℕ
written_align a = option_map_or (λ (n : Alignment). max n.bytes 1) a 1

-- where something of a type stands: at multiples of the greater of its natural and its written alignment
abbrev pub align_of : Parts → Target → Ty → Option Alignment → ℕ
align_of m t ty written = max (layout_of m t.width ty).align (written_align written)

-- ---- what is passed on the stack

-- the arguments of so many that are beyond the registers for them
abbrev pub beyond : Target → ℕ → ℕ
beyond t n = n - t.arguments

-- the arguments that an instruction passes on the stack
abbrev pub passed_by : Target → Instruction → ℕ
passed_by t (instruction.Call c) = beyond t (length c.arguments)
passed_by t _ = 0

-- the greatest of some numbers, 0 of none
abbrev pub greatest : List ℕ → ℕ
greatest [] = 0
greatest (n ∷ ns) = max n (greatest ns)

-- the instructions of a function, phis and ends of blocks apart
abbrev pub instructions_of : Function → List Instruction
instructions_of f = flat_map (λ (b : Block). b.instructions) f.blocks

-- the most that a function passes on the stack in one call, also in a block that no path reaches
abbrev pub most_passed : Target → Function → ℕ
most_passed t f = greatest (map (passed_by t) (instructions_of f))

-- the bytes for it
abbrev pub passed_bytes : Target → Function → ℕ
passed_bytes t f = round16 (word_bytes t * most_passed t f)

-- ---- allocas

-- an instruction that is an alloca
abbrev pub alloca_in : Instruction → List Alloca
alloca_in (instruction.Alloca i) = i ∷ []
alloca_in _ = []

-- the allocas of a function, in order
abbrev pub allocas_of : Function → List Alloca
allocas_of f = flat_map alloca_in (instructions_of f)

-- the bytes of an alloca's object
abbrev pub object_size : Parts → Target → Alloca → ℕ
object_size m t i = size_of m t.width i.ty.ty * count_of i

-- where an alloca begins behind others that end at an offset
abbrev pub begins_at : Parts → Target → ℕ → Alloca → ℕ
begins_at m t at i = round_up at (align_of m t i.ty.ty i.align)

-- where allocas end that begin at an offset
abbrev pub allocas_end : Parts → Target → ℕ → List Alloca → ℕ
allocas_end m t at [] = at
allocas_end m t at (i ∷ is) = allocas_end m t (begins_at m t at i + object_size m t i) is

-- where the first alloca of a name begins, of those that begin at an offset
abbrev pub alloca_at : Parts → Target → ℕ → List Alloca → Name → ℕ
alloca_at m t at [] n = at
alloca_at m t at (i ∷ is) n =
    if same_name i.result.name n then begins_at m t at i else alloca_at m t (begins_at m t at i + object_size m t i) is n

-- the bytes for the allocas
abbrev pub alloca_bytes : Parts → Target → Function → ℕ
alloca_bytes m t f = round16 (allocas_end m t 0 (allocas_of f))

-- ---- values

-- how many values a function has: its parameters and what its phis and instructions set
abbrev pub value_count : Function → ℕ
value_count f = length f.parameters + length (flat_map block_results f.blocks)

-- the bytes for them, two words and the saved registers
abbrev pub value_bytes : Target → Function → ℕ
value_bytes t f = round16 (word_bytes t * (2 + value_count f + t.saved))

-- ---- the frame

-- the bytes of the frame of a function
abbrev pub frame_size : Parts → Target → Function → ℕ
frame_size m t f = passed_bytes t f + alloca_bytes m t f + value_bytes t f

-- where in the frame of a function an alloca begins, counted from the frame's lowest address
abbrev pub offset_of : Parts → Target → Function → Name → ℕ
offset_of m t f n = passed_bytes t f + alloca_at m t 0 (allocas_of f) n
