-- What instructions cost: the most steps of the machine that one step of the module takes, and the most words of code that it
-- takes up. They are functions of the module and the target alone.
use Rattle.std.specs.Prelude.{ℕ, ◌+◌, ◌*◌, ◌/◌, List, [], ◌∷◌, ◌++◌, map, flat_map, length, sum, suc, if◌then◌else◌}
use Rattle.std.specs.Option.{option_map_or}
use Rattle.vg_ir.specs.declared.name.NameAt.{NameAt}
use Rattle.vg_ir.specs.declared.instruction.Instruction.{Instruction}
use Rattle.vg_ir.specs.declared.instruction.Instruction.TheVariants as instruction
use Rattle.vg_ir.specs.declared.terminator.Terminator.{Terminator}
use Rattle.vg_ir.specs.declared.terminator.Terminator.TheVariants as terminator
use Rattle.vg_ir.specs.declared.block.Block.{Block}
use Rattle.vg_ir.specs.declared.function.Function.{Function}
use Rattle.vg_ir.specs.declared.module.Parts.{Parts}
use Rattle.vg_ir.specs.Lookup.{block_named}
use Rattle.vg_ircheck.specs.Flow.{labels_of, is_reached}
use Rattle.vg_irplace.specs.declared.target.Target.{Target}
use Rattle.vg_irplace.specs.Frames.{greatest}

-- a constant of the width of an address
abbrev pub constant_cost : Target → ℕ
constant_cost t = 3 * (t.width / 8)

-- an access of a value in a frame
abbrev pub access_cost : Target → ℕ
access_cost t = constant_cost t + 2

-- entering a function of so many parameters
abbrev pub entry_cost : Target → ℕ → ℕ
entry_cost t n = (t.saved + 2) * access_cost t + 3 * constant_cost t + 10 + 2 * access_cost t * n

-- the start, for a function of so many parameters
abbrev pub start_cost : Target → ℕ → ℕ
start_cost t n = 3 * access_cost t * (n + 1) + 3 * constant_cost t + 8 + entry_cost t n

-- an instruction other than a phi and the end of a block
abbrev pub instruction_cost : Target → Instruction → ℕ
instruction_cost t (instruction.Binary i) = 3 * access_cost t + 4 * constant_cost t + 12
instruction_cost t (instruction.Compare i) = 3 * access_cost t + 4 * constant_cost t + 12
instruction_cost t (instruction.Select i) = 4 * access_cost t + 6
instruction_cost t (instruction.Cast i) = 2 * access_cost t + 2 * constant_cost t + 6
instruction_cost t (instruction.Freeze i) = 2 * access_cost t + 2 * constant_cost t + 6
instruction_cost t (instruction.Alloca i) = 2 * access_cost t
instruction_cost t (instruction.Load i) = 2 * access_cost t + 3
instruction_cost t (instruction.Store i) = 2 * access_cost t + 3
instruction_cost t (instruction.ElementPointer i) =
    (length i.indices + 2) * (access_cost t + 2 * constant_cost t + 8)
instruction_cost t (instruction.Call i) =
    3 * access_cost t * (length i.arguments + 1) + constant_cost t + 4 + entry_cost t (length i.arguments)

-- the end of a block, where its branches cost so much for phis
abbrev pub end_cost : Target → ℕ → Terminator → ℕ
end_cost t phis (terminator.Jump e) = constant_cost t + 2 + phis
end_cost t phis (terminator.Branch e) = access_cost t + 2 * constant_cost t + 6 + phis
end_cost t phis (terminator.Switch e) = access_cost t + (length e.cases + 1) * (2 * constant_cost t + 6) + phis
end_cost t phis (terminator.Return e) = access_cost t + (t.saved + 2) * access_cost t + constant_cost t + 6
end_cost t phis (terminator.Unreachable at) = 1

-- the number of phis of the block that a label names
abbrev pub phis_at : Function → NameAt → ℕ
phis_at f l = option_map_or (λ (b : Block). length b.phis) (block_named f l.name) 0

-- in steps: one branch is taken, at most that to the most phis
abbrev pub phi_steps : Target → Function → Terminator → ℕ
phi_steps t f e = 3 * access_cost t * greatest (map (phis_at f) (labels_of e))

-- in words: each label has its own code
abbrev pub phi_words : Target → Function → Terminator → ℕ
phi_words t f e = sum (map (λ (l : NameAt). 3 * access_cost t * phis_at f l + constant_cost t + 2) (labels_of e))

-- ---- a module

-- the most steps of the instructions of a block; phis cost nothing by themselves
abbrev pub block_steps : Target → Function → Block → List ℕ
block_steps t f b =
    map (instruction_cost t) b.instructions ++ end_cost t (phi_steps t f b.terminator) b.terminator ∷ []

-- the most steps that one step of a module takes, over all of its instructions
abbrev pub greatest_cost : Parts → Target → ℕ
greatest_cost m t = greatest (flat_map (λ (f : Function). flat_map (block_steps t f) f.blocks) m.functions)

-- the words of a block
abbrev pub block_cost : Target → Function → Block → ℕ
block_cost t f b =
    sum (map (instruction_cost t) b.instructions) + end_cost t (phi_words t f b.terminator) b.terminator

-- the words of those of some blocks that a path reaches, counted from a number
abbrev pub blocks_cost : Target → Function → ℕ → List Block → ℕ
blocks_cost t f number [] = 0
blocks_cost t f number (b ∷ bs) =
    (if is_reached f number then block_cost t f b else 0) + blocks_cost t f (suc number) bs

-- the words of a function
abbrev pub function_cost : Target → Function → ℕ
function_cost t f = entry_cost t (length f.parameters) + blocks_cost t f 0 f.blocks

-- the words of a module
abbrev pub static_cost : Parts → Target → ℕ
static_cost m t = sum (map (function_cost t) m.functions)
