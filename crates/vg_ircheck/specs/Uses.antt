-- Where the values of a function are read, in the order of the text.
use Rattle.std.specs.Prelude.{ℕ, suc, List, [], ◌∷◌, ◌++◌, map, flat_map, Some, None, slice_get}
use Rattle.std.specs.Option.{option_map_or}
use Rattle.vg_ir.specs.declared.name.Name.{Name}
use Rattle.vg_ir.specs.declared.name.NameAt.{NameAt}
use Rattle.vg_ir.specs.declared.operand.Value.TheVariants as value
use Rattle.vg_ir.specs.declared.operand.Operand.{Operand}
use Rattle.vg_ir.specs.declared.operand.TypedOperand.{TypedOperand}
use Rattle.vg_ir.specs.declared.instruction.Instruction.{Instruction}
use Rattle.vg_ir.specs.declared.instruction.Instruction.TheVariants as instruction
use Rattle.vg_ir.specs.declared.instruction.Index.{Index}
use Rattle.vg_ir.specs.declared.terminator.Terminator.{Terminator}
use Rattle.vg_ir.specs.declared.terminator.Terminator.TheVariants as terminator
use Rattle.vg_ir.specs.declared.block.Phi.{Phi}
use Rattle.vg_ir.specs.declared.block.Incoming.{Incoming}
use Rattle.vg_ir.specs.declared.block.Block.{Block}
use Rattle.vg_ir.specs.declared.function.Function.{Function}
use Rattle.vg_ircheck.specs.Names.{set_names, block_results}
use Rattle.vg_ircheck.specs.Flow.{block_number}

-- ---- the values that are read

-- the value that an operand reads
abbrev pub operand_reads : Operand → List Name
operand_reads o = elim o.value [
  | value.Local n ↦ n ∷ []
  | value.Global n ↦ []
  | value.Number n ↦ []
  | value.True ↦ []
  | value.False ↦ []
  | value.Null ↦ []
  | value.Undef ↦ []
  | value.Poison ↦ []
]

-- the values that an instruction reads
abbrev pub instruction_reads : Instruction → List Name
instruction_reads (instruction.Binary i) = operand_reads i.left ++ operand_reads i.right
instruction_reads (instruction.Compare i) = operand_reads i.left ++ operand_reads i.right
instruction_reads (instruction.Select i) =
    operand_reads i.condition ++ operand_reads i.then.operand ++ operand_reads i.otherwise.operand
instruction_reads (instruction.Cast i) = operand_reads i.operand.operand
instruction_reads (instruction.Freeze i) = operand_reads i.operand.operand
instruction_reads (instruction.Alloca i) = []
instruction_reads (instruction.Load i) = operand_reads i.pointer
instruction_reads (instruction.Store i) = operand_reads i.value.operand ++ operand_reads i.pointer
instruction_reads (instruction.ElementPointer i) =
    operand_reads i.pointer ++ flat_map (λ (x : Index). operand_reads x.operand) i.indices
instruction_reads (instruction.Call i) = flat_map (λ (a : TypedOperand). operand_reads a.operand) i.arguments

-- the values that the end of a block reads
abbrev pub terminator_reads : Terminator → List Name
terminator_reads (terminator.Jump t) = []
terminator_reads (terminator.Branch t) = operand_reads t.condition
terminator_reads (terminator.Switch t) = operand_reads t.value.operand
terminator_reads (terminator.Return t) = elim t.value [ None ↦ [] | Some v ↦ operand_reads v.operand ]
terminator_reads (terminator.Unreachable at) = []

-- ---- and where

-- A place in a function: in a block, behind what sets these names in it.
pub record Place : Type 0 where
  pub block : ℕ
  pub behind : List Name

-- a value that is read at a place
pub record Use : Type 0 where
  pub value : Name
  -- the name of the block
  pub block : Name
  pub place : Place

-- values that are read at one place
abbrev pub uses_at : Name → Place → List Name → List Use
uses_at block place values = map (λ (n : Name). record { value = n; block = block; place = place }) values

-- names without where they stand
abbrev pub plain_names : List NameAt → List Name
plain_names names = map (λ (n : NameAt). n.name) names

-- what a phi reads stands at the end of the block that it comes from
abbrev pub incoming_uses : Function → Incoming → List Use
incoming_uses f i = elim (block_number f i.block.name) [
  | None ↦ []
  | Some b ↦ uses_at i.block.name (record { block = b; behind = option_map_or (λ (x : Block). plain_names (block_results x)) (slice_get f.blocks b) [] }) (operand_reads i.operand)
]

-- what instructions of a block read, behind those that set these names, and then its end
abbrev pub rest_uses : Block → ℕ → List Name → List Instruction → List Use
rest_uses b number behind [] =
    uses_at b.name.name (record { block = number; behind = behind }) (terminator_reads b.terminator)
rest_uses b number behind (i ∷ left) =
    uses_at b.name.name (record { block = number; behind = behind }) (instruction_reads i)
    ++ rest_uses b number (behind ++ plain_names (set_names i)) left

-- what a block reads: its phis, its instructions and its end
abbrev pub block_uses : Function → ℕ → Block → List Use
block_uses f number b =
    flat_map (λ (p : Phi). flat_map (incoming_uses f) p.incoming) b.phis
    ++ rest_uses b number (plain_names (map (λ (p : Phi). p.result) b.phis)) b.instructions

-- what blocks read that are counted from a number
abbrev pub uses_from : Function → ℕ → List Block → List Use
uses_from f number [] = []
uses_from f number (b ∷ bs) = block_uses f number b ++ uses_from f (suc number) bs

-- what a function reads
abbrev pub uses_of : Function → List Use
uses_of f = uses_from f 0 f.blocks
