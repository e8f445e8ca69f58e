-- An instruction's part is stated as the answer of its function, of the behaviour that its box holds.
use Rattle.std.proofs.Common.{sym}
use Rattle.vg_resolve.proofs.unknown_item.item.Goals as goal

pub returns-in-Instruction : goal.returns-in-Instruction
returns-in-Instruction c = rw c.in-Instruction.is (rw (sym c.get-in-Instruction.ensures) c.instruction.ensures)
