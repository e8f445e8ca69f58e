-- The item declares what it does.
use Rattle.vg_type.specs.Setting.{setting_in}
use Rattle.vg_processor.proofs.InstrLemmas.{instr_known}
use Rattle.vg_processor.proofs.instruction.instruction_of.Goals as goal

pub returns-in_ok-instr-in-Some : goal.returns-in_ok-instr-in-Some
returns-in_ok-instr-in-Some c known =
    instr_known (setting_in c.args.machine.now.setting.now.context.now) c.in-Instruction.name c.as_slice.result.now c.in-Some.effect known c.args.item.now c.in-Instruction.at c.in-Instruction.format c.in-Instruction.behaviour c.args.effect.now
    c.in_ok-instr-in-Some.instr c.in-Instruction.is c.in-Some.is c.as_slice.ensures c.in_ok-instr-in-Some.ensures
