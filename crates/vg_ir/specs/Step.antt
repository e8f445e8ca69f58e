-- One step: one instruction. A branch also gives the phis of the block that it leads to.
use Rattle.std.specs.Prelude.{nat_eq, List, [], ◌∷◌, if◌then◌else◌}
use Rattle.vg_ir.specs.declared.instruction.Instruction.{Instruction}
use Rattle.vg_ir.specs.declared.instruction.Instruction.TheVariants as instruction
use Rattle.vg_ir.specs.declared.terminator.Terminator.{Terminator}
use Rattle.vg_ir.specs.declared.terminator.Terminator.TheVariants as terminator
use Rattle.vg_ir.specs.declared.module.Parts.{Parts}
use Rattle.vg_ir.specs.Answer.{Unreachable}
use Rattle.vg_ir.specs.State.{Placement, IrState}
use Rattle.vg_ir.specs.Operands.{operand, typed_operand}
use Rattle.vg_ir.specs.Effect.{effect, takes_effect}
use Rattle.vg_ir.specs.Control.{Outcome, Next, Undefined, go_on, jumped, switch_target, called, returned}

-- the end of a block
abbrev pub terminator_step : Placement → IrState → Terminator → Outcome
terminator_step p s (terminator.Jump t) = jumped p s t.target.name
terminator_step p s (terminator.Branch t) =
    go_on (operand p s.frame.values 1 t.condition) (λ c. jumped p s (if nat_eq c.number 1 then t.then.name else t.otherwise.name))
terminator_step p s (terminator.Switch t) =
    go_on (typed_operand p s.frame.values t.value) (λ x. jumped p s (switch_target t x))
terminator_step p s (terminator.Return t) = returned p s t.value
terminator_step p s (terminator.Unreachable at) = Undefined Unreachable

-- an instruction, and what is left of the block behind it
abbrev pub instruction_step : Parts → Placement → IrState → Instruction → List Instruction → Outcome
instruction_step m p s (instruction.Call c) left = called m p s c left
instruction_step m p s i left = go_on (effect m p s i) (λ e. Next (takes_effect s e left))

-- the step where this is left of the block
abbrev pub step_at : Parts → Placement → IrState → List Instruction → Outcome
step_at m p s [] = terminator_step p s s.frame.last
step_at m p s (i ∷ left) = instruction_step m p s i left

-- one step
abbrev pub ir_step : Parts → Placement → IrState → Outcome
ir_step m p s = step_at m p s s.frame.left
