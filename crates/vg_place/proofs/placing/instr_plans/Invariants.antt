use Rattle.std.proofs.Common.{◌≡◌, map, take}
use Rattle.vg_place.specs.Planned.{instr_plan}
use Rattle.vg_place.proofs.placing.instr_plans.Given as goal

abbrev pub invariant-loop-instr : goal.invariant-loop-instr
invariant-loop-instr l = l.plans.items ≡ map (instr_plan l.stages) (take l.instr-index l.instrs)
