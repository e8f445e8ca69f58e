-- The plan of a description: which stage does what, and where the parts of each instruction come.
use Rattle.std.specs.Prelude.{map}
use Rattle.std.specs.Option.{option_map, option_map_or}
use Rattle.vg_isa.specs.declared.isa.Parts.{Parts}
use Rattle.vg_isa.specs.declared.expr.Expr.{Expr}
use Rattle.vg_isa.specs.declared.instr.Write.{Write}
use Rattle.vg_isa.specs.declared.instr.Instr.{Instr}
use Rattle.vg_isa.specs.declared.abi.Micro.{Micro}
use Rattle.vg_place.specs.declared.stage_table.Stages.{Stages}
use Rattle.vg_place.specs.declared.plan.WritePlan.{WritePlan}
use Rattle.vg_place.specs.declared.plan.NextPlan.{NextPlan}
use Rattle.vg_place.specs.declared.plan.InstrPlan.{InstrPlan}
use Rattle.vg_place.specs.declared.plan.Plan.{Plan}
use Rattle.vg_place.specs.Stage.{stage_of, stages_in}

-- the stages of a write's parts
abbrev pub write_plan : Stages → Write → WritePlan
write_plan s w = record { guard = stage_of s w.guard; at = option_map_or (λ (at : Expr). stage_of s at) w.at 0; value = stage_of s w.value }

-- the stages of the parts of the next program counter
abbrev pub next_plan : Stages → Expr × Expr → NextPlan
next_plan s next = record { guard = stage_of s next.0; value = stage_of s next.1 }

abbrev pub instr_plan : Stages → Instr → InstrPlan
instr_plan s instr = record { writes = map (write_plan s) instr.writes; next = option_map (next_plan s) instr.next }

abbrev pub plan_of : Parts → Micro → Plan
plan_of d micro = record { stages = stages_in d micro; instrs = map (instr_plan (stages_in d micro)) d.instrs }
