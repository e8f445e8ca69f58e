-- The stages of a micro architecture, and the stage in which a tree has its value.
use Rattle.std.specs.Prelude.{ℕ, ◌-◌, max, Bool, map, length, position, Some, None, slice_get, unwrap_or}
use Rattle.std.specs.Option.{option_map_or}
use Rattle.std.specs.List.{list_any, range_with_len}
use Rattle.vg_isa.specs.declared.isa.Parts.{Parts}
use Rattle.vg_isa.specs.declared.expr.Expr.{Expr, fold-Expr}
use Rattle.vg_isa.specs.declared.expr.Expr.TheOpen.{Expr-F}
use Rattle.vg_isa.specs.declared.ids.ResourceId.{ResourceId}
use Rattle.vg_isa.specs.declared.ids.ResourceId.TheVariants.{Memory, Reg}
use Rattle.vg_isa.specs.declared.abi.Act.{Act}
use Rattle.vg_isa.specs.declared.abi.Act.TheVariants as act
use Rattle.vg_isa.specs.declared.abi.Stage.{Stage}
use Rattle.vg_isa.specs.declared.abi.Micro.{Micro}
use Rattle.vg_isa.specs.Micro.{is_read, is_written, is_compute, is_resolve}
use Rattle.vg_place.specs.declared.stage_table.Access.{Access}
use Rattle.vg_place.specs.declared.stage_table.Stages.{Stages}
use Rattle.vg_place.specs.declared.timing.Timing.{Timing}

-- ---- the stages of a micro architecture

-- the first stage with such an act, counted from 0; or another one where there is none
abbrev pub act_stage : ℕ → (Act → Bool) → Micro → ℕ
act_stage other is micro = unwrap_or (position (λ (stage : Stage). list_any is stage.acts) micro.stages) other

-- the act is this one
abbrev pub act_is : Act → Act → Bool
act_is (act.Read r) a = is_read r a
act_is (act.Write r) a = is_written r a
act_is act.Compute a = is_compute a
act_is act.Resolve a = is_resolve a

-- a resource without a read is read in stage 0, and one without a write is written in the last stage
abbrev pub access_of : Micro → ResourceId → Access
access_of micro r = record { read = act_stage 0 (act_is (act.Read r)) micro; write = act_stage (length micro.stages - 1) (act_is (act.Write r)) micro }

abbrev pub stages_in : Parts → Micro → Stages
stages_in d micro = record {
  count = length micro.stages;
  compute = act_stage 0 (act_is act.Compute) micro;
  resolve = act_stage 0 (act_is act.Resolve) micro;
  memory = access_of micro Memory;
  registers = map (λ k. access_of micro (Reg (record { 0 = k }))) (range_with_len 0 (length d.regs));
}

-- the stage in which a resource is read
abbrev pub read_stage : Stages → ResourceId → ℕ
read_stage s Memory = s.memory.read
read_stage s (Reg r) = option_map_or (λ (a : Access). a.read) (slice_get s.registers r.0) 0

-- the stage in which a resource is written
abbrev pub write_stage : Stages → ResourceId → ℕ
write_stage s Memory = s.memory.write
write_stage s (Reg r) = option_map_or (λ (a : Access). a.write) (slice_get s.registers r.0) (s.count - 1)

-- ---- the stage of a tree

-- When a tree has its value, and when the last address of a memory read in it has (0 where it reads no memory), by
-- one level of the tree. Fields, constants and the program counter are there from the start, a read comes in its read
-- stage, an operator in the compute stage; casts, slices and joins take no time.
abbrev pub timed_step : Stages → Expr-F Timing → Timing
timed_step s (Expr-F.Const b) = record { stage = 0; address = 0 }
timed_step s (Expr-F.Field f) = record { stage = 0; address = 0 }
timed_step s Expr-F.Pc = record { stage = 0; address = 0 }
timed_step s (Expr-F.Reg r None) = record { stage = read_stage s (Reg r); address = 0 }
timed_step s (Expr-F.Reg r (Some i)) = record { stage = max i.stage (read_stage s (Reg r)); address = i.address }
timed_step s (Expr-F.Mem a bytes) = record { stage = max a.stage s.memory.read; address = max a.address a.stage }
timed_step s (Expr-F.Unary op a) = record { stage = max a.stage s.compute; address = a.address }
timed_step s (Expr-F.Binary op a b) = record { stage = max (max a.stage b.stage) s.compute; address = max a.address b.address }
timed_step s (Expr-F.Cast op width a) = a
timed_step s (Expr-F.Slice a hi lo) = a
timed_step s (Expr-F.Join a b) = record { stage = max a.stage b.stage; address = max a.address b.address }
timed_step s (Expr-F.If c a b) = record { stage = max (max c.stage (max a.stage b.stage)) s.compute; address = max c.address (max a.address b.address) }

abbrev pub timed : Stages → Expr → Timing
timed s = fold-Expr Timing (timed_step s)

-- the stage of a tree
abbrev pub stage_of : Stages → Expr → ℕ
stage_of s e = (timed s e).stage

-- the stage in which the last address of its memory reads is there
abbrev pub address_stage : Stages → Expr → ℕ
address_stage s e = (timed s e).address
