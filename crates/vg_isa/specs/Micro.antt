-- The order of the stages of a micro architecture.
use Rattle.std.specs.Prelude.{ℕ, ◌+◌, Bool, true, false, ◌&&◌, ◌||◌, not, nat_eq, nat_le, nat_lt, List, [], ◌∷◌, ◌++◌, map, length}
use Rattle.std.specs.Option.{option_map_or}
use Rattle.std.specs.List.{list_all, list_any, filter, range_with_len}
use Rattle.vg_isa.specs.declared.isa.Parts.{Parts}
use Rattle.vg_isa.specs.declared.ids.RegId.{RegId}
use Rattle.vg_isa.specs.declared.ids.ResourceId.{ResourceId}
use Rattle.vg_isa.specs.declared.ids.ResourceId.TheVariants.{Memory, Reg}
use Rattle.vg_isa.specs.declared.instr.Instr.{Instr}
use Rattle.vg_isa.specs.declared.instr.Write.{Write}
use Rattle.vg_isa.specs.declared.abi.Act.{Act}
use Rattle.vg_isa.specs.declared.abi.Act.TheVariants as act
use Rattle.vg_isa.specs.declared.abi.Stage.{Stage}
use Rattle.vg_isa.specs.declared.abi.Micro.{Micro}
use Rattle.vg_isa.specs.Node.{Node, instr_nodes, resource_in}
use Rattle.vg_isa.specs.Same.{all_differ, same_resource}

-- ---- acts

abbrev pub is_read : ResourceId → Act → Bool
is_read r (act.Read q) = same_resource r q
is_read r _ = false

abbrev pub is_written : ResourceId → Act → Bool
is_written r (act.Write q) = same_resource r q
is_written r _ = false

abbrev pub is_compute : Act → Bool
is_compute act.Compute = true
is_compute _ = false

abbrev pub is_resolve : Act → Bool
is_resolve act.Resolve = true
is_resolve _ = false

-- the stages where such an act stands, the first of these having this number; one in which it stands twice is told twice
abbrev pub stages_from : ℕ → (Act → Bool) → List Stage → List ℕ
stages_from s is [] = []
stages_from s is (stage ∷ stages) = map (λ a. s) (filter is stage.acts) ++ stages_from (s + 1) is stages

abbrev pub stages_of : Micro → (Act → Bool) → List ℕ
stages_of micro is = stages_from 0 is micro.stages

-- an act names a resource of the description
abbrev pub is_act : Parts → Act → Bool
is_act d (act.Read (Reg r)) = nat_lt r.0 (length d.regs)
is_act d (act.Write (Reg r)) = nat_lt r.0 (length d.regs)
is_act d _ = true

-- ---- what instructions read and write

abbrev pub is_read_by : ResourceId → Instr → Bool
is_read_by r instr = list_any (λ (n : Node). option_map_or (same_resource r) (resource_in n) false) (instr_nodes instr)

abbrev pub is_written_by : ResourceId → Instr → Bool
is_written_by r instr = list_any (λ (write : Write). same_resource r write.resource) instr.writes

-- the memory and the registers
abbrev pub resources_of : Parts → List ResourceId
resources_of d = Memory ∷ map (λ k. Reg (record { 0 = k })) (range_with_len 0 (length d.regs))

-- ---- the rules

-- one at most, and one where there has to be one
abbrev pub is_placed : Bool → List ℕ → Bool
is_placed needed stages = nat_le (length stages) 1 && (not needed || nat_eq (length stages) 1)

-- no stage of the first list is after one of the second
abbrev pub none_after : List ℕ → List ℕ → Bool
none_after first second = list_all (λ s. list_all (nat_le s) second) first

-- a resource that is read, or written, has one stage for it; it isn't read after it is written, and the next program
-- counter is decided no later than it is written
abbrev pub is_in_order : Parts → Micro → ResourceId → Bool
is_in_order d micro r =
    is_placed (list_any (is_read_by r) d.instrs) (stages_of micro (is_read r))
    && is_placed (list_any (is_written_by r) d.instrs) (stages_of micro (is_written r))
    && none_after (stages_of micro (is_read r)) (stages_of micro (is_written r))
    && none_after (stages_of micro is_resolve) (stages_of micro (is_written r))

abbrev pub is_micro : Parts → Micro → Bool
is_micro d micro =
    nat_le 1 (length micro.stages) && nat_le (length micro.stages) 16
    && list_all (λ (stage : Stage). list_all (is_act d) stage.acts) micro.stages
    && nat_eq (length (stages_of micro is_compute)) 1 && nat_eq (length (stages_of micro is_resolve)) 1
    && list_all (is_in_order d micro) (resources_of d)
    && list_all (λ (r : RegId). nat_lt r.0 (length d.regs)) micro.forward
    && all_differ (λ (r q : RegId). nat_eq r.0 q.0) micro.forward
