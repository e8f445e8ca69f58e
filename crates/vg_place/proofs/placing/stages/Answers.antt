use Rattle.std.proofs.Common.{◌≡◌, ◌<◌, ◌≤◌, length, None, inr, sym, ap, ◌∙◌, refl, map, arith}
use Rattle.vg_place.specs.Unplaced.{first_late, IsFirst}
use Rattle.vg_place.specs.Stage.{stages_in}
use Rattle.vg_place.specs.Planned.{instr_plan}
use Rattle.vg_place.proofs.Bounds.{micro_kept, micro_some, micro_few, registers_few, instrs_few, first_within, first_same, same_stages}
use Rattle.vg_place.proofs.Firsts.{none_late, found_first}
use Rattle.vg_place.proofs.placing.stages.Goals as goal

pub stages_in-requires-clause-some : goal.stages_in-requires-clause-some
stages_in-requires-clause-some c = micro_some c.args.isa.now c.in-Some.micro.now c.parts.ensures.typed (sym c.in-Some.ensures)

pub stages_in-requires-clause-few : goal.stages_in-requires-clause-few
stages_in-requires-clause-few c = micro_few c.args.isa.now c.in-Some.micro.now c.parts.ensures.typed (sym c.in-Some.ensures)

pub stages_in-requires-clause-registers : goal.stages_in-requires-clause-registers
stages_in-requires-clause-registers c = registers_few c.args.isa.now c.parts.ensures.typed

pub overflow_cast-result : goal.overflow_cast-result
overflow_cast-result c =
    let f : IsFirst c.in_ok-stages.stages c.instrs.result.now c.in-Some-first_late.found.instr c.in-Some-first_late.found.late.at c.in-Some-first_late.found.late.stage
    = found_first c.in_ok-stages.stages c.instrs.result.now c.in-Some-first_late.found (sym c.first_late.ensures ∙ c.in-Some-first_late.is) in
    let within : c.in-Some-first_late.found.instr < length c.instrs.result.now = first_within _ _ _ _ _ f in
    let same : length c.instrs.result.now ≡ length c.args.isa.now.instrs = ap length c.instrs.ensures.value in
    let few : length c.args.isa.now.instrs ≤ 512 = instrs_few c.args.isa.now c.parts.ensures.typed in
    omega arith

pub returns-in-Some-first_late-clause-fault : goal.returns-in-Some-first_late-clause-fault
returns-in-Some-first_late-clause-fault c micro e =
    inr (
      c.in-Some-first_late.found.instr,
      c.in-Some-first_late.found.late.at,
      c.in-Some-first_late.found.late.stage,
      refl,
      first_same c.in_ok-stages.stages (stages_in c.args.isa.now micro) c.instrs.result.now c.args.isa.now.instrs _ _ _
          (c.in_ok-stages.ensures ∙ same_stages c.args.isa.now c.in-Some.micro.now micro c.in-Some.ensures e) c.instrs.ensures.value
          (found_first c.in_ok-stages.stages c.instrs.result.now c.in-Some-first_late.found (sym c.first_late.ensures ∙ c.in-Some-first_late.is)),
    )

pub returns-in_ok-instrs-in-None-first_late-clause-plan : goal.returns-in_ok-instrs-in-None-first_late-clause-plan
returns-in_ok-instrs-in-None-first_late-clause-plan c micro e =
    let s : c.in_ok-stages.stages ≡ stages_in c.args.isa.now micro = c.in_ok-stages.ensures ∙ same_stages c.args.isa.now c.in-Some.micro.now micro c.in-Some.ensures e in
    let i : c.from_vec.result ≡ map (instr_plan c.in_ok-stages.stages) c.instrs-in-None-first_late.result.now = c.from_vec.ensures ∙ c.in_ok-instrs-in-None-first_late.ensures in
    let n : first_late c.in_ok-stages.stages c.instrs.result.now ≡ None = sym c.first_late.ensures ∙ c.in-None-first_late.is in (
      (let m : map (instr_plan c.in_ok-stages.stages) c.instrs-in-None-first_late.result.now ≡ map (instr_plan (stages_in c.args.isa.now micro)) c.args.isa.now.instrs
          = ap (λ z. map (instr_plan z) c.instrs-in-None-first_late.result.now) s ∙ ap (map (instr_plan (stages_in c.args.isa.now micro))) c.instrs-in-None-first_late.ensures.value in
          ap (λ z. record { stages = z; instrs = c.from_vec.result }) s ∙ ap (λ z. record { stages = stages_in c.args.isa.now micro; instrs = z }) (i ∙ m)),
      (
        micro_kept c.args.isa.now micro c.parts.ensures.typed e,
        none_late (stages_in c.args.isa.now micro) c.args.isa.now.instrs
            (ap (λ z. first_late z c.args.isa.now.instrs) (sym s) ∙ ap (first_late c.in_ok-stages.stages) (sym c.instrs.ensures.value) ∙ n),
      ),
    )
