-- What an accepted description keeps of its micro architecture.
use Rattle.std.proofs.Common.{◌≡◌, ℕ, ◌+◌, ◌<◌, ◌≤◌, true, IsTrue, List, length, Option, Some, subst, ap, ◌∙◌, arith}
use Rattle.std.specs.Option.{option_map_or}
use Rattle.std.proofs.lemmas.Option.{slice_get_within}
use Rattle.vg_isa.specs.declared.isa.Parts.{Parts}
use Rattle.vg_isa.specs.declared.instr.Instr.{Instr}
use Rattle.vg_isa.specs.declared.abi.Micro.{Micro}
use Rattle.vg_isa.specs.Accepted.{is_isa}
use Rattle.vg_isa.specs.Micro.{is_micro}
use Rattle.vg_isa.proofs.Kept.{kept}
use Rattle.vg_isa.proofs.Tests.{both, true-nat_le}
use Rattle.vg_place.specs.declared.stage_table.Stages.{Stages}
use Rattle.vg_place.specs.Stage.{stages_in}
use Rattle.vg_place.specs.Unplaced.{IsFirst}

pub micro_kept : (d : Parts) (micro : Micro) → IsTrue (is_isa d) → d.micro ≡ Some micro → IsTrue (is_micro d micro)
micro_kept d micro h e = let P : Option Micro → Type 0 = λ o. IsTrue (option_map_or (is_micro d) o true) in subst P e (kept d h).micro

pub micro_some : (d : Parts) (micro : Micro) → IsTrue (is_isa d) → d.micro ≡ Some micro → 1 ≤ length micro.stages
micro_some d micro h e = true-nat_le _ _ (both _ _ (both _ _ (both _ _ (both _ _ (both _ _ (both _ _ (both _ _ (micro_kept d micro h e)).0).0).0).0).0).0).0

pub micro_few : (d : Parts) (micro : Micro) → IsTrue (is_isa d) → d.micro ≡ Some micro → length micro.stages ≤ 16
micro_few d micro h e = true-nat_le _ _ (both _ _ (both _ _ (both _ _ (both _ _ (both _ _ (both _ _ (both _ _ (micro_kept d micro h e)).0).0).0).0).0).0).1

pub registers_few : (d : Parts) → IsTrue (is_isa d) → length d.regs ≤ 16
registers_few d h = let l : length d.regs + 1 ≤ 16 = true-nat_le (length d.regs + 1) 16 (both _ _ (kept d h).limits).1 in omega arith

pub instrs_few : (d : Parts) → IsTrue (is_isa d) → length d.instrs ≤ 512
instrs_few d h = true-nat_le _ _ (both _ _ (both _ _ (kept d h).limits).0).0

-- what is told is told of an instruction that there is
pub first_within : (s : Stages) (instrs : List Instr) (k at stage : ℕ) → IsFirst s instrs k at stage → k < length instrs
first_within s instrs k at stage f = slice_get_within instrs k f.instr f.has

-- equal stages and instructions have the same first late part
pub first_same : (s t : Stages) (instrs others : List Instr) (k at stage : ℕ) → s ≡ t → instrs ≡ others → IsFirst s instrs k at stage → IsFirst t others k at stage
first_same s t instrs others k at stage e f h =
    let P : Stages × List Instr → Type 0 = λ z. IsFirst z.0 z.1 k at stage in
    let p : ◌≡◌ {A = Stages × List Instr} (s, instrs) (t, others) = cc in
    subst P p h

-- the stages of the micro architecture that a description has
pub same_stages : (d : Parts) (a b : Micro) → Some a ≡ d.micro → d.micro ≡ Some b → stages_in d a ≡ stages_in d b
same_stages d a b e f = let both : Some a ≡ Some b = e ∙ f in let same : a ≡ b = cc in ap (stages_in d) same
