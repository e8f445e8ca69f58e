use Rattle.std.proofs.Common.{◌≡◌, [], ◌∷◌, ap, ◌∙◌}
use Rattle.vg_isa.specs.declared.format.Format.{Format}
use Rattle.vg_isa.specs.declared.instr.Instr.{Instr}
use Rattle.vg_norm.proofs.Descriptions.{described_kept, format, instruction}
use Rattle.vg_norm.proofs.described.description.Goals as goal

pub new-requires-2 : goal.new-requires-2
new-requires-2 c =
    let name = c.in_ok-from_slice.field-0 in
    let pc = c.in_ok-from_slice-2.field-0 in
    let memory = c.in_ok-from_slice-3.field-0 in
    let formats : c.from_vec.result ≡ format ∷ [] = c.from_vec.ensures ∙ c.in_ok-vec.ensures.items ∙ ap (λ (x : Format). x ∷ []) c.in_ok-format.ensures in
    let instrs : c.from_vec-2.result ≡ instruction ∷ [] = c.from_vec-2.ensures ∙ c.in_ok-vec-2.ensures.items ∙ ap (λ (x : Instr). x ∷ []) c.in_ok-instruction.ensures in
    rw (c.of.ensures, c.of-2.ensures, c.new.ensures, formats, instrs) (described_kept name pc memory)
