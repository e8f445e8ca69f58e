use Rattle.std.proofs.Common.{◌≡◌, ap, ◌∙◌, subst}
use Rattle.vg_bits.specs.BitValue.{BitValue}
use Rattle.vg_isa.proofs.Kept.{fixed_kept}
use Rattle.vg_format.specs.Encoding.{is_bit_of_any}
use Rattle.vg_format.specs.Pattern.{HasOnes}
use Rattle.vg_format.specs.Replaced.{with_fields}
use Rattle.vg_format.proofs.MaskLemmas.{is_pattern}
use Rattle.vg_format.proofs.pattern.pattern_of.Goals as goal

pub set_fields-value-requires-clause-fields : goal.set_fields-value-requires-clause-fields
set_fields-value-requires-clause-fields c = rw c.as_slice-fixed.ensures (fixed_kept c.args.isa.now c.args.instr.now c.requires)

pub fields_mask-requires : goal.fields_mask-requires
fields_mask-requires c = rw c.as_slice-fixed.ensures (fixed_kept c.args.isa.now c.args.instr.now c.requires)

pub returns : goal.returns
returns c =
    let d = c.args.isa.now in
    let instr = c.args.instr.now in
    let value : c.value.result ≡ with_fields d instr.fixed 0
    = c.value.ensures.value ∙ ap (λ (v : BitValue). v.number) c.set_fields-value.ensures
    ∙ ap (λ xs. with_fields d xs c.of.result.number) c.as_slice-fixed.ensures
    ∙ ap (λ (z : BitValue). with_fields d instr.fixed z.number) c.of.ensures in
    let ones : HasOnes (is_bit_of_any d instr.fixed) c.fields_mask.result
    = subst (λ xs. HasOnes (is_bit_of_any d xs) c.fields_mask.result) c.as_slice-fixed.ensures c.fields_mask.ensures in
    rw value (is_pattern d c.parts.ensures.typed instr c.requires c.fields_mask.result ones)
