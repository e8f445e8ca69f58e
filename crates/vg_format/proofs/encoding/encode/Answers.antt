use Rattle.std.proofs.Common.{◌≡◌, ap, ◌∙◌}
use Rattle.vg_bits.specs.BitValue.{BitValue, bit_value}
use Rattle.vg_isa.proofs.Kept.{fixed_kept}
use Rattle.vg_format.specs.Replaced.{with_fields}
use Rattle.vg_format.proofs.EncodingLemmas.{can_give_within, given_to, fields_encode}
use Rattle.vg_format.proofs.encoding.encode.Goals as goal

pub instr-instr-requires : goal.instr-instr-requires
instr-instr-requires c = can_give_within c.args.isa.now c.args.i.0 c.args.fields.now c.requires

pub set_fields-fixed-requires-clause-fields : goal.set_fields-fixed-requires-clause-fields
set_fields-fixed-requires-clause-fields c = rw c.as_slice.ensures (fixed_kept c.args.isa.now c.instr-instr.result.now c.instr-instr.ensures.typed)

pub set_fields-requires-clause-fields : goal.set_fields-requires-clause-fields
set_fields-requires-clause-fields c = given_to c.args.isa.now c.args.i.0 c.args.fields.now c.instr-instr.result.now c.requires c.instr-instr.ensures.same

pub returns : goal.returns
returns c =
    let d = c.args.isa.now in
    let instr = c.instr-instr.result.now in
    let zero : c.of-zero.result ≡ bit_value d.word 0 = c.of-zero.ensures ∙ ap (λ w. bit_value w 0) c.word.ensures.value in
    let fixed : c.set_fields-fixed.result ≡ bit_value d.word (with_fields d instr.fixed 0)
    = c.set_fields-fixed.ensures ∙ ap (λ xs. bit_value c.of-zero.result.width (with_fields d xs c.of-zero.result.number)) c.as_slice.ensures
    ∙ ap (λ (z : BitValue). bit_value z.width (with_fields d instr.fixed z.number)) zero in
    let whole : c.set_fields.result ≡ bit_value d.word (with_fields d c.args.fields.now (with_fields d instr.fixed 0))
    = c.set_fields.ensures ∙ ap (λ (z : BitValue). bit_value z.width (with_fields d c.args.fields.now z.number)) fixed in
    rw whole (fields_encode d c.args.i.0 c.args.fields.now instr c.parts.ensures.typed c.requires c.instr-instr.ensures.same)
