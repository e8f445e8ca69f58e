use Rattle.std.proofs.Common.{◌≡◌, ◌≤◌, slice_get, Some, arith, sym, ap, ◌∙◌}
use Rattle.std.specs.Option.{option_copied}
use Rattle.vg_isa.specs.declared.isa.Parts.{Parts}
use Rattle.vg_isa.specs.Declaration.{bits_of}
use Rattle.vg_isa.proofs.Fields.{KeepsField, field_kept, ranges_in_word}
use Rattle.vg_isa.proofs.Kept.{word_most}
use Rattle.vg_isa.proofs.word_field.field.Goals as goal

here : (c : goal.After-as_slice) → KeepsField c.args.isa.now.word c.in-Some-get.field.now
here c =
    let typed = c.parts-parts.ensures.typed in
    let format : slice_get c.args.isa.now.formats c.args.f.format.0 ≡ Some c.in-Some.format.now =
    ap (λ (d : Parts). slice_get d.formats c.args.f.format.0) (sym c.parts-parts.ensures.same) ∙ sym c.get.ensures.value ∙ ap option_copied c.in-Some.is in
    let field : slice_get c.in-Some.format.now.fields c.args.f.index ≡ Some c.in-Some-get.field.now = sym c.get-in-Some.ensures.value ∙ ap option_copied c.in-Some-get.is in
    field_kept c.args.isa.now c.args.f.format.0 c.args.f.index c.in-Some.format.now c.in-Some-get.field.now typed format field

pub bits_at-requires-clause-fits : goal.bits_at-requires-clause-fits
bits_at-requires-clause-fits c =
    let few : bits_of c.in-Some-get.field.now.ranges ≤ c.args.isa.now.word = (here c).few in
    let most : c.args.isa.now.word ≤ 64 = word_most c.args.isa.now c.parts-parts.ensures.typed in
    rw c.as_slice.ensures (omega arith)

pub bits_at-requires-clause-ranges : goal.bits_at-requires-clause-ranges
bits_at-requires-clause-ranges c = rw (c.requires.word, c.as_slice.ensures) (ranges_in_word c.args.isa.now.word c.in-Some-get.field.now.ranges (here c).ranges)
