use Rattle.vg_format.proofs.FieldLemmas.{sets_field}
use Rattle.vg_format.proofs.setting.with_field.Goals as goal

pub returns : goal.returns
returns c = rw c.set_field.ensures (sets_field c.args.isa.now c.args.f c.args.word c.args.v c.parts.ensures.typed c.requires.field c.requires.value c.value.ensures.below)
