use Rattle.vg_format.proofs.FieldLemmas.{different_apart}
use Rattle.vg_format.proofs.field_laws.fields_apart.Goals as goal

pub returns : goal.returns
returns c = different_apart
