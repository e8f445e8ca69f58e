use Rattle.vg_format.proofs.FieldLemmas.{other_stays}
use Rattle.vg_format.proofs.field_laws.other_fields_stay.Goals as goal

pub returns : goal.returns
returns c = other_stays
