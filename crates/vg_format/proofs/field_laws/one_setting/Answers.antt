use Rattle.vg_format.proofs.FieldLemmas.{one_set}
use Rattle.vg_format.proofs.field_laws.one_setting.Goals as goal

pub returns : goal.returns
returns c = one_set
