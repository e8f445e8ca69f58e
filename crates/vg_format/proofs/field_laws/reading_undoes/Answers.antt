use Rattle.vg_format.proofs.FieldLemmas.{set_again}
use Rattle.vg_format.proofs.field_laws.reading_undoes.Goals as goal

pub returns : goal.returns
returns c = set_again
