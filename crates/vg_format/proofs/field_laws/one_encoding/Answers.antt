use Rattle.vg_format.proofs.EncodingLemmas.{one_word}
use Rattle.vg_format.proofs.field_laws.one_encoding.Goals as goal

pub returns : goal.returns
returns c = one_word
