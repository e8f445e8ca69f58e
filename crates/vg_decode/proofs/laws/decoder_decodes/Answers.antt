use Rattle.std.proofs.Common.{sym, subst}
use Rattle.vg_format.specs.Matching.{Decodes}
use Rattle.vg_format.proofs.First.{first_decodes}
use Rattle.vg_decode.proofs.laws.decoder_decodes.Goals as goal

pub returns : goal.returns
returns c d decoder word one is small = subst (Decodes d word) (sym (is word)) (first_decodes d word (one word small))
