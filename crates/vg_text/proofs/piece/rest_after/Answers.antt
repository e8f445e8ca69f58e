use Rattle.std.proofs.lemmas.Slice.Eq.{strip_prefix_is}
use Rattle.std.proofs.lemmas.Bool.Decides.{Decides-eqb}
use Rattle.vg_text.proofs.Pieces.{rest_after_from_strip}
use Rattle.vg_text.proofs.piece.rest_after.Goals as goal

pub returns : goal.returns
returns c = rest_after_from_strip c.args.prefix.now c.args.text.now c.strip_prefix.result (strip_prefix_is Decides-eqb c.args.text.now c.args.prefix.now c.strip_prefix.result c.strip_prefix.ensures.cases)
