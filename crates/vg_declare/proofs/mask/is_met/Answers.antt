use Rattle.vg_declare.proofs.MaskLemmas.{met_is}
use Rattle.vg_declare.proofs.mask.is_met.Goals as goal

pub returns : goal.returns
returns c = λ front names. met_is c.args.width c.args.named c.mask_of.result c.args.span front c.requires.width c.requires.span c.requires.within names c.mask_of.ensures
