use Rattle.vg_declare.proofs.MaskLemmas.{full_is}
use Rattle.vg_declare.proofs.mask.is_full.Goals as goal

pub returns : goal.returns
returns c = λ spans names. full_is c.args.width c.args.named spans names c.requires
