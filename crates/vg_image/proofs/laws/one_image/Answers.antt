use Rattle.vg_image.proofs.Images.{no_prefix, same_image}
use Rattle.vg_image.proofs.laws.one_image.Goals as goal

pub returns-clause-spelled : goal.returns-clause-spelled
returns-clause-spelled c = same_image

pub returns-clause-alone : goal.returns-clause-alone
returns-clause-alone c = no_prefix
