use Rattle.vg_image.proofs.Images.{same_line}
use Rattle.vg_image.proofs.laws.one_line.Goals as goal

pub returns : goal.returns
returns c = same_line
