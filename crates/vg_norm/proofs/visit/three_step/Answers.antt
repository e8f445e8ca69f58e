use Rattle.std.proofs.Common.{Some, refl, ap, ◌∙◌}
use Rattle.vg_norm.proofs.visit.three_step.Goals as goal

pub returns-in-None-third : goal.returns-in-None-third
returns-in-None-third c = ((2, refl), c.image_of-third.ensures ∙ ap Some c.in-None-third.is)
