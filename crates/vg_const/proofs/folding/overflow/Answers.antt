use Rattle.std.proofs.Common.{ap, ◌∙◌}
use Rattle.vg_names.specs.First.{first_of}
use Rattle.vg_whole.specs.Whole.{Constants}
use Rattle.vg_whole.specs.Overflow.{overflows}
use Rattle.vg_const.proofs.folding.overflow.Goals as goal

pub returns : goal.returns
returns c = c.first_overflow.ensures ∙ ap (λ (k : Constants). first_of (overflows c.args.d.now k)) c.requires.constants
