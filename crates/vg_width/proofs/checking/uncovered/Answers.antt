-- Where ranges are kept, formats are narrow.
use Rattle.vg_type.specs.Setting.{setting_in}
use Rattle.vg_declare.proofs.NarrowLemmas.{are_narrow_in}
use Rattle.vg_width.proofs.checking.uncovered.Goals as goal

pub first_uncovered-requires : goal.first_uncovered-requires
first_uncovered-requires c = are_narrow_in c.args.d.now (setting_in c.args.setting.now.context.now) c.requires.setting c.requires.ranges
