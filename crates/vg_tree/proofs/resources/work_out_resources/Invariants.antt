use Rattle.vg_type.specs.Setting.{setting_in}
use Rattle.vg_tree.proofs.ResourceLemmas.{Entered}
use Rattle.vg_tree.proofs.resources.work_out_resources.Given as goal

abbrev pub invariant-loop-item : goal.invariant-loop-item
invariant-loop-item l = Entered (setting_in l.setting.context.now) l.item-index l.registers l.resources
