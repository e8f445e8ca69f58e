use Rattle.vg_type.specs.Setting.{setting_in}
use Rattle.vg_tree.proofs.ResourceLemmas.{one_more}
use Rattle.vg_tree.proofs.resources.work_out_resources.Goals as goal

pub loop-item-preserved : goal.loop-item-preserved
loop-item-preserved c =
    one_more (setting_in c.args.setting.now.context.now) c.loop-item.item-index c.loop-item.registers c.in_ok-registers.registers c.loop-item.resources c.push.new.self c.item-item.result c.resource_of.result
    c.loop-item.invariant c.loop-item-test.true c.item-item.is c.resource_of.ensures c.in_ok-push.ensures.ok c.in_ok-registers.ensures
