use Rattle.vg_type.specs.Setting.{setting_in}
use Rattle.vg_tree.proofs.ResourceLemmas.{found_resource, missed_resource}
use Rattle.vg_tree.proofs.looking.resource_at.Goals as goal

pub returns-in-Some : goal.returns-in-Some
returns-in-Some c =
    found_resource (setting_in c.args.frame.now.setting.now.context.now) c.args.item c.args.frame.now.resources.now c.in-Some.resource.now c.args.frame.now.worked c.in-Some.ensures.lookup.3.0 c.in-Some.ensures.lookup.1

pub returns-in-None : goal.returns-in-None
returns-in-None c =
    missed_resource (setting_in c.args.frame.now.setting.now.context.now) c.args.item c.args.frame.now.resources.now c.args.frame.now.worked c.in-None.ensures.lookup.3
