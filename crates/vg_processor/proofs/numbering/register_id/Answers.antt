use Rattle.vg_type.specs.Setting.{setting_in}
use Rattle.vg_processor.proofs.NumberLemmas.{found_register, missed_register}
use Rattle.vg_processor.proofs.numbering.register_id.Goals as goal

pub returns-in-Some : goal.returns-in-Some
returns-in-Some c =
    found_register (setting_in c.args.setting.now.context.now) c.args.number c.args.resources.now c.in-Some.resource.now c.requires c.in-Some.ensures.lookup.3.0 c.in-Some.ensures.lookup.1

pub returns-in_ok-registers-in-None : goal.returns-in_ok-registers-in-None
returns-in_ok-registers-in-None c =
    missed_register (setting_in c.args.setting.now.context.now) c.args.number c.in_ok-registers-in-None.registers c.args.resources.now c.requires c.in-None.ensures.lookup.3
    c.in_ok-registers-in-None.ensures
