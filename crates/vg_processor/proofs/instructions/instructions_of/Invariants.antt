use Rattle.std.proofs.Common.{◌≡◌, take}
use Rattle.std.specs.List.{filter_map}
use Rattle.vg_inline.specs.InPlace.{known_of}
use Rattle.vg_type.specs.Setting.{setting_in}
use Rattle.vg_processor.specs.IsaOf.{instruction_of}
use Rattle.vg_processor.proofs.instructions.instructions_of.Given as goal

abbrev pub invariant-loop-number : goal.invariant-loop-number
invariant-loop-number l =
    let setting = setting_in l.machine.setting.now.context.now in
    l.instructions ≡ filter_map (instruction_of setting (known_of l.plain.description.items)) (take l.number setting.all)
