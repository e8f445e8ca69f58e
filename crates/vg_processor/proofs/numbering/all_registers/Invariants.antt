use Rattle.std.proofs.Common.{◌≡◌}
use Rattle.vg_tree.specs.Resource.{count_before, is_register}
use Rattle.vg_processor.proofs.numbering.all_registers.Given as goal

abbrev pub invariant-loop-item : goal.invariant-loop-item
invariant-loop-item l = l.registers ≡ count_before is_register l.item-index l.items
