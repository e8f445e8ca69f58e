use Rattle.std.proofs.Common.{◌≡◌, drop}
use Rattle.vg_processor.specs.IsaOf.{memory_name}
use Rattle.vg_processor.proofs.registers.memory_name.Given as goal

abbrev pub invariant-loop-item : goal.invariant-loop-item
invariant-loop-item l = memory_name l.items ≡ memory_name (drop l.item-index l.items)
