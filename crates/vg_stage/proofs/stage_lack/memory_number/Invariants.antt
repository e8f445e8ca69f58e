use Rattle.std.proofs.Common.{◌≡◌, drop}
use Rattle.vg_tree.specs.Resource.{first_from, is_memory, memory_number}
use Rattle.vg_stage.proofs.stage_lack.memory_number.Given as goal

abbrev pub invariant-loop-number : goal.invariant-loop-number
invariant-loop-number l = first_from is_memory l.number (drop l.number l.items) ≡ memory_number l.items
