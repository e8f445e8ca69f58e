use Rattle.std.proofs.Common.{◌≡◌, drop}
use Rattle.vg_tree.specs.Resource.{first_from, is_memory}
use Rattle.vg_tree.proofs.formats.memory_number.Given as goal

abbrev pub invariant-loop-k : goal.invariant-loop-k
invariant-loop-k l = first_from is_memory 0 l.items ≡ first_from is_memory l.k (drop l.k l.items)
