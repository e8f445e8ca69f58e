use Rattle.std.proofs.Common.{◌≡◌, drop, nat_eq}
use Rattle.vg_declare.proofs.DifferLemmas.{differ_behind}
use Rattle.vg_isa.specs.Same.{all_differ}
use Rattle.vg_declare.proofs.abi_register.all_differ.Given as goal

abbrev pub invariant-loop-number : goal.invariant-loop-number
invariant-loop-number l = all_differ nat_eq l.numbers ≡ differ_behind l.met.keys (drop l.number-index l.numbers)
