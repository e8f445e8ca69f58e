use Rattle.std.proofs.Common.{◌≡◌, drop}
use Rattle.vg_declare.specs.AbiPart.{are_below}
use Rattle.vg_declare.proofs.abi_role.are_below.Given as goal

abbrev pub invariant-loop-number : goal.invariant-loop-number
invariant-loop-number l = are_below l.width l.numbers ≡ are_below l.width (drop l.number-index l.numbers)
