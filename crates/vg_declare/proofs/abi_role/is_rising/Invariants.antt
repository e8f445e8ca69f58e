use Rattle.std.proofs.Common.{◌≡◌, drop}
use Rattle.vg_declare.specs.AbiRole.{is_rising}
use Rattle.vg_declare.proofs.abi_role.is_rising.Given as goal

abbrev pub invariant-loop-i : goal.invariant-loop-i
invariant-loop-i l = is_rising l.numbers ≡ is_rising (drop l.i l.numbers)
