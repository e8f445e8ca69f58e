use Rattle.std.proofs.Common.{◌≡◌, drop}
use Rattle.vg_declare.specs.AbiRole.{stand_once}
use Rattle.vg_declare.proofs.abi_role.stand_once.Given as goal

abbrev pub invariant-loop-i : goal.invariant-loop-i
invariant-loop-i l = stand_once l.roles ≡ stand_once (drop l.i l.roles)
