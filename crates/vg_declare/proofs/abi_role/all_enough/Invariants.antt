use Rattle.std.proofs.Common.{◌≡◌, drop}
use Rattle.std.specs.List.{list_all}
use Rattle.vg_declare.specs.AbiRole.{are_enough}
use Rattle.vg_declare.proofs.abi_role.all_enough.Given as goal

abbrev pub invariant-loop-role : goal.invariant-loop-role
invariant-loop-role l = list_all are_enough l.roles ≡ list_all are_enough (drop l.role-index l.roles)
