use Rattle.std.proofs.Common.{◌≡◌, drop, map, nat_eq}
use Rattle.std.specs.List.{list_any}
use Rattle.vg_declare.specs.AbiRole.{role_number}
use Rattle.vg_declare.proofs.abi_role.stands.Given as goal

abbrev pub invariant-loop-role : goal.invariant-loop-role
invariant-loop-role l = list_any (nat_eq l.number) (map role_number l.roles) ≡ list_any (nat_eq l.number) (map role_number (drop l.role-index l.roles))
