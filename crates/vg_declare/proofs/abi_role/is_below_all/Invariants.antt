use Rattle.std.proofs.Common.{◌≡◌, drop, nat_lt}
use Rattle.std.specs.List.{list_all}
use Rattle.vg_declare.proofs.abi_role.is_below_all.Given as goal

abbrev pub invariant-loop-other : goal.invariant-loop-other
invariant-loop-other l = list_all (nat_lt l.number) l.numbers ≡ list_all (nat_lt l.number) (drop l.other-index l.numbers)
