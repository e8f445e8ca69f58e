use Rattle.std.proofs.Common.{◌≡◌, drop, nat_eq, not}
use Rattle.std.specs.List.{list_all, list_any}
use Rattle.vg_declare.proofs.abi_register.none_among.Given as goal

abbrev pub invariant-loop-number : goal.invariant-loop-number
invariant-loop-number l = list_all (λ k. not (list_any (nat_eq k) l.others)) l.numbers ≡ list_all (λ k. not (list_any (nat_eq k) l.others)) (drop l.number-index l.numbers)
