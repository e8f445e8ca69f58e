use Rattle.std.proofs.Common.{◌≡◌, ◌<◌, ℕ, true, nat_eq}
use Rattle.std.specs.List.{list_any}
use Rattle.vg_ast.specs.declared.role.Role.{Role}
use Rattle.vg_declare.specs.AbiRole.{role_number}
use Rattle.vg_declare.proofs.abi_role.are_complete.Given as goal

abbrev pub invariant-loop-number : goal.invariant-loop-number
invariant-loop-number l = (k : ℕ) → k < l.number → list_any (λ (role : Role). nat_eq (role_number role) k) l.roles ≡ true
