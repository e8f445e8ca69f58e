use Rattle.std.proofs.Common.{map, drop}
use Rattle.vg_names.specs.declared.scope.Scope.TheVariants.{Operands}
use Rattle.vg_names.specs.Duplicate.{claim, operands_of}
use Rattle.vg_names.specs.Met.{keys_met}
use Rattle.vg_names.proofs.MetLemmas.{IsLeft}
use Rattle.vg_resolve.proofs.duplicate.operand_claims.Given as goal

abbrev pub invariant-loop-part : goal.invariant-loop-part
invariant-loop-part l =
    let named = map (λ field. claim (Operands l.item) field) in
    IsLeft (keys_met l.initial.met) (named (operands_of l.parts)) (keys_met l.met) (named (operands_of (drop l.part-index l.parts)))
