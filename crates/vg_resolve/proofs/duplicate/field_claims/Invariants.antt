use Rattle.std.proofs.Common.{map, drop}
use Rattle.vg_ast.specs.declared.field.Field.{Field}
use Rattle.vg_names.specs.declared.scope.Scope.TheVariants.{Fields}
use Rattle.vg_names.specs.Duplicate.{claim}
use Rattle.vg_names.specs.Met.{keys_met}
use Rattle.vg_names.proofs.MetLemmas.{IsLeft}
use Rattle.vg_resolve.proofs.duplicate.field_claims.Given as goal

abbrev pub invariant-loop-field : goal.invariant-loop-field
invariant-loop-field l =
    let named = map (λ (field : Field). claim (Fields l.item) field.name) in
    IsLeft (keys_met l.initial.met) (named l.fields) (keys_met l.met) (named (drop l.field-index l.fields))
