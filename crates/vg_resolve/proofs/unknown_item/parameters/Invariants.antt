use Rattle.std.proofs.Common.{◌≡◌, drop, []}
use Rattle.vg_names.specs.First.{first_of}
use Rattle.vg_names.specs.Unknown.{in_each, type_unknowns}
use Rattle.vg_ast.specs.declared.parameter.Parameter.{Parameter}
use Rattle.vg_resolve.proofs.unknown_item.parameters.Given as goal

abbrev pub invariant-loop-parameter : goal.invariant-loop-parameter
invariant-loop-parameter l = first_of (in_each (λ (parameter : Parameter). type_unknowns l.table.items.now parameter.declared []) l.parameters) ≡ first_of (in_each (λ (parameter : Parameter). type_unknowns l.table.items.now parameter.declared []) (drop l.parameter-index l.parameters))
