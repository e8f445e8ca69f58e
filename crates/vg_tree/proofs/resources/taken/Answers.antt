use Rattle.std.proofs.Common.{List, map, Some, sym, ap, ◌∙◌}
use Rattle.vg_ast.specs.declared.item.Item.{Item}
use Rattle.vg_ast.specs.declared.parameter.Parameter.{Parameter}
use Rattle.vg_type.specs.Item.{first_type, index_type}
use Rattle.vg_type.specs.Scope.{signature_of, type_in}
use Rattle.vg_type.specs.Setting.{globals_in}
use Rattle.vg_tree.proofs.resources.taken.Goals as goal

pub returns-in-Function : goal.returns-in-Function
returns-in-Function c =
    c.first_type.ensures
    ∙ ap (λ (ps : List Parameter). first_type (map (λ (p : Parameter). type_in (globals_in c.args.context.now) p.declared) ps)) c.as_slice.ensures
    ∙ ap (λ (item : Item). index_type (signature_of (globals_in c.args.context.now) (Some item))) (sym c.in-Function.is)
