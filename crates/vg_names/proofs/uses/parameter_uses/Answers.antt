use Rattle.std.proofs.Common.{List, ap, ◌∙◌}
use Rattle.std.specs.Borrow.{Bor}
use Rattle.vg_names.specs.Definition.{Text}
use Rattle.vg_names.specs.Numbers.{number_named}
use Rattle.vg_names.specs.Scoped.{inner_of, parameter_texts}
use Rattle.vg_names.proofs.NameLemmas.{parameters_more}
use Rattle.vg_names.proofs.uses.parameter_uses.Goals as goal

pub loop-parameter-preserved : goal.loop-parameter-preserved
loop-parameter-preserved c =
    let hidden = parameter_texts c.args.scope.now.parameters.now in (
      c.in_ok-type_uses.ensures.bound ∙ c.loop-parameter.invariant.0,
      parameters_more (number_named c.args.scope.now.table.now.items.now) c.args.uses.now.items c.loop-parameter.uses.items c.type_uses.new.uses.items c.args.parameters.now c.loop-parameter.parameter-index c.parameter-item.result
          (inner_of c.loop-parameter.bound.items hidden) c.loop-parameter-test.true c.parameter-item.is
          (ap (λ (l : List (Bor Text)). inner_of l hidden) c.loop-parameter.invariant.0 ∙ c.requires.outside) c.loop-parameter.invariant.1 c.in_ok-type_uses.ensures.uses,
    )
