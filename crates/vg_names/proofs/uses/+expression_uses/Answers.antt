use Rattle.std.proofs.Common.{List, refl, sym, ap, ◌∙◌}
use Rattle.std.specs.Borrow.{Bor}
use Rattle.vg_names.specs.Definition.{Text}
use Rattle.vg_names.specs.Uses.{outer}
use Rattle.vg_names.specs.Numbers.{number_named, with_numbers}
use Rattle.vg_names.specs.Scoped.{inner_of, parameter_texts}
use Rattle.vg_names.proofs.NameLemmas.{with_numbers-nil, arguments_more, call_followed}
use Rattle.vg_names.proofs.uses.+expression_uses.Goals as goal

pub loop-argument-preserved : goal.loop-argument-preserved
loop-argument-preserved t c =
    let hidden = parameter_texts c.args.scope.now.parameters.now in (
      c.in_ok-expression_uses-in-Call.ensures.bound ∙ c.loop-argument.invariant.0,
      arguments_more (number_named c.args.scope.now.table.now.items.now) c.name_uses-in-Call.new.uses.items c.loop-argument.uses.items c.expression_uses.new.uses.items c.as_slice-argument-items.result.now c.loop-argument.argument-index c.argument-item.result
          (inner_of c.args.bound.now.items hidden) (inner_of c.loop-argument.bound.items hidden) c.loop-argument-test.true c.argument-item.is
          (ap (λ (l : List (Bor Text)). inner_of l hidden) c.loop-argument.invariant.0) c.loop-argument.invariant.1 c.in_ok-expression_uses-in-Call.ensures.uses,
    )

pub loop-argument-init : goal.loop-argument-init
loop-argument-init t c = (refl, sym (with_numbers-nil (number_named c.args.scope.now.table.now.items.now) c.name_uses-in-Call.new.uses.items))

pub returns-after-loop-argument-clause-uses : goal.returns-after-loop-argument-clause-uses
returns-after-loop-argument-clause-uses t c =
    let hidden = parameter_texts c.args.scope.now.parameters.now in
    let number = number_named c.args.scope.now.table.now.items.now in
    call_followed number c.args.uses.now.items c.name_uses-in-Call.new.uses.items c.loop-argument.uses.items c.in-Call.name c.in-Call.arguments c.as_slice-argument-items.result.now c.loop-argument.argument-index
    (inner_of c.args.bound.now.items hidden) c.args.expression.now c.in-Call.is c.as_slice-argument-items.ensures c.loop-argument-test.false
    (c.in_ok-name_uses-in-Call.ensures ∙ ap (λ (l : List (Bor Text)). with_numbers number c.args.uses.now.items (outer c.in-Call.name (inner_of l hidden))) c.as_slice-in-Call.ensures.value)
    c.loop-argument.invariant.1
