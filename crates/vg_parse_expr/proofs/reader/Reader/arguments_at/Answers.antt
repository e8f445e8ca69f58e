use Rattle.std.proofs.Common.{rules, arith, length}
use Rattle.vg_ast.specs.Placed.{placed}
use Rattle.vg_parse_expr.specs.Reading.{expression_within}
use Rattle.vg_parse_expr.proofs.Steps.{arguments_kept, arguments_done}
use Rattle.vg_parse_expr.proofs.reader.Reader.arguments_at.Goals as goal

pub returns-then-begins_with : goal.returns-then-begins_with
returns-then-begins_with g c =
    arguments_done (length c.args.tokens.now) c.loop-step._step (expression_within c.args.self.now.fuel) c.loop-step.front c.loop-step.deepest (placed c.loop-step.rest.now)
    c.in-Some.argument.tree c.in-Some.argument.level c.in-Some.argument.depth (placed c.in-Some.others.now) c.in-Some-sign_at.field-0-0 (placed c.in-Some-sign_at.behind.now)
    c.push.new.self c.max-deepest.result
    (omega arith) c.loop-step.invariant (search rules) (search rules) (search rules) (search rules) (search rules)

pub loop-step-preserved : goal.loop-step-preserved
loop-step-preserved g c =
    arguments_kept (length c.args.tokens.now) c.loop-step._step (expression_within c.args.self.now.fuel) c.loop-step.front c.loop-step.deepest (placed c.loop-step.rest.now)
    c.in-Some.argument.tree c.in-Some.argument.level c.in-Some.argument.depth (placed c.in-Some.others.now) c.in-Some-sign_at-2.field-0-0 (placed c.in-Some-sign_at-2.behind.now)
    c.push.new.self c.max-deepest.result
    (omega arith) c.loop-step.invariant (search rules) (search rules) (search rules) (search rules) (search rules)
