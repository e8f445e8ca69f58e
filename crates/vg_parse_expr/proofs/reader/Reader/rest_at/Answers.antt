use Rattle.std.proofs.Common.{rules, arith}
use Rattle.vg_ast.specs.Placed.{placed, placed_token}
use Rattle.vg_parse_expr.specs.Reading.{expression_within}
use Rattle.vg_parse_expr.proofs.Steps.{rest_kept}
use Rattle.vg_parse_expr.proofs.reader.Reader.rest_at.Goals as goal

pub loop-step-preserved : goal.loop-step-preserved
loop-step-preserved g c =
    rest_kept 64 c.loop-step._step (expression_within c.args.self.now.fuel) c.args.least c.loop-step.left (placed c.loop-step.rest.now)
    (placed_token c.in-Some.first.now) (placed c.in-Some.others.now) c.in-Some-taken.next c.in-Some-2.whole (placed c.in-Some-2.behind.now)
    (omega arith) c.loop-step.invariant (search rules) (search rules) (search rules)
