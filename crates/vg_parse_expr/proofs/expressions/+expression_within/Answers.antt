use Rattle.std.proofs.Common.{arith}
use Rattle.vg_ast.specs.Placed.{placed}
use Rattle.vg_parse_expr.proofs.Steps.{with_fuel}
use Rattle.vg_parse_expr.proofs.expressions.+expression_within.Goals as goal

pub returns : goal.returns
returns t c = rw (with_fuel c.args.fuel c.args.least (placed c.args.tokens.now) (omega arith)) c.expression_by.ensures
