use Rattle.std.proofs.Common.{◌≡◌, ◌-◌}
use Rattle.vg_ast.specs.Placed.{placed}
use Rattle.vg_parse_expr.specs.Reading.{rest_at, expression_within}
use Rattle.vg_parse_expr.proofs.reader.Reader.rest_at.Given as goal

-- what goes on from the operand so far is the whole
abbrev pub invariant-loop-step : goal.invariant-loop-step
invariant-loop-step g l =
    rest_at 64 (expression_within l.self.fuel) l.least l.fn.left (placed l.tokens) ≡ rest_at (64 - l._step) (expression_within l.self.fuel) l.least l.left (placed l.rest)
