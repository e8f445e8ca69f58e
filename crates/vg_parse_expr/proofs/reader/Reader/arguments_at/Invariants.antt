use Rattle.std.proofs.Common.{◌≡◌, ◌-◌, [], length}
use Rattle.vg_ast.specs.Placed.{placed}
use Rattle.vg_parse_expr.specs.Reading.{arguments_at, expression_within}
use Rattle.vg_parse_expr.proofs.reader.Reader.arguments_at.Given as goal

-- the arguments so far and those that are left are all of them
abbrev pub invariant-loop-step : goal.invariant-loop-step
invariant-loop-step g l =
    arguments_at (length l.tokens) (expression_within l.self.fuel) [] 0 (placed l.tokens)
    ≡ arguments_at (length l.tokens - l._step) (expression_within l.self.fuel) l.front l.deepest (placed l.rest)
