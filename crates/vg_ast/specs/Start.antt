-- Where an expression begins in the text.
use Rattle.std.specs.Prelude.{ℕ}
use Rattle.vg_ast.specs.declared.expr.Expr.{Expr, fold-Expr}
use Rattle.vg_ast.specs.declared.expr.Expr.TheOpen.{Expr-F}

-- one level of an expression, with the beginnings of its parts
abbrev pub start_step : Expr-F ℕ → ℕ
start_step (Expr-F.Number value at) = at
start_step (Expr-F.Name name) = name.at
start_step (Expr-F.Call name arguments) = name.at
start_step (Expr-F.Access memory at size address) = memory.at
start_step (Expr-F.Join at high low) = at
start_step (Expr-F.Parentheses at body) = at
start_step (Expr-F.Unary op at operand) = at
start_step (Expr-F.Binary op at left right) = left
start_step (Expr-F.Cast operand at target) = operand
start_step (Expr-F.Slice operand at high low) = operand
start_step (Expr-F.If at condition one other) = at
start_step (Expr-F.Let at name bound body) = at

-- the place of the first token of an expression
abbrev pub start_of : Expr → ℕ
start_of e = fold-Expr ℕ start_step e
