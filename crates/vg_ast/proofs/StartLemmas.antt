-- Where an expression of each kind begins.
use Rattle.std.proofs.Common.{◌≡◌, ℕ, List, sym, ap, ◌∙◌}
use Rattle.vg_ast.specs.declared.name.Name.{Name}
use Rattle.vg_ast.specs.declared.operator.UnaryOperator.{UnaryOperator}
use Rattle.vg_ast.specs.declared.operator.BinaryOperator.{BinaryOperator}
use Rattle.vg_ast.specs.declared.type_expr.TypeExpr.{TypeExpr}
use Rattle.vg_ast.specs.declared.type_expr.TypeExpr.TheVariants as types
use Rattle.vg_ast.specs.declared.expr.Expr.{Expr, fold-roll-Expr, roll-Expr}
use Rattle.vg_ast.specs.declared.expr.Expr.TheOpen.{Expr-F}
use Rattle.vg_ast.specs.declared.expr.Expr.TheVariants as tree
use Rattle.vg_ast.specs.declared.expr.Expr.TheVariants.{rolls-Number, rolls-Name, rolls-Call, rolls-Access, rolls-Join, rolls-Parentheses, rolls-Unary, rolls-Binary, rolls-Cast, rolls-Slice, rolls-If, rolls-Let}
use Rattle.vg_ast.specs.Start.{start_step, start_of}

pub start-Number : (value at : ℕ) → start_of (tree.Number value at) ≡ at
start-Number value at = ap start_of (sym (rolls-Number value at)) ∙ fold-roll-Expr ℕ start_step (Expr-F.Number value at)

pub start-Name : (name : Name) → start_of (tree.Name name) ≡ name.at
start-Name name = ap start_of (sym (rolls-Name name)) ∙ fold-roll-Expr ℕ start_step (Expr-F.Name name)

pub start-Call : (name : Name) (arguments : List Expr) → start_of (tree.Call name arguments) ≡ name.at
start-Call name arguments = ap start_of (sym (rolls-Call name arguments)) ∙ fold-roll-Expr ℕ start_step (Expr-F.Call name arguments)

pub start-Access : (memory : Name) (at : ℕ) (size address : Expr) → start_of (tree.Access memory at size address) ≡ memory.at
start-Access memory at size address = ap start_of (sym (rolls-Access memory at size address)) ∙ fold-roll-Expr ℕ start_step (Expr-F.Access memory at size address)

pub start-Join : (at : ℕ) (high low : Expr) → start_of (tree.Join at high low) ≡ at
start-Join at high low = ap start_of (sym (rolls-Join at high low)) ∙ fold-roll-Expr ℕ start_step (Expr-F.Join at high low)

pub start-Parentheses : (at : ℕ) (body : Expr) → start_of (tree.Parentheses at body) ≡ at
start-Parentheses at body = ap start_of (sym (rolls-Parentheses at body)) ∙ fold-roll-Expr ℕ start_step (Expr-F.Parentheses at body)

pub start-Unary : (op : UnaryOperator) (at : ℕ) (operand : Expr) → start_of (tree.Unary op at operand) ≡ at
start-Unary op at operand = ap start_of (sym (rolls-Unary op at operand)) ∙ fold-roll-Expr ℕ start_step (Expr-F.Unary op at operand)

pub start-Binary : (op : BinaryOperator) (at : ℕ) (left right : Expr) → start_of (tree.Binary op at left right) ≡ start_of left
start-Binary op at left right = ap start_of (sym (rolls-Binary op at left right)) ∙ fold-roll-Expr ℕ start_step (Expr-F.Binary op at left right)

pub start-Slice : (operand : Expr) (at : ℕ) (high low : Expr) → start_of (tree.Slice operand at high low) ≡ start_of operand
start-Slice operand at high low = ap start_of (sym (rolls-Slice operand at high low)) ∙ fold-roll-Expr ℕ start_step (Expr-F.Slice operand at high low)

pub start-If : (at : ℕ) (condition one other : Expr) → start_of (tree.If at condition one other) ≡ at
start-If at condition one other = ap start_of (sym (rolls-If at condition one other)) ∙ fold-roll-Expr ℕ start_step (Expr-F.If at condition one other)

pub start-Let : (at : ℕ) (name : Name) (bound body : Expr) → start_of (tree.Let at name bound body) ≡ at
start-Let at name bound body = ap start_of (sym (rolls-Let at name bound body)) ∙ fold-roll-Expr ℕ start_step (Expr-F.Let at name bound body)

pub start-Cast : (operand : Expr) (at : ℕ) (target : TypeExpr Expr) → start_of (tree.Cast operand at target) ≡ start_of operand
start-Cast operand at (types.Sized kind place width) = ap start_of (sym (rolls-Cast operand at (types.Sized kind place width))) ∙ fold-roll-Expr ℕ start_step (Expr-F.Cast operand at (types.Sized kind place width))
start-Cast operand at (types.Bool place) = ap start_of (sym (rolls-Cast operand at (types.Bool place))) ∙ fold-roll-Expr ℕ start_step (Expr-F.Cast operand at (types.Bool place))
start-Cast operand at (types.Alias name) = ap start_of (sym (rolls-Cast operand at (types.Alias name))) ∙ fold-roll-Expr ℕ start_step (Expr-F.Cast operand at (types.Alias name))

pub ruleset start_steps = (start-Number, start-Name, start-Call, start-Access, start-Join, start-Parentheses, start-Unary, start-Binary, start-Slice, start-If, start-Let, start-Cast)
