-- The tree that a concrete tree stands for: the places of most signs and reserved words are left out.
use Rattle.std.specs.Prelude.{List, [], ◌∷◌, None, Some}
use Rattle.vg_ast.specs.declared.expr.Expr.{Expr}
use Rattle.vg_ast.specs.declared.expr.Expr.TheVariants as tree
use Rattle.vg_ast.specs.declared.type_expr.TypeExpr.{TypeExpr}
use Rattle.vg_ast.specs.declared.type_expr.TypeExpr.TheVariants.{Sized, Bool, Alias}
use Rattle.vg_ast.specs.declared.goal.Goal.{Goal}
use Rattle.vg_ast.specs.declared.goal.Goal.TheVariants as goals
use Rattle.vg_ast.specs.declared.statement.Statement.{Statement}
use Rattle.vg_ast.specs.declared.statement.Statement.TheVariants as statements
use Rattle.vg_ast.specs.Concrete as concrete

abbrev mutual
  pub tree_of : concrete.Expr → Expr
  tree_of (concrete.number value at) = tree.Number value at
  tree_of (concrete.variable n) = tree.Name n
  tree_of (concrete.call n opening given closing) = tree.Call n (trees_of given)
  tree_of (concrete.access n less size greater opening address closing) = tree.Access n less (tree_of size) (tree_of address)
  tree_of (concrete.joined at opening high comma low closing) = tree.Join at (tree_of high) (tree_of low)
  tree_of (concrete.parentheses opening inner closing) = tree.Parentheses opening (tree_of inner)
  tree_of (concrete.unary op at operand) = tree.Unary op at (tree_of operand)
  tree_of (concrete.binary left op at right) = tree.Binary op at (tree_of left) (tree_of right)
  tree_of (concrete.cast operand at target) = tree.Cast (tree_of operand) at (type_of target)
  tree_of (concrete.slice operand opening high dots low closing) = tree.Slice (tree_of operand) opening (tree_of high) (tree_of low)
  tree_of (concrete.conditional at condition at_then one at_else other) = tree.If at (tree_of condition) (tree_of one) (tree_of other)
  tree_of (concrete.binding at n equal bound at_in body) = tree.Let at n (tree_of bound) (tree_of body)

  pub trees_of : concrete.Arguments → List Expr
  trees_of concrete.no_argument = []
  trees_of (concrete.arguments first more) = tree_of first ∷ more_of more

  pub more_of : concrete.MoreArguments → List Expr
  more_of concrete.no_more = []
  more_of (concrete.one_more comma e more) = tree_of e ∷ more_of more

  pub type_of : concrete.TypeTree → TypeExpr Expr
  type_of (concrete.sized kind at less width greater) = Sized kind at (tree_of width)
  type_of (concrete.bool at) = Bool at
  type_of (concrete.alias n) = Alias n

abbrev pub goal_of : concrete.Goal → Goal
goal_of (concrete.whole n) = goals.Name n
goal_of (concrete.indexed n opening index closing) = goals.Indexed n (tree_of index)
goal_of (concrete.cells n less size greater opening address closing) = goals.Access n less (tree_of size) (tree_of address)

abbrev mutual
  pub statement_of : concrete.Statement → Statement
  statement_of (concrete.block opening body closing) = statements.Block opening (statements_of body)
  statement_of (concrete.local at n equal bound at_in body) = statements.Let at n (tree_of bound) (statement_of body)
  statement_of (concrete.when at condition at_then body) = statements.If at (tree_of condition) (statement_of body) None
  statement_of (concrete.choice at condition at_then body at_else other) = statements.If at (tree_of condition) (statement_of body) (Some (statement_of other))
  statement_of (concrete.assign goal colon_equal value) = statements.Assign (goal_of goal) (tree_of value)

  pub statements_of : concrete.Statements → List Statement
  statements_of concrete.no_statement = []
  statements_of (concrete.statements first more) = statement_of first ∷ statements_of more
