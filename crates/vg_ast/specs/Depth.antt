-- The depth of a concrete tree. A leaf has depth 1. What has parts adds 1 over the deepest of them; the size of an
-- access, the bounds of a slice and the type of a cast are parts. An assignment and a type add nothing over theirs.
use Rattle.std.specs.Prelude.{ℕ, ◌+◌, max}
use Rattle.vg_ast.specs.Concrete.{Expr, number, variable, call, access, joined, parentheses, unary, binary, cast, slice, conditional, binding, Arguments, no_argument, arguments, MoreArguments, no_more, one_more, TypeTree, sized, bool, alias, Goal, whole, indexed, cells, Statement, block, local, when, choice, assign, Statements, no_statement, statements}

abbrev mutual
  pub depth : Expr → ℕ
  depth (number value at) = 1
  depth (variable n) = 1
  depth (call n opening given closing) = 1 + depth_arguments given
  depth (access n less size greater opening address closing) = 1 + max (depth size) (depth address)
  depth (joined at opening high comma low closing) = 1 + max (depth high) (depth low)
  depth (parentheses opening inner closing) = 1 + depth inner
  depth (unary op at operand) = 1 + depth operand
  depth (binary left op at right) = 1 + max (depth left) (depth right)
  depth (cast operand at target) = 1 + max (depth operand) (depth_type target)
  depth (slice operand opening high dots low closing) = 1 + max (depth operand) (max (depth high) (depth low))
  depth (conditional at condition at_then one at_else other) = 1 + max (depth condition) (max (depth one) (depth other))
  depth (binding at n equal bound at_in body) = 1 + max (depth bound) (depth body)

  -- of the deepest, 0 where there is none
  pub depth_arguments : Arguments → ℕ
  depth_arguments no_argument = 0
  depth_arguments (arguments first more) = max (depth first) (depth_more more)

  pub depth_more : MoreArguments → ℕ
  depth_more no_more = 0
  depth_more (one_more comma e more) = max (depth e) (depth_more more)

  pub depth_type : TypeTree → ℕ
  depth_type (sized kind at less width greater) = depth width
  depth_type (bool at) = 1
  depth_type (alias n) = 1

abbrev pub depth_goal : Goal → ℕ
depth_goal (whole n) = 1
depth_goal (indexed n opening index closing) = 1 + depth index
depth_goal (cells n less size greater opening address closing) = 1 + max (depth size) (depth address)

abbrev mutual
  pub depth_statement : Statement → ℕ
  depth_statement (block opening body closing) = 1 + depth_statements body
  depth_statement (local at n equal bound at_in body) = 1 + max (depth bound) (depth_statement body)
  depth_statement (when at condition at_then body) = 1 + max (depth condition) (depth_statement body)
  depth_statement (choice at condition at_then body at_else other) = 1 + max (depth condition) (max (depth_statement body) (depth_statement other))
  depth_statement (assign goal colon_equal value) = max (depth_goal goal) (depth value)

  pub depth_statements : Statements → ℕ
  depth_statements no_statement = 0
  depth_statements (statements first more) = max (depth_statement first) (depth_statements more)
