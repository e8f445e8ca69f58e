-- Which concrete trees are grouped as the grammar groups: an operand has at least the level that its operator wants,
-- and an `else` belongs to the nearest `if`.
use Rattle.std.specs.Prelude.{ℕ, Bool, true, false, not, ◌&&◌, nat_le}
use Rattle.vg_ast.specs.Operator.{operator_level, left_level, right_level, sum_level, cast_level, unary_level, slice_level, primary_level}
use Rattle.vg_ast.specs.Concrete.{Expr, number, variable, call, access, joined, parentheses, unary, binary, cast, slice, conditional, binding, Arguments, no_argument, arguments, MoreArguments, no_more, one_more, TypeTree, sized, bool, alias, Goal, whole, indexed, cells, Statement, block, local, when, choice, assign, Statements, no_statement, statements}

abbrev pub level : Expr → ℕ
level (number value at) = primary_level
level (variable n) = primary_level
level (call n opening given closing) = primary_level
level (access n less size greater opening address closing) = primary_level
level (joined at opening high comma low closing) = primary_level
level (parentheses opening inner closing) = primary_level
level (unary op at operand) = unary_level
level (binary left op at right) = operator_level op
level (cast operand at target) = cast_level
level (slice operand opening high dots low closing) = slice_level
level (conditional at condition at_then one at_else other) = 0
level (binding at n equal bound at_in body) = 0

abbrev mutual
  pub is_grouped : Expr → Bool
  is_grouped (number value at) = true
  is_grouped (variable n) = true
  is_grouped (call n opening given closing) = are_grouped given
  is_grouped (access n less size greater opening address closing) = is_grouped size && nat_le sum_level (level size) && is_grouped address
  is_grouped (joined at opening high comma low closing) = is_grouped high && is_grouped low
  is_grouped (parentheses opening inner closing) = is_grouped inner
  is_grouped (unary op at operand) = is_grouped operand && nat_le unary_level (level operand)
  is_grouped (binary left op at right) = is_grouped left && nat_le (left_level op) (level left) && is_grouped right && nat_le (right_level op) (level right)
  is_grouped (cast operand at target) = is_grouped operand && nat_le cast_level (level operand) && is_grouped_type target
  is_grouped (slice operand opening high dots low closing) = is_grouped operand && nat_le slice_level (level operand) && is_grouped high && is_grouped low
  is_grouped (conditional at condition at_then one at_else other) = is_grouped condition && is_grouped one && is_grouped other
  is_grouped (binding at n equal bound at_in body) = is_grouped bound && is_grouped body

  pub are_grouped : Arguments → Bool
  are_grouped no_argument = true
  are_grouped (arguments first more) = is_grouped first && are_more_grouped more

  pub are_more_grouped : MoreArguments → Bool
  are_more_grouped no_more = true
  are_more_grouped (one_more comma e more) = is_grouped e && are_more_grouped more

  pub is_grouped_type : TypeTree → Bool
  is_grouped_type (sized kind at less width greater) = is_grouped width && nat_le sum_level (level width)
  is_grouped_type (bool at) = true
  is_grouped_type (alias n) = true

abbrev pub is_grouped_goal : Goal → Bool
is_grouped_goal (whole n) = true
is_grouped_goal (indexed n opening index closing) = is_grouped index
is_grouped_goal (cells n less size greater opening address closing) = is_grouped size && nat_le sum_level (level size) && is_grouped address

-- a statement that ends with an `if` without `else`, to which an `else` behind it would belong
abbrev pub ends_open : Statement → Bool
ends_open (block opening body closing) = false
ends_open (local at n equal bound at_in body) = ends_open body
ends_open (when at condition at_then body) = true
ends_open (choice at condition at_then body at_else other) = ends_open other
ends_open (assign goal colon_equal value) = false

abbrev mutual
  pub is_grouped_statement : Statement → Bool
  is_grouped_statement (block opening body closing) = are_grouped_statements body
  is_grouped_statement (local at n equal bound at_in body) = is_grouped bound && is_grouped_statement body
  is_grouped_statement (when at condition at_then body) = is_grouped condition && is_grouped_statement body
  is_grouped_statement (choice at condition at_then body at_else other) =
      is_grouped condition && is_grouped_statement body && not (ends_open body) && is_grouped_statement other
  is_grouped_statement (assign goal colon_equal value) = is_grouped_goal goal && is_grouped value

  pub are_grouped_statements : Statements → Bool
  are_grouped_statements no_statement = true
  are_grouped_statements (statements first more) = is_grouped_statement first && are_grouped_statements more
