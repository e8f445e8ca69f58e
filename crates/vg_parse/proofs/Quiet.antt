-- No piece begins in an expression, a type or a statement, and what is open before one is open behind it.
use Rattle.std.proofs.Common.{ℕ, ◌+◌, ◌<◌, IsTrue, refl, arith}
use Rattle.vg_tok.specs.declared.token.Kind.TheVariants as kind
use Rattle.vg_tok.specs.declared.sign.Sign.TheVariants as signs
use Rattle.vg_tok.specs.declared.word.Word.TheVariants as words
use Rattle.vg_ast.specs.declared.operator.UnaryOperator.{UnaryOperator}
use Rattle.vg_ast.specs.declared.operator.UnaryOperator.TheVariants as unary_operator
use Rattle.vg_ast.specs.declared.operator.BinaryOperator.{BinaryOperator}
use Rattle.vg_ast.specs.declared.operator.BinaryOperator.TheVariants as binary_operator
use Rattle.vg_ast.specs.declared.type_expr.BitsKind.{BitsKind}
use Rattle.vg_ast.specs.declared.type_expr.BitsKind.TheVariants as bits_kind
use Rattle.vg_ast.specs.Placed.{sign, word, name}
use Rattle.vg_ast.specs.Placed as placed
use Rattle.vg_ast.specs.Operator.{unary_sign, binary_sign, kind_word}
use Rattle.vg_ast.specs.Concrete.{Expr, number, variable, call, access, joined, parentheses, unary, binary, cast, slice, conditional, binding, Arguments, no_argument, arguments, MoreArguments, no_more, one_more, TypeTree, sized, bool, alias, Goal, whole, indexed, cells, Statement, block, local, when, choice, assign, Statements, no_statement, statements}
use Rattle.vg_ast.specs.Spelling.{spelled, spelled_arguments, spelled_more, spelled_type, spelled_goal, spelled_statement, spelled_statements}
use Rattle.vg_ast.specs.Piece.{Depths}
use Rattle.vg_parse.proofs.Leading.{Leads, ◌⨾◌, nothing, is_plain, plain, inside, open_at, close_at, in_braces, open_brace_at, close_brace_at}

plain_unary : (op : UnaryOperator) → IsTrue (is_plain (kind.Sign (unary_sign op)))
plain_unary unary_operator.Complement = refl
plain_unary _ = refl

plain_binary : (op : BinaryOperator) → IsTrue (is_plain (kind.Sign (binary_sign op)))
plain_binary binary_operator.Or = refl
plain_binary _ = refl

plain_kind : (k : BitsKind) → IsTrue (is_plain (kind.Word (kind_word k)))
plain_kind bits_kind.Bits = refl
plain_kind _ = refl

mutual
  pub quiet : (e : Expr) (d : Depths) → Leads d (spelled e) d
  quiet (number value at) d = plain (placed.number value at) d refl
  quiet (variable n) d = plain (name n) d refl
  quiet (call n opening given closing) d = plain (name n) d refl ⨾ open_at opening d ⨾ quiet_arguments given (inside d) ⨾ close_at closing d
  quiet (access n less size greater opening address closing) d =
      plain (name n) d refl ⨾ plain (sign signs.Less less) d refl ⨾ quiet size d ⨾ plain (sign signs.Greater greater) d refl
      ⨾ open_at opening d ⨾ quiet address (inside d) ⨾ close_at closing d
  quiet (joined at opening high comma low closing) d =
      plain (word words.Join at) d refl ⨾ open_at opening d ⨾ quiet high (inside d) ⨾ plain (sign signs.Comma comma) (inside d) refl
      ⨾ quiet low (inside d) ⨾ close_at closing d
  quiet (parentheses opening inner closing) d = open_at opening d ⨾ quiet inner (inside d) ⨾ close_at closing d
  quiet (unary op at operand) d = plain (sign (unary_sign op) at) d (plain_unary op) ⨾ quiet operand d
  quiet (binary left op at right) d = quiet left d ⨾ plain (sign (binary_sign op) at) d (plain_binary op) ⨾ quiet right d
  quiet (cast operand at target) d = quiet operand d ⨾ plain (word words.As at) d refl ⨾ quiet_type target d
  quiet (slice operand opening high dots low closing) d =
      quiet operand d ⨾ plain (sign signs.OpenBracket opening) d refl ⨾ quiet high d ⨾ plain (sign signs.DotDot dots) d refl
      ⨾ quiet low d ⨾ plain (sign signs.CloseBracket closing) d refl
  quiet (conditional at condition at_then one at_else other) d =
      plain (word words.If at) d refl ⨾ quiet condition d ⨾ plain (word words.Then at_then) d refl ⨾ quiet one d
      ⨾ plain (word words.Else at_else) d refl ⨾ quiet other d
  quiet (binding at n equal bound at_in body) d =
      plain (word words.Let at) d refl ⨾ plain (name n) d refl ⨾ plain (sign signs.Equal equal) d refl ⨾ quiet bound d
      ⨾ plain (word words.In at_in) d refl ⨾ quiet body d

  pub quiet_arguments : (given : Arguments) (d : Depths) → Leads d (spelled_arguments given) d
  quiet_arguments no_argument d = nothing d
  quiet_arguments (arguments first more) d = quiet first d ⨾ quiet_more more d

  pub quiet_more : (more : MoreArguments) (d : Depths) → Leads d (spelled_more more) d
  quiet_more no_more d = nothing d
  quiet_more (one_more comma e more) d = plain (sign signs.Comma comma) d refl ⨾ quiet e d ⨾ quiet_more more d

  pub quiet_type : (t : TypeTree) (d : Depths) → Leads d (spelled_type t) d
  quiet_type (sized k at less width greater) d =
      plain (word (kind_word k) at) d (plain_kind k) ⨾ plain (sign signs.Less less) d refl ⨾ quiet width d ⨾ plain (sign signs.Greater greater) d refl
  quiet_type (bool at) d = plain (word words.Bool at) d refl
  quiet_type (alias n) d = plain (name n) d refl

pub quiet_goal : (goal : Goal) (d : Depths) → Leads d (spelled_goal goal) d
quiet_goal (whole n) d = plain (name n) d refl
quiet_goal (indexed n opening index closing) d = plain (name n) d refl ⨾ open_at opening d ⨾ quiet index (inside d) ⨾ close_at closing d
quiet_goal (cells n less size greater opening address closing) d =
    plain (name n) d refl ⨾ plain (sign signs.Less less) d refl ⨾ quiet size d ⨾ plain (sign signs.Greater greater) d refl
    ⨾ open_at opening d ⨾ quiet address (inside d) ⨾ close_at closing d

deeper : (n : ℕ) → 0 < n + 1
deeper n = omega arith

-- a block stands in the braces of a part
mutual
  pub quiet_statement : (s : Statement) (d : Depths) → 0 < d.braces → Leads d (spelled_statement s) d
  quiet_statement (block opening body closing) d h = open_brace_at opening d ⨾ quiet_statements body (in_braces d) (deeper d.braces) ⨾ close_brace_at closing d h
  quiet_statement (local at n equal bound at_in body) d h =
      plain (word words.Let at) d refl ⨾ plain (name n) d refl ⨾ plain (sign signs.Equal equal) d refl ⨾ quiet bound d
      ⨾ plain (word words.In at_in) d refl ⨾ quiet_statement body d h
  quiet_statement (when at condition at_then body) d h =
      plain (word words.If at) d refl ⨾ quiet condition d ⨾ plain (word words.Then at_then) d refl ⨾ quiet_statement body d h
  quiet_statement (choice at condition at_then body at_else other) d h =
      plain (word words.If at) d refl ⨾ quiet condition d ⨾ plain (word words.Then at_then) d refl ⨾ quiet_statement body d h
      ⨾ plain (word words.Else at_else) d refl ⨾ quiet_statement other d h
  quiet_statement (assign goal colon_equal value) d h = quiet_goal goal d ⨾ plain (sign signs.ColonEqual colon_equal) d refl ⨾ quiet value d

  pub quiet_statements : (ss : Statements) (d : Depths) → 0 < d.braces → Leads d (spelled_statements ss) d
  quiet_statements no_statement d h = nothing d
  quiet_statements (statements first more) d h = quiet_statement first d h ⨾ quiet_statements more d h
