-- The tokens that a concrete tree spells, with other tokens behind them: a line for each alternative of the grammar.
use Rattle.std.specs.Prelude.{List, ◌∷◌}
use Rattle.vg_tok.specs.declared.sign.Sign.TheVariants as signs
use Rattle.vg_tok.specs.declared.word.Word.TheVariants as words
use Rattle.vg_ast.specs.Placed.{Placed, sign, word, name}
use Rattle.vg_ast.specs.Placed as placed
use Rattle.vg_ast.specs.Operator.{unary_sign, binary_sign, kind_word}
use Rattle.vg_ast.specs.Concrete.{Expr, number, variable, call, access, joined, parentheses, unary, binary, cast, slice, conditional, binding, Arguments, no_argument, arguments, MoreArguments, no_more, one_more, TypeTree, sized, bool, alias, Goal, whole, indexed, cells, Statement, block, local, when, choice, assign, Statements, no_statement, statements}

abbrev mutual
  pub spelled : Expr → List Placed → List Placed
  spelled (number value at) ts = placed.number value at ∷ ts
  spelled (variable n) ts = name n ∷ ts
  spelled (call n opening given closing) ts = name n ∷ sign signs.OpenParenthesis opening ∷ spelled_arguments given (sign signs.CloseParenthesis closing ∷ ts)
  spelled (access n less size greater opening address closing) ts =
      name n ∷ sign signs.Less less ∷ spelled size (sign signs.Greater greater ∷ sign signs.OpenParenthesis opening ∷ spelled address (sign signs.CloseParenthesis closing ∷ ts))
  spelled (joined at opening high comma low closing) ts =
      word words.Join at ∷ sign signs.OpenParenthesis opening ∷ spelled high (sign signs.Comma comma ∷ spelled low (sign signs.CloseParenthesis closing ∷ ts))
  spelled (parentheses opening inner closing) ts = sign signs.OpenParenthesis opening ∷ spelled inner (sign signs.CloseParenthesis closing ∷ ts)
  spelled (unary op at operand) ts = sign (unary_sign op) at ∷ spelled operand ts
  spelled (binary left op at right) ts = spelled left (sign (binary_sign op) at ∷ spelled right ts)
  spelled (cast operand at target) ts = spelled operand (word words.As at ∷ spelled_type target ts)
  spelled (slice operand opening high dots low closing) ts =
      spelled operand (sign signs.OpenBracket opening ∷ spelled high (sign signs.DotDot dots ∷ spelled low (sign signs.CloseBracket closing ∷ ts)))
  spelled (conditional at condition at_then one at_else other) ts =
      word words.If at ∷ spelled condition (word words.Then at_then ∷ spelled one (word words.Else at_else ∷ spelled other ts))
  spelled (binding at n equal bound at_in body) ts =
      word words.Let at ∷ name n ∷ sign signs.Equal equal ∷ spelled bound (word words.In at_in ∷ spelled body ts)

  pub spelled_arguments : Arguments → List Placed → List Placed
  spelled_arguments no_argument ts = ts
  spelled_arguments (arguments first more) ts = spelled first (spelled_more more ts)

  pub spelled_more : MoreArguments → List Placed → List Placed
  spelled_more no_more ts = ts
  spelled_more (one_more comma e more) ts = sign signs.Comma comma ∷ spelled e (spelled_more more ts)

  pub spelled_type : TypeTree → List Placed → List Placed
  spelled_type (sized kind at less width greater) ts = word (kind_word kind) at ∷ sign signs.Less less ∷ spelled width (sign signs.Greater greater ∷ ts)
  spelled_type (bool at) ts = word words.Bool at ∷ ts
  spelled_type (alias n) ts = name n ∷ ts

abbrev pub spelled_goal : Goal → List Placed → List Placed
spelled_goal (whole n) ts = name n ∷ ts
spelled_goal (indexed n opening index closing) ts = name n ∷ sign signs.OpenParenthesis opening ∷ spelled index (sign signs.CloseParenthesis closing ∷ ts)
spelled_goal (cells n less size greater opening address closing) ts =
    name n ∷ sign signs.Less less ∷ spelled size (sign signs.Greater greater ∷ sign signs.OpenParenthesis opening ∷ spelled address (sign signs.CloseParenthesis closing ∷ ts))

abbrev mutual
  pub spelled_statement : Statement → List Placed → List Placed
  spelled_statement (block opening body closing) ts = sign signs.OpenBrace opening ∷ spelled_statements body (sign signs.CloseBrace closing ∷ ts)
  spelled_statement (local at n equal bound at_in body) ts =
      word words.Let at ∷ name n ∷ sign signs.Equal equal ∷ spelled bound (word words.In at_in ∷ spelled_statement body ts)
  spelled_statement (when at condition at_then body) ts = word words.If at ∷ spelled condition (word words.Then at_then ∷ spelled_statement body ts)
  spelled_statement (choice at condition at_then body at_else other) ts =
      word words.If at ∷ spelled condition (word words.Then at_then ∷ spelled_statement body (word words.Else at_else ∷ spelled_statement other ts))
  spelled_statement (assign goal colon_equal value) ts = spelled_goal goal (sign signs.ColonEqual colon_equal ∷ spelled value ts)

  pub spelled_statements : Statements → List Placed → List Placed
  spelled_statements no_statement ts = ts
  spelled_statements (statements first more) ts = spelled_statement first (spelled_statements more ts)
