-- Reading statements from the front of a list of tokens. The reader of a statement in a part of another is a parameter.
use Rattle.std.specs.Prelude.{ℕ, zero, suc, ◌+◌, max, nat_lt, List, [], ◌∷◌, ◌++◌, length, Option, Some, None, if◌then◌else◌}
use Rattle.vg_tok.specs.declared.sign.Sign.TheVariants as signs
use Rattle.vg_tok.specs.declared.word.Word.TheVariants as words
use Rattle.vg_ast.specs.declared.name.Name.{Name}
use Rattle.vg_ast.specs.declared.goal.Goal.{Goal}
use Rattle.vg_ast.specs.declared.goal.Goal.TheVariants as goals
use Rattle.vg_ast.specs.declared.statement.Statement.{Statement}
use Rattle.vg_ast.specs.declared.statement.Statement.TheVariants as statements
use Rattle.vg_ast.specs.Placed.{Placed}
use Rattle.vg_ast.specs.Operator.{sum_level}
use Rattle.vg_parse_expr.specs.declared.operand.Operand.{Operand}
use Rattle.vg_parse_expr.specs.Lexeme.{◌>>=◌, begins_with, begins_with_word, sign_at, word_at, name_at}
use Rattle.vg_parse_expr.specs.Reading.{most_depth, expression}
use Rattle.vg_parse_item.specs.declared.sized.SizedStatement.{SizedStatement}
use Rattle.vg_parse_item.specs.declared.sized.SizedGoal.{SizedGoal}
use Rattle.vg_parse_item.specs.ReadingRow.{Reader}

-- Goals.

-- a goal over parts of this depth, where it isn't too deep
abbrev pub goal_over : Goal → ℕ → List Placed → Option (SizedGoal × List Placed)
goal_over tree parts rest = if nat_lt parts most_depth then Some (record { tree = tree; depth = 1 + parts }, rest) else None

-- behind the `(` of a register of a register file
unfoldable pub indexed_at : Name → Reader SizedGoal
indexed_at name ts = do
  index ← expression 0 ts
  closing ← sign_at signs.CloseParenthesis index.1
  goal_over (goals.Indexed name index.0.tree) index.0.depth closing.1

-- behind the `<` of bytes of memory, which stands at the place less
unfoldable pub cells_at : Name → ℕ → Reader SizedGoal
cells_at name less ts = do
  size ← expression sum_level ts
  greater ← sign_at signs.Greater size.1
  opening ← sign_at signs.OpenParenthesis greater.1
  address ← expression 0 opening.1
  closing ← sign_at signs.CloseParenthesis address.1
  goal_over (goals.Access name less size.0.tree address.0.tree) (max size.0.depth address.0.depth) closing.1

-- behind the name of a goal
unfoldable pub goal_behind : Name → Reader SizedGoal
goal_behind name ts =
    if begins_with signs.OpenParenthesis ts then (sign_at signs.OpenParenthesis ts >>= λ opening. indexed_at name opening.1)
    else (if begins_with signs.Less ts then (sign_at signs.Less ts >>= λ less. cells_at name less.0 less.1)
    else Some (record { tree = goals.Name name; depth = 1 }, ts))

unfoldable pub goal_at : Reader SizedGoal
goal_at ts = name_at ts >>= λ name. goal_behind name.0 name.1

-- Statements.

-- a statement over parts of this depth, where it isn't too deep
abbrev pub statement_over : Statement → ℕ → List Placed → Option (SizedStatement × List Placed)
statement_over tree parts rest = if nat_lt parts most_depth then Some (record { tree = tree; depth = 1 + parts }, rest) else None

unfoldable pub assign_at : Reader SizedStatement
assign_at ts = do
  goal ← goal_at ts
  colon_equal ← sign_at signs.ColonEqual goal.1
  value ← expression 0 colon_equal.1
  Some (record { tree = statements.Assign goal.0.tree value.0.tree; depth = max goal.0.depth value.0.depth }, value.1)

-- The statements of a block up to the `}` behind them: those in front are read, and none of them is deeper than deepest.
-- The fuel is at least the number of tokens.
unfoldable pub statements_at : ℕ → Reader SizedStatement → List Statement → ℕ → Reader (List Statement × ℕ)
statements_at zero read front deepest ts = None
statements_at (suc fuel) read front deepest ts =
    if begins_with signs.CloseBrace ts then (sign_at signs.CloseBrace ts >>= λ closing. Some ((front, deepest), closing.1))
    else (read ts >>= λ found. statements_at fuel read (front ++ found.0.tree ∷ []) (max deepest found.0.depth) found.1)

-- behind the `{` of a block
unfoldable pub block_at : Reader SizedStatement → ℕ → Reader SizedStatement
block_at read at ts = statements_at (length ts) read [] 0 ts >>= λ found. statement_over (statements.Block at found.0.0) found.0.1 found.1

-- behind the word `let`
unfoldable pub local_at : Reader SizedStatement → ℕ → Reader SizedStatement
local_at read at ts = do
  name ← name_at ts
  equal ← sign_at signs.Equal name.1
  bound ← expression 0 equal.1
  body_word ← word_at words.In bound.1
  body ← read body_word.1
  statement_over (statements.Let at name.0 bound.0.tree body.0.tree) (max bound.0.depth body.0.depth) body.1

-- behind the first branch of an `if`: an `else` here is its own
unfoldable pub otherwise_at : Reader SizedStatement → ℕ → Operand → SizedStatement → Reader SizedStatement
otherwise_at read at condition body ts =
    if begins_with_word words.Else ts
    then (word_at words.Else ts >>= λ other_word. read other_word.1 >>= λ other.
    statement_over (statements.If at condition.tree body.tree (Some other.0.tree)) (max condition.depth (max body.depth other.0.depth)) other.1)
    else statement_over (statements.If at condition.tree body.tree None) (max condition.depth body.depth) ts

-- behind the word `if`
unfoldable pub conditional_at : Reader SizedStatement → ℕ → Reader SizedStatement
conditional_at read at ts = do
  condition ← expression 0 ts
  body_word ← word_at words.Then condition.1
  body ← read body_word.1
  otherwise_at read at condition.0 body.0 body.1

unfoldable pub statement_by : Reader SizedStatement → Reader SizedStatement
statement_by read ts =
    if begins_with signs.OpenBrace ts then (sign_at signs.OpenBrace ts >>= λ opening. block_at read opening.0 opening.1)
    else (if begins_with_word words.Let ts then (word_at words.Let ts >>= λ at. local_at read at.0 at.1)
    else (if begins_with_word words.If ts then (word_at words.If ts >>= λ at. conditional_at read at.0 at.1)
    else assign_at ts))

-- a statement in which no more readings than the fuel stand in one another
unfoldable pub statement_within : ℕ → Reader SizedStatement
statement_within zero ts = None
statement_within (suc fuel) ts = statement_by (statement_within fuel) ts

-- a statement that the tokens begin with
abbrev pub statement : Reader SizedStatement
statement ts = statement_within most_depth ts
