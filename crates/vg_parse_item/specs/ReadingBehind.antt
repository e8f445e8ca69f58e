-- The ends of long rules, each behind what its parameters name.
use Rattle.std.specs.Prelude.{ℕ, max, List, Some}
use Rattle.vg_tok.specs.declared.sign.Sign.TheVariants as signs
use Rattle.vg_ast.specs.declared.name.Name.{Name}
use Rattle.vg_ast.specs.declared.expr.Expr.{Expr}
use Rattle.vg_ast.specs.declared.type_expr.TypeExpr.{TypeExpr}
use Rattle.vg_ast.specs.declared.parameter.Parameter.{Parameter}
use Rattle.vg_ast.specs.declared.field.Field.{Field}
use Rattle.vg_ast.specs.declared.goal.Goal.TheVariants as goals
use Rattle.vg_ast.specs.declared.item.Item.{Item}
use Rattle.vg_ast.specs.declared.item.Item.TheVariants as items
use Rattle.vg_parse_expr.specs.declared.operand.Operand.{Operand}
use Rattle.vg_parse_expr.specs.Lexeme.{◌>>=◌, sign_at}
use Rattle.vg_parse_expr.specs.Reading.{expression, type_expr}
use Rattle.vg_parse_item.specs.declared.sized.SizedGoal.{SizedGoal}
use Rattle.vg_parse_item.specs.ReadingRow.{Reader, row_at}
use Rattle.vg_parse_item.specs.ReadingStatement.{goal_over}
use Rattle.vg_parse_item.specs.ReadingItem.{field_at, zero_at}

-- bytes of memory, behind the `(` of their address
unfoldable pub address_behind : Name → ℕ → Operand → Reader SizedGoal
address_behind name less size ts = do
  address ← expression 0 ts
  closing ← sign_at signs.CloseParenthesis address.1
  goal_over (goals.Access name less size.tree address.0.tree) (max size.depth address.0.depth) closing.1

-- a function behind its parameters, and behind its result
unfoldable pub body_behind : ℕ → Name → List Parameter → TypeExpr Expr → Reader Item
body_behind at name parameters result ts = do
  equal ← sign_at signs.Equal ts
  body ← expression 0 equal.1
  Some (items.Function at name parameters result body.0.tree, body.1)

unfoldable pub result_behind : ℕ → Name → List Parameter → Reader Item
result_behind at name parameters ts = do
  arrow ← sign_at signs.Arrow ts
  result ← type_expr arrow.1
  body_behind at name parameters result.0.tree result.1

-- a memory behind the type of its addresses
unfoldable pub cell_behind : ℕ → Name → TypeExpr Expr → Reader Item
cell_behind at name address ts = do
  arrow ← sign_at signs.Arrow ts
  cell ← type_expr arrow.1
  Some (items.Memory at name address cell.0.tree, cell.1)

-- a register file behind the type of its indices
unfoldable pub registers_behind : ℕ → Name → TypeExpr Expr → Reader Item
registers_behind at name index ts = do
  arrow ← sign_at signs.Arrow ts
  declared ← type_expr arrow.1
  zero ← zero_at declared.1
  Some (items.RegisterFile at name index declared.0.tree zero.0, zero.1)

-- the fields of a format, in their braces
unfoldable pub fields_at : Reader (List Field)
fields_at ts = do
  equal ← sign_at signs.Equal ts
  opening ← sign_at signs.OpenBrace equal.1
  fields ← row_at field_at opening.1
  closing ← sign_at signs.CloseBrace fields.1
  Some (fields.0, closing.1)

-- a format behind its type
unfoldable pub fields_behind : ℕ → Name → TypeExpr Expr → Reader Item
fields_behind at name declared ts = do
  fields ← fields_at ts
  Some (items.Format at name declared fields.0, fields.1)
