-- Which items say how wide the program counter and the formats are.
use Rattle.std.specs.Prelude.{Option, Some, None}
use Rattle.vg_ast.specs.declared.expr.Expr.{Expr}
use Rattle.vg_ast.specs.declared.type_expr.TypeExpr.{TypeExpr}
use Rattle.vg_ast.specs.declared.item.Item.{Item}
use Rattle.vg_ast.specs.declared.item.Item.TheVariants as items

-- the declared type of a program counter
abbrev pub counter_of : Item → Option (TypeExpr Expr)
counter_of (items.ProgramCounter at name given) = Some given
counter_of _ = None

-- the declared type of a format
abbrev pub format_of : Item → Option (TypeExpr Expr)
format_of (items.Format at name given fields) = Some given
format_of _ = None
