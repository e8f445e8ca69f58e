-- Which names of items an item uses in what it defines.
use Rattle.std.specs.Prelude.{List, [], ◌∷◌, ◌++◌, map, if◌then◌else◌}
use Rattle.vg_ast.specs.declared.name.Name.{Name}
use Rattle.vg_ast.specs.declared.expr.Expr.{Expr, fold-Expr}
use Rattle.vg_ast.specs.declared.expr.Expr.TheOpen.{Expr-F}
use Rattle.vg_ast.specs.declared.type_expr.TypeExpr.{TypeExpr}
use Rattle.vg_ast.specs.declared.type_expr.TypeExpr.TheVariants as types
use Rattle.vg_ast.specs.declared.item.Item.{Item}
use Rattle.vg_ast.specs.declared.item.Item.TheVariants as items
use Rattle.vg_ast.specs.declared.parameter.Parameter.{Parameter}
use Rattle.vg_names.specs.Definition.{Text, is_among}

-- the names of a tree that no inner name hides, in the order of the text
abbrev pub Names : Type 0
Names = List Text → List Text

abbrev pub outer : Name → Names
outer name inner = if is_among name.text inner then [] else name.text ∷ []

abbrev pub all_of : List Names → Names
all_of [] inner = []
all_of (x ∷ xs) inner = x inner ++ all_of xs inner

abbrev pub type_names : TypeExpr Names → Names
type_names (types.Sized kind at width) inner = width inner
type_names (types.Bool at) inner = []
type_names (types.Alias name) inner = outer name inner

-- one level of an expression, with the names in its parts
abbrev pub names_step : Expr-F Names → Names
names_step (Expr-F.Number value at) inner = []
names_step (Expr-F.Name name) inner = outer name inner
names_step (Expr-F.Call name arguments) inner = outer name inner ++ all_of arguments inner
names_step (Expr-F.Access memory at size address) inner = outer memory inner ++ size inner ++ address inner
names_step (Expr-F.Join at high low) inner = high inner ++ low inner
names_step (Expr-F.Parentheses at body) inner = body inner
names_step (Expr-F.Unary op at operand) inner = operand inner
names_step (Expr-F.Binary op at left right) inner = left inner ++ right inner
names_step (Expr-F.Cast operand at target) inner = operand inner ++ type_names target inner
names_step (Expr-F.Slice operand at high low) inner = operand inner ++ high inner ++ low inner
names_step (Expr-F.If at condition one other) inner = condition inner ++ one inner ++ other inner
names_step (Expr-F.Let at name bound body) inner = bound inner ++ body (name.text ∷ inner)

abbrev pub expression_names : Expr → Names
expression_names e = fold-Expr Names names_step e

abbrev pub type_expr_names : TypeExpr Expr → Names
type_expr_names (types.Sized kind at width) inner = expression_names width inner
type_expr_names (types.Bool at) inner = []
type_expr_names (types.Alias name) inner = outer name inner

abbrev pub parameter_names : List Parameter → List Text
parameter_names [] = []
parameter_names (parameter ∷ more) = type_expr_names parameter.declared [] ++ parameter_names more

-- the names that a constant, an alias or a function uses in what it defines; nothing else is put in place of its name
abbrev pub uses_of : Item → List Text
uses_of (items.Constant at name value) = expression_names value []
uses_of (items.Using at name meaning) = type_expr_names meaning []
uses_of (items.Function at name parameters result body) =
    parameter_names parameters ++ type_expr_names result [] ++ expression_names body (map (λ (parameter : Parameter). parameter.name.text) parameters)
uses_of _ = []
