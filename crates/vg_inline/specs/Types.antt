-- Types with everything in place of their names.
use Rattle.vg_ast.specs.declared.expr.Expr.{Expr}
use Rattle.vg_ast.specs.declared.type_expr.TypeExpr.{TypeExpr}
use Rattle.vg_ast.specs.declared.type_expr.TypeExpr.TheVariants as types
use Rattle.vg_ast.specs.declared.item.Item.{Item}
use Rattle.vg_ast.specs.declared.item.Item.TheVariants as items
use Rattle.std.specs.Prelude.{List, [], Option, Some}
use Rattle.vg_names.specs.Definition.{Text}
use Rattle.vg_names.specs.Worked.{worked}
use Rattle.vg_whole.specs.declared.worth.Worth.{Worth}
use Rattle.vg_whole.specs.Whole.{Constants, whole_of}
use Rattle.vg_inline.specs.declared.declared.Declared.{Declared}
use Rattle.vg_inline.specs.declared.declared.Declared.TheVariants as type

-- what aliases stand for
abbrev pub Aliases : Type 0
Aliases = Text → Declared

-- a type of which each width is made into what it is worth
abbrev pub type_worths : {E : Type 0} → (E → Worth) → TypeExpr E → TypeExpr Worth
type_worths worth (types.Sized kind at width) = types.Sized kind at (worth width)
type_worths worth (types.Bool at) = types.Bool at
type_worths worth (types.Alias name) = types.Alias name

-- a type where its width is worth this
abbrev pub type_of : Aliases → TypeExpr Worth → Declared
type_of aliases (types.Sized kind at width) = type.Sized kind width
type_of aliases (types.Bool at) = type.Bool
type_of aliases (types.Alias name) = aliases name.text

-- a type outside of expressions, where no inner name is in scope
abbrev pub declared_type : Constants → Aliases → TypeExpr Expr → Declared
declared_type constants aliases t = type_of aliases (type_worths (λ e. whole_of constants e []) t)

-- what the name of an item stands for in a type: that of an alias for its type, and any other for `Bool`
abbrev pub alias_step : Constants → Aliases → Option Item → Declared
alias_step constants aliases (Some (items.Using at name meaning)) = declared_type constants aliases meaning
alias_step constants aliases _ = type.Bool

-- what the aliases of these items stand for
abbrev pub aliases_of : List Item → Constants → Aliases
aliases_of all constants = worked all type.Bool (alias_step constants)
