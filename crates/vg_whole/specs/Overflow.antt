-- The operators of a description that leave the whole numbers.
use Rattle.std.specs.Prelude.{ℕ, List, [], ◌∷◌, ◌++◌, map, Option, Some, None}
use Rattle.vg_ast.specs.declared.expr.Expr.{Expr}
use Rattle.vg_ast.specs.declared.type_expr.TypeExpr.{TypeExpr}
use Rattle.vg_ast.specs.declared.type_expr.TypeExpr.TheVariants as types
use Rattle.vg_ast.specs.declared.goal.Goal.{Goal}
use Rattle.vg_ast.specs.declared.goal.Goal.TheVariants as goals
use Rattle.vg_ast.specs.declared.statement.Statement.{Statement, fold-Statement}
use Rattle.vg_ast.specs.declared.statement.Statement.TheOpen.{Statement-F}
use Rattle.vg_ast.specs.declared.item.Item.{Item}
use Rattle.vg_ast.specs.declared.item.Item.TheVariants as items
use Rattle.vg_ast.specs.declared.parameter.Parameter.{Parameter}
use Rattle.vg_ast.specs.declared.range.Range.{Range}
use Rattle.vg_ast.specs.declared.field.Field.{Field}
use Rattle.vg_ast.specs.declared.fix.Fix.{Fix}
use Rattle.vg_ast.specs.declared.part.Part.{Part}
use Rattle.vg_ast.specs.declared.part.Part.TheVariants as parts
use Rattle.vg_ast.specs.declared.register.Register.{Register}
use Rattle.vg_ast.specs.declared.role.Role.{Role}
use Rattle.vg_ast.specs.declared.role.Role.TheVariants as roles
use Rattle.vg_ast.specs.declared.abi.Abi.{Abi}
use Rattle.vg_ast.specs.declared.desc.Desc.{Desc}
use Rattle.vg_names.specs.Definition.{Text, item_named, fields_of_format}
use Rattle.vg_names.specs.Unknown.{in_each}
use Rattle.vg_whole.specs.declared.worth.Worth.{Worth}
use Rattle.vg_whole.specs.declared.worth.Worth.TheVariants as worths
use Rattle.vg_whole.specs.Whole.{Inner, Constants, judged}

abbrev pub Places : Type 0
Places = Inner Worth → List ℕ

-- parameters and fields have types
abbrev pub typed_names : List Text → Inner Worth
typed_names names = map (λ text. (text, worths.Typed)) names

abbrev pub expression_overflows : Constants → Expr → Places
expression_overflows constants e inner = (judged constants e inner).places

abbrev pub type_overflows : Constants → TypeExpr Expr → Places
type_overflows constants (types.Sized kind at width) inner = expression_overflows constants width inner
type_overflows constants (types.Bool at) inner = []
type_overflows constants (types.Alias name) inner = []

abbrev pub goal_overflows : Constants → Goal → Places
goal_overflows constants (goals.Name name) inner = []
goal_overflows constants (goals.Indexed name index) inner = expression_overflows constants index inner
goal_overflows constants (goals.Access memory at size address) inner = expression_overflows constants size inner ++ expression_overflows constants address inner

abbrev pub all_of : List Places → Places
all_of [] inner = []
all_of (x ∷ xs) inner = x inner ++ all_of xs inner

abbrev pub else_places : Option Places → Places
else_places None inner = []
else_places (Some other) inner = other inner

-- one level of a statement, with its parts
abbrev pub statement_step : Constants → Statement-F Places → Places
statement_step constants (Statement-F.Block at body) inner = all_of body inner
statement_step constants (Statement-F.Let at name bound body) inner =
    expression_overflows constants bound inner ++ body ((name.text, (judged constants bound inner).worth) ∷ inner)
statement_step constants (Statement-F.If at condition body other) inner = expression_overflows constants condition inner ++ body inner ++ else_places other inner
statement_step constants (Statement-F.Assign goal assigned) inner = goal_overflows constants goal inner ++ expression_overflows constants assigned inner

abbrev pub statement_overflows : Constants → Statement → Places
statement_overflows constants s = fold-Statement Places (statement_step constants) s

abbrev pub optional_overflows : Constants → Option Expr → List ℕ
optional_overflows constants None = []
optional_overflows constants (Some e) = expression_overflows constants e []

abbrev pub range_overflows : Constants → Range → List ℕ
range_overflows constants range = expression_overflows constants range.high [] ++ optional_overflows constants range.low

abbrev pub part_overflows : Constants → Part → List ℕ
part_overflows constants (parts.Target at field shift) = expression_overflows constants shift []
part_overflows constants _ = []

abbrev pub item_overflows : List Item → Constants → Item → List ℕ
item_overflows all constants (items.Constant at name value) = expression_overflows constants value []
item_overflows all constants (items.Using at name meaning) = type_overflows constants meaning []
item_overflows all constants (items.Function at name parameters result body) =
    in_each (λ (parameter : Parameter). type_overflows constants parameter.declared []) parameters ++ type_overflows constants result []
    ++ expression_overflows constants body (typed_names (map (λ (parameter : Parameter). parameter.name.text) parameters))
item_overflows all constants (items.ProgramCounter at name declared) = type_overflows constants declared []
item_overflows all constants (items.Memory at name address cell) = type_overflows constants address [] ++ type_overflows constants cell []
item_overflows all constants (items.Register at name declared) = type_overflows constants declared []
item_overflows all constants (items.RegisterFile at name index declared zero) =
    type_overflows constants index [] ++ type_overflows constants declared [] ++ optional_overflows constants zero
item_overflows all constants (items.Format at name declared fields) =
    type_overflows constants declared [] ++ in_each (λ (field : Field). in_each (range_overflows constants) field.ranges) fields
item_overflows all constants (items.Instruction at name format behaviour) =
    statement_overflows constants behaviour (typed_names (fields_of_format (item_named all format.text)))
item_overflows all constants (items.Encoding at name fixes) = in_each (λ (fix : Fix). expression_overflows constants fix.value []) fixes
item_overflows all constants (items.Assembly at name row) = in_each (part_overflows constants) row

abbrev pub register_overflows : Constants → Register → List ℕ
register_overflows constants register = expression_overflows constants register.index []

abbrev pub role_overflows : Constants → Role → List ℕ
role_overflows constants (roles.StackPointer at register) = register_overflows constants register
role_overflows constants (roles.ReturnAddress at register) = register_overflows constants register
role_overflows constants (roles.ReturnValue at register) = register_overflows constants register
role_overflows constants (roles.Arguments at registers) = in_each (register_overflows constants) registers
role_overflows constants (roles.Temporaries at registers) = in_each (register_overflows constants) registers
role_overflows constants (roles.Saved at registers) = in_each (register_overflows constants) registers
role_overflows constants (roles.Code at base) = expression_overflows constants base []
role_overflows constants (roles.Data at base) = expression_overflows constants base []
role_overflows constants (roles.Stack at low high) = expression_overflows constants low [] ++ expression_overflows constants high []

abbrev pub abi_overflows : Constants → Option Abi → List ℕ
abi_overflows constants None = []
abi_overflows constants (Some abi) = in_each (role_overflows constants) abi.roles

-- the places of the operators that leave the whole numbers, in the order of the text
abbrev pub overflows : Desc → Constants → List ℕ
overflows d constants = in_each (item_overflows d.items constants) d.items ++ abi_overflows constants d.abi
