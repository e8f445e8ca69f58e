-- Names that are used where their scope doesn't define them as what the place asks for, and things that are lacking.
use Rattle.std.specs.Prelude.{ℕ, Bool, true, false, not, ◌&&◌, ◌||◌, List, [], ◌∷◌, ◌++◌, map, Option, Some, None, if◌then◌else◌}
use Rattle.std.specs.Str.{bytes_eq}
use Rattle.std.specs.List.{list_any}
use Rattle.vg_ast.specs.declared.name.Name.{Name}
use Rattle.vg_ast.specs.declared.expr.Expr.{Expr, fold-Expr}
use Rattle.vg_ast.specs.declared.expr.Expr.TheOpen.{Expr-F}
use Rattle.vg_ast.specs.declared.type_expr.TypeExpr.{TypeExpr}
use Rattle.vg_ast.specs.declared.type_expr.TypeExpr.TheVariants as types
use Rattle.vg_ast.specs.declared.goal.Goal.{Goal}
use Rattle.vg_ast.specs.declared.goal.Goal.TheVariants as goals
use Rattle.vg_ast.specs.declared.statement.Statement.{Statement, fold-Statement}
use Rattle.vg_ast.specs.declared.statement.Statement.TheOpen.{Statement-F}
use Rattle.vg_ast.specs.declared.item.Item.{Item}
use Rattle.vg_ast.specs.declared.item.Item.TheVariants as items
use Rattle.vg_ast.specs.declared.parameter.Parameter.{Parameter}
use Rattle.vg_ast.specs.declared.range.Range.{Range}
use Rattle.vg_ast.specs.declared.field.Field.{Field}
use Rattle.vg_ast.specs.declared.fix.Fix.{Fix}
use Rattle.vg_ast.specs.declared.part.Part.{Part}
use Rattle.vg_ast.specs.declared.part.Part.TheVariants as parts
use Rattle.vg_ast.specs.declared.register.Register.{Register}
use Rattle.vg_ast.specs.declared.role.Role.{Role}
use Rattle.vg_ast.specs.declared.role.Role.TheVariants as roles
use Rattle.vg_ast.specs.declared.act.Act.{Act}
use Rattle.vg_ast.specs.declared.act.Act.TheVariants as acts
use Rattle.vg_ast.specs.declared.micro_item.MicroItem.{MicroItem}
use Rattle.vg_ast.specs.declared.micro_item.MicroItem.TheVariants as lines
use Rattle.vg_ast.specs.declared.abi.Abi.{Abi}
use Rattle.vg_ast.specs.declared.micro.Micro.{Micro}
use Rattle.vg_ast.specs.declared.desc.Desc.{Desc}
use Rattle.vg_names.specs.declared.meaning.Meaning.{Meaning}
use Rattle.vg_names.specs.declared.meaning.Meaning.TheVariants as meanings
use Rattle.vg_names.specs.Definition.{Text, meaning_in, item_named, fields_of_format, fields_of, is_among}

-- What a place asks of a name.

abbrev pub is_value : Meaning → Bool
is_value meanings.Constant = true
is_value meanings.ProgramCounter = true
is_value meanings.Register = true
is_value _ = false

-- what may be called: a function, or a register file with an index
abbrev pub is_callable : Meaning → Bool
is_callable meanings.Function = true
is_callable meanings.RegisterFile = true
is_callable _ = false

abbrev pub is_alias : Meaning → Bool
is_alias meanings.Alias = true
is_alias _ = false

abbrev pub is_memory : Meaning → Bool
is_memory meanings.Memory = true
is_memory _ = false

abbrev pub is_register_file : Meaning → Bool
is_register_file meanings.RegisterFile = true
is_register_file _ = false

-- what may be written without an index
abbrev pub is_single_goal : Meaning → Bool
is_single_goal meanings.ProgramCounter = true
is_single_goal meanings.Register = true
is_single_goal _ = false

abbrev pub is_format : Meaning → Bool
is_format meanings.Format = true
is_format _ = false

abbrev pub is_instruction : Meaning → Bool
is_instruction meanings.Instruction = true
is_instruction _ = false

-- what a stage may read and write, and forward
abbrev pub is_resource : Meaning → Bool
is_resource meanings.Memory = true
is_resource meanings.Register = true
is_resource meanings.RegisterFile = true
is_resource _ = false

abbrev pub is_right : (Meaning → Bool) → Option Meaning → Bool
is_right asked None = false
is_right asked (Some meaning) = asked meaning

-- the place of a name, where the test fails
abbrev pub unless : Bool → Name → List ℕ
unless test name = if test then [] else name.at ∷ []

-- The places of unknown names in a tree, in the order of the text, where the items are all items, and the inner names
-- hide outer ones: those of `let`, and the parameters or fields that are in scope.

abbrev pub global : List Item → List Text → (Meaning → Bool) → Name → List ℕ
global all inner asked name = unless (not (is_among name.text inner) && is_right asked (meaning_in all name.text)) name

-- a value: an inner name, or an item that may be named as one
abbrev pub value : List Item → List Text → Name → List ℕ
value all inner name = unless (is_among name.text inner || is_right is_value (meaning_in all name.text)) name

abbrev pub Places : Type 0
Places = List Text → List ℕ

abbrev pub all_of : List Places → Places
all_of [] inner = []
all_of (x ∷ xs) inner = x inner ++ all_of xs inner

abbrev pub type_places : List Item → TypeExpr Places → Places
type_places all (types.Sized kind at width) inner = width inner
type_places all (types.Bool at) inner = []
type_places all (types.Alias name) inner = global all inner is_alias name

-- one level of an expression, with the places in its parts
abbrev pub expression_step : List Item → Expr-F Places → Places
expression_step all (Expr-F.Number value at) inner = []
expression_step all (Expr-F.Name name) inner = value all inner name
expression_step all (Expr-F.Call name arguments) inner = global all inner is_callable name ++ all_of arguments inner
expression_step all (Expr-F.Access memory at size address) inner = global all inner is_memory memory ++ size inner ++ address inner
expression_step all (Expr-F.Join at high low) inner = high inner ++ low inner
expression_step all (Expr-F.Parentheses at body) inner = body inner
expression_step all (Expr-F.Unary op at operand) inner = operand inner
expression_step all (Expr-F.Binary op at left right) inner = left inner ++ right inner
expression_step all (Expr-F.Cast operand at target) inner = operand inner ++ type_places all target inner
expression_step all (Expr-F.Slice operand at high low) inner = operand inner ++ high inner ++ low inner
expression_step all (Expr-F.If at condition one other) inner = condition inner ++ one inner ++ other inner
expression_step all (Expr-F.Let at name bound body) inner = bound inner ++ body (name.text ∷ inner)

abbrev pub expression_unknowns : List Item → Expr → Places
expression_unknowns all e = fold-Expr Places (expression_step all) e

abbrev pub type_unknowns : List Item → TypeExpr Expr → Places
type_unknowns all (types.Sized kind at width) inner = expression_unknowns all width inner
type_unknowns all (types.Bool at) inner = []
type_unknowns all (types.Alias name) inner = global all inner is_alias name

abbrev pub goal_unknowns : List Item → Goal → Places
goal_unknowns all (goals.Name name) inner = global all inner is_single_goal name
goal_unknowns all (goals.Indexed name index) inner = global all inner is_register_file name ++ expression_unknowns all index inner
goal_unknowns all (goals.Access memory at size address) inner =
    global all inner is_memory memory ++ expression_unknowns all size inner ++ expression_unknowns all address inner

abbrev pub else_places : Option Places → Places
else_places None inner = []
else_places (Some other) inner = other inner

-- one level of a statement, with the places in its parts
abbrev pub statement_step : List Item → Statement-F Places → Places
statement_step all (Statement-F.Block at body) inner = all_of body inner
statement_step all (Statement-F.Let at name bound body) inner = expression_unknowns all bound inner ++ body (name.text ∷ inner)
statement_step all (Statement-F.If at condition body other) inner = expression_unknowns all condition inner ++ body inner ++ else_places other inner
statement_step all (Statement-F.Assign goal assigned) inner = goal_unknowns all goal inner ++ expression_unknowns all assigned inner

abbrev pub statement_unknowns : List Item → Statement → Places
statement_unknowns all s = fold-Statement Places (statement_step all) s

abbrev pub optional_unknowns : List Item → Option Expr → List ℕ
optional_unknowns all None = []
optional_unknowns all (Some e) = expression_unknowns all e []

-- the places in each of a list, one behind the other
abbrev pub in_each : {X : Type 0} → (X → List ℕ) → List X → List ℕ
in_each places [] = []
in_each places (x ∷ xs) = places x ++ in_each places xs

abbrev pub range_unknowns : List Item → Range → List ℕ
range_unknowns all range = expression_unknowns all range.high [] ++ optional_unknowns all range.low

-- a name at a place that asks for a field
abbrev pub field_use : List Text → Name → List ℕ
field_use fields name = unless (is_among name.text fields) name

abbrev pub fix_unknowns : List Item → List Text → Fix → List ℕ
fix_unknowns all fields fix = field_use fields fix.name ++ expression_unknowns all fix.value []

abbrev pub part_unknowns : List Item → List Text → Part → List ℕ
part_unknowns all fields (parts.Text at text) = []
part_unknowns all fields (parts.Mnemonic at) = []
part_unknowns all fields (parts.Register at file field) = global all [] is_register_file file ++ field_use fields field
part_unknowns all fields (parts.Number format at field) = field_use fields field
part_unknowns all fields (parts.Target at field shift) = field_use fields field ++ expression_unknowns all shift []

-- an instruction without an encoding is unknown at its own name
abbrev pub is_encoding_of : Text → Item → Bool
is_encoding_of text (items.Encoding at name fixes) = bytes_eq name.text text
is_encoding_of text _ = false

abbrev pub has_encoding : List Item → Name → Bool
has_encoding all name = list_any (is_encoding_of name.text) all

abbrev pub item_unknowns : List Item → Item → List ℕ
item_unknowns all (items.Constant at name given) = expression_unknowns all given []
item_unknowns all (items.Using at name meaning) = type_unknowns all meaning []
item_unknowns all (items.Function at name parameters result body) =
    in_each (λ (parameter : Parameter). type_unknowns all parameter.declared []) parameters ++ type_unknowns all result []
    ++ expression_unknowns all body (map (λ (parameter : Parameter). parameter.name.text) parameters)
item_unknowns all (items.ProgramCounter at name declared) = type_unknowns all declared []
item_unknowns all (items.Memory at name address cell) = type_unknowns all address [] ++ type_unknowns all cell []
item_unknowns all (items.Register at name declared) = type_unknowns all declared []
item_unknowns all (items.RegisterFile at name index declared zero) = type_unknowns all index [] ++ type_unknowns all declared [] ++ optional_unknowns all zero
item_unknowns all (items.Format at name declared fields) =
    type_unknowns all declared [] ++ in_each (λ (field : Field). in_each (range_unknowns all) field.ranges) fields
item_unknowns all (items.Instruction at name format behaviour) =
    unless (has_encoding all name) name ++ global all [] is_format format ++ statement_unknowns all behaviour (fields_of_format (item_named all format.text))
item_unknowns all (items.Encoding at name fixes) = global all [] is_instruction name ++ in_each (fix_unknowns all (fields_of all name.text)) fixes
item_unknowns all (items.Assembly at name row) = global all [] is_instruction name ++ in_each (part_unknowns all (fields_of all name.text)) row

-- what must stand in the instruction set part is lacking at its `}`

abbrev pub is_counter_item : Item → Bool
is_counter_item (items.ProgramCounter at name declared) = true
is_counter_item _ = false

abbrev pub is_memory_item : Item → Bool
is_memory_item (items.Memory at name address cell) = true
is_memory_item _ = false

abbrev pub is_instruction_item : Item → Bool
is_instruction_item (items.Instruction at name format behaviour) = true
is_instruction_item _ = false

abbrev pub is_whole : List Item → Bool
is_whole all = list_any is_counter_item all && list_any is_memory_item all && list_any is_instruction_item all

abbrev pub lacking : List Item → ℕ → List ℕ
lacking all close = if is_whole all then [] else close ∷ []

-- a part that is for another architecture is unknown at the name that it is for
abbrev pub same_architecture : Name → Name → List ℕ
same_architecture name other = unless (bytes_eq other.text name.text) other

abbrev pub register_unknowns : List Item → Register → List ℕ
register_unknowns all register = global all [] is_register_file register.file ++ expression_unknowns all register.index []

abbrev pub role_unknowns : List Item → Role → List ℕ
role_unknowns all (roles.StackPointer at register) = register_unknowns all register
role_unknowns all (roles.ReturnAddress at register) = register_unknowns all register
role_unknowns all (roles.ReturnValue at register) = register_unknowns all register
role_unknowns all (roles.Arguments at registers) = in_each (register_unknowns all) registers
role_unknowns all (roles.Temporaries at registers) = in_each (register_unknowns all) registers
role_unknowns all (roles.Saved at registers) = in_each (register_unknowns all) registers
role_unknowns all (roles.Code at base) = expression_unknowns all base []
role_unknowns all (roles.Data at base) = expression_unknowns all base []
role_unknowns all (roles.Stack at low high) = expression_unknowns all low [] ++ expression_unknowns all high []

abbrev pub abi_unknowns : List Item → Name → Option Abi → List ℕ
abi_unknowns all name None = []
abi_unknowns all name (Some abi) = same_architecture name abi.name ++ in_each (role_unknowns all) abi.roles

abbrev pub act_unknowns : List Item → Act → List ℕ
act_unknowns all (acts.Read at resource) = global all [] is_resource resource
act_unknowns all (acts.Write at resource) = global all [] is_resource resource
act_unknowns all (acts.Compute at) = []
act_unknowns all (acts.Resolve at) = []

abbrev pub line_unknowns : List Item → MicroItem → List ℕ
line_unknowns all (lines.Stage at name given) = in_each (act_unknowns all) given
line_unknowns all (lines.Forward at resource) = global all [] is_resource resource

abbrev pub micro_unknowns : List Item → Name → Option Micro → List ℕ
micro_unknowns all name None = []
micro_unknowns all name (Some micro) = same_architecture name micro.name ++ in_each (line_unknowns all) micro.items

-- the places of unknown names and of what is lacking, in the order of the text
abbrev pub unknowns : Desc → List ℕ
unknowns d =
    in_each (item_unknowns d.items) d.items ++ lacking d.items d.close
    ++ abi_unknowns d.items d.name d.abi ++ micro_unknowns d.items d.name d.micro
