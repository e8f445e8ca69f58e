-- What is known where something is put in place of names.
use Rattle.std.specs.Prelude.{List, [], ◌∷◌, Option, Some, None, slice_get}
use Rattle.vg_ast.specs.declared.expr.Expr.{Expr}
use Rattle.vg_ast.specs.declared.item.Item.{Item}
use Rattle.vg_ast.specs.declared.item.Item.TheVariants as items
use Rattle.vg_ast.specs.declared.parameter.Parameter.{Parameter}
use Rattle.vg_ast.specs.declared.statement.Statement.{Statement}
use Rattle.vg_ast.specs.declared.type_expr.TypeExpr.{TypeExpr}
use Rattle.vg_names.specs.Definition.{Text, fields_of_format}
use Rattle.vg_names.specs.Worked.{value_by}
use Rattle.vg_whole.specs.declared.worth.Worth.{Worth}
use Rattle.vg_whole.specs.Whole.{Inner, Constants}
use Rattle.vg_whole.specs.Worths.{constants_by}
use Rattle.vg_inline.specs.declared.context.Context.{Context}
use Rattle.vg_inline.specs.declared.declared.Declared.{Declared}
use Rattle.vg_inline.specs.declared.declared.Declared.TheVariants as type
use Rattle.vg_inline.specs.declared.head.Head.TheVariants as heads
use Rattle.vg_inline.specs.declared.kept.Kept.{Kept}
use Rattle.vg_inline.specs.declared.kept.KeptEffect.{KeptEffect}
use Rattle.vg_inline.specs.declared.value.Value.{Value}
use Rattle.vg_inline.specs.declared.bindings.Bindings.{Bindings, Nothing as NoBinding, Let' as Binding}
use Rattle.vg_inline.specs.declared.names.Names.{Names, Nothing, Fields, Parameters, Let'}
use Rattle.vg_inline.specs.declared.found.Found.{Found}
use Rattle.vg_inline.specs.declared.found.Found.TheVariants as found
use Rattle.vg_inline.specs.Types.{Aliases, declared_type}
use Rattle.vg_inline.specs.Inline.{Known, typed, inlined, parameter_values, field_values, constant_or}
use Rattle.vg_inline.specs.Behaviour.{effect_of, behaviour_by}
use Rattle.vg_inline.specs.declared.keep.Keep.{Keep}
use Rattle.vg_inline.specs.Kept.{counts, keeping_as, kept_node, kept_missing, stating_as}

abbrev pub Kepts : Type 0
Kepts = Value (Option Kept)

-- what aliases stand for, where the list has one for each item
abbrev pub aliases_by : List Item → List Declared → Aliases
aliases_by all list = value_by type.Bool all list

-- the bodies of functions, where the list has one for each item
abbrev pub bodies_as : Keep → List Item → List (Option Kept) → Text → Option Kept
bodies_as keep all list = value_by (kept_missing keep) all list

-- how many nodes they have
abbrev pub bodies_by : List Item → List (Option Kept) → Text → Option Kept
bodies_by all list = bodies_as counts all list

abbrev pub items_of : Context → List Item
items_of x = x.table.now.items.now

abbrev pub constants_in : Context → Constants
constants_in x = constants_by (items_of x) x.worths.now

abbrev pub aliases_in : Context → Aliases
aliases_in x = aliases_by (items_of x) x.aliases.now

abbrev pub known_as : Keep → List Item → Constants → Aliases → List (Option Kept) → Known (Option Kept)
known_as keep all constants aliases bodies = record { constants = constants; aliases = aliases; bodies = bodies_as keep all bodies }

abbrev pub known_by : List Item → Constants → Aliases → List (Option Kept) → Known (Option Kept)
known_by all constants aliases bodies = known_as counts all constants aliases bodies

abbrev pub known_in : Context → Known (Option Kept)
known_in x = known_as x.keep (items_of x) (constants_in x) (aliases_in x) x.bodies.now

-- what the inner names stand for
abbrev pub inner_in : Keep → List Item → List Parameter → Names → Inner Kepts
inner_in keep all parameters Nothing = []
inner_in keep all parameters (Fields format) = field_values (keeping_as keep) 0 (fields_of_format (slice_get all format))
inner_in keep all parameters Parameters = parameter_values (keeping_as keep) 0 parameters
inner_in keep all parameters (Let' name value p outer) = (name.now.text, value.now) ∷ inner_in keep all parameters outer

abbrev pub inner_at : Context → Names → Inner Kepts
inner_at x names = inner_in x.keep (items_of x) x.parameters.now names

-- an expression, a statement and an item with everything in place

abbrev pub inlined_at : Context → Names → Expr → Kepts
inlined_at x names e = inlined (keeping_as x.keep) (items_of x) (known_in x) e (inner_at x names)

abbrev pub tree_at : Context → Names → Expr → Option Kept
tree_at x names e = (inlined_at x names e).tree

abbrev pub effect_at : Context → Names → Statement → Option KeptEffect
effect_at x names s = effect_of (stating_as x.keep) (items_of x) (known_in x) s (inner_at x names)

abbrev pub joined : {X : Type 0} → Option (Option X) → Option X
joined None = None
joined (Some x) = x

abbrev pub behaviour_at : Context → Item → Option (Option KeptEffect)
behaviour_at x item = behaviour_by (stating_as x.keep) (items_of x) (known_in x) item

abbrev pub found_value : Keep → Found → Kepts
found_value keep (found.Field k) = typed (kept_node keep (heads.Field k) [])
found_value keep (found.Parameter k) = typed (kept_node keep (heads.Parameter k) [])
found_value keep (found.Bound value) = value.now

-- the parameters of a function
abbrev pub parameters_called : Option Item → Option (List Parameter)
parameters_called (Some (items.Function at name parameters result body)) = Some parameters
parameters_called _ = None

-- a type outside of expressions
abbrev pub declared_in : Context → TypeExpr Expr → Declared
declared_in x t = declared_type (constants_in x) (aliases_in x) t

abbrev pub parameter_type : Context → Parameter → Declared
parameter_type x parameter = declared_in x parameter.declared

-- an argument in place of a parameter, if there is one
abbrev pub taken_at : Keep → (Parameter → Declared) → Option Parameter → Kepts → Option Kept
taken_at keep declared None v = v.tree
taken_at keep declared (Some parameter) v = constant_or (keeping_as keep) (declared parameter) v.worth v.tree

-- the worths of the names of `let`s around a place in a declared type
abbrev pub binding_worths : Bindings → Inner Worth
binding_worths NoBinding = []
binding_worths (Binding name worth p outer) = (name.now.text, worth) ∷ binding_worths outer
