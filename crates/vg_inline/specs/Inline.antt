-- Expressions with everything in place of their names: constants, `let`, functions and aliases. How a node and a call are
-- made is left open: `Instantiate` has the trees, and `Kept` those that don't have too many nodes.
use Rattle.std.specs.Prelude.{ℕ, ◌+◌, List, [], ◌∷◌, map, Option, Some, None}
use Rattle.vg_ast.specs.declared.name.Name.{Name}
use Rattle.vg_ast.specs.declared.expr.Expr.{Expr, fold-Expr, map-Expr}
use Rattle.vg_ast.specs.declared.expr.Expr.TheOpen.{Expr-F}
use Rattle.vg_ast.specs.declared.item.Item.{Item}
use Rattle.vg_ast.specs.declared.item.Item.TheVariants as items
use Rattle.vg_ast.specs.declared.parameter.Parameter.{Parameter}
use Rattle.vg_ast.specs.Start.{start_step}
use Rattle.vg_names.specs.Definition.{Text, item_named}
use Rattle.vg_names.specs.Numbers.{number_named}
use Rattle.vg_names.specs.Worked.{worked}
use Rattle.vg_whole.specs.declared.worth.Worth.{Worth}
use Rattle.vg_whole.specs.declared.worth.Worth.TheVariants.{Whole, NoValue, Typed}
use Rattle.vg_whole.specs.Whole.{Inner, inner_of, binary_whole, Constants}
use Rattle.vg_inline.specs.declared.declared.Declared.{Declared}
use Rattle.vg_inline.specs.declared.head.Head.{Head}
use Rattle.vg_inline.specs.declared.head.Head.TheVariants as heads
use Rattle.vg_inline.specs.declared.tree.Tree.{Tree}
use Rattle.vg_inline.specs.declared.value.Value.{Value}
use Rattle.vg_inline.specs.Instantiate.{node, instantiate}
use Rattle.vg_inline.specs.Types.{Aliases, type_worths, type_of, declared_type}

-- how a node over its parts is made, and a body with arguments in it
pub record Making (X : Type 0) : Type 0 where
  pub node : Head → List X → X
  pub instantiate : List X → X → X

-- as trees
abbrev pub trees : Making Tree
trees = record { node = node; instantiate = instantiate }

-- What is known of the items: what constants are worth, what aliases stand for, and the bodies of functions with their
-- parameters still in them.
pub record Known (X : Type 0) : Type 0 where
  pub constants : Constants
  pub aliases : Aliases
  pub bodies : Text → X

abbrev pub typed : {X : Type 0} → X → Value X
typed t = record { worth = Typed; tree = t }

-- a whole number is one node, whatever it was worked out from
abbrev pub whole_or : {X : Type 0} → Making X → Worth → X → X
whole_or making (Whole n) t = making.node (heads.Whole (Some n)) []
whole_or making NoValue t = making.node (heads.Whole None) []
whole_or making Typed t = t

-- where a type is declared, a whole number takes it
abbrev pub constant_or : {X : Type 0} → Making X → Declared → Worth → X → X
constant_or making declared (Whole n) t = making.node (heads.Constant (Some n) declared) []
constant_or making declared NoValue t = making.node (heads.Constant None declared) []
constant_or making declared Typed t = t

abbrev pub taking : {X : Type 0} → Making X → Declared → Value X → X
taking making declared v = constant_or making declared v.worth v.tree

-- a whole number, as it stands in the text
abbrev pub number_value : {X : Type 0} → Making X → ℕ → Value X
number_value making n = record { worth = Whole n; tree = making.node (heads.Whole (Some n)) [] }

abbrev pub number_or : Option ℕ → ℕ
number_or None = 0
number_or (Some number) = number

-- what stands in place of a name: an inner name hides an item
abbrev pub named_value : {X : Type 0} → Making X → Option (Value X) → Worth → ℕ → Value X
named_value making (Some inner) worth item = inner
named_value making None worth item = record { worth = worth; tree = whole_or making worth (making.node (heads.Resource item) []) }

-- the arguments, each with the type of its parameter
abbrev pub taking_types : {X : Type 0} → Making X → (Parameter → Declared) → List Parameter → List (Value X) → List X
taking_types making declared (parameter ∷ more) (v ∷ vs) = taking making (declared parameter) v ∷ taking_types making declared more vs
taking_types making declared _ [] = []
taking_types making declared [] (v ∷ vs) = v.tree ∷ taking_types making declared [] vs

-- the item that a call names, unless an inner name hides it
abbrev pub callee_of : {V : Type 0} → Option V → Option Item → Option Item
callee_of None item = item
callee_of (Some hidden) item = None

abbrev pub tree_of : {X : Type 0} → Value X → X
tree_of v = v.tree

-- a call of a function: its body with the arguments in it; or a register of a register file
abbrev pub called : {X : Type 0} → Making X → List Item → Known X → Option Item → Name → ℕ → List (Value X) → X
called making all known (Some (items.Function at name parameters result body)) callee index_at arguments =
    making.instantiate (taking_types making (λ (p : Parameter). declared_type known.constants known.aliases p.declared) parameters arguments) (known.bodies callee.text)
called making all known _ callee index_at arguments = making.node (heads.Indexed (number_or (number_named all callee.text)) callee.at index_at) (map tree_of arguments)

-- An expression as it is put in place: where it begins, and what stands in its place where inner names stand for these.
pub record Inlining (X : Type 0) : Type 0 where
  pub start : ℕ
  pub value : Inner (Value X) → Value X

abbrev pub start_in : {X : Type 0} → Inlining X → ℕ
start_in e = e.start

-- the first of them begins there, or the name does where there is none
abbrev pub first_start : ℕ → List ℕ → ℕ
first_start at [] = at
first_start at (first ∷ more) = first

-- one level of an expression, with its parts
abbrev pub value_step : {X : Type 0} → Making X → List Item → Known X → Expr-F (Inlining X) → Inner (Value X) → Value X
value_step making all known (Expr-F.Number value at) inner = number_value making value
value_step making all known (Expr-F.Name name) inner = named_value making (inner_of inner name.text) (known.constants name.text) (number_or (number_named all name.text))
value_step making all known (Expr-F.Call name arguments) inner =
    typed (called making all known (callee_of (inner_of inner name.text) (item_named all name.text)) name (first_start name.at (map start_in arguments)) (map (λ (argument : Inlining _). argument.value inner) arguments))
value_step making all known (Expr-F.Access memory at size address) inner = typed (making.node (heads.Access memory.at (size.value inner).worth address.start) ((address.value inner).tree ∷ []))
value_step making all known (Expr-F.Join at high low) inner = typed (making.node heads.Join ((high.value inner).tree ∷ (low.value inner).tree ∷ []))
value_step making all known (Expr-F.Parentheses at body) inner = body.value inner
value_step making all known (Expr-F.Unary op at operand) inner = typed (making.node (heads.Unary op) ((operand.value inner).tree ∷ []))
value_step making all known (Expr-F.Binary op at left right) inner =
    record {
      worth = binary_whole op (left.value inner).worth (right.value inner).worth;
      tree = whole_or making (binary_whole op (left.value inner).worth (right.value inner).worth) (making.node (heads.Binary op) ((left.value inner).tree ∷ (right.value inner).tree ∷ []));
    }
value_step making all known (Expr-F.Cast operand at target) inner =
    typed (making.node (heads.Cast (type_of known.aliases (type_worths (λ (width : Inlining _). (width.value inner).worth) target))) ((operand.value inner).tree ∷ []))
value_step making all known (Expr-F.Slice operand at high low) inner = typed (making.node (heads.Slice (high.value inner).worth (low.value inner).worth) ((operand.value inner).tree ∷ []))
value_step making all known (Expr-F.If at condition one other) inner = typed (making.node heads.If ((condition.value inner).tree ∷ (one.value inner).tree ∷ (other.value inner).tree ∷ []))
value_step making all known (Expr-F.Let at name bound body) inner = body.value ((name.text, bound.value inner) ∷ inner)

abbrev pub inlining_step : {X : Type 0} → Making X → List Item → Known X → Expr-F (Inlining X) → Inlining X
inlining_step making all known layer = record { start = start_step (map-Expr (Inlining _) ℕ start_in layer); value = value_step making all known layer }

abbrev pub inlining : {X : Type 0} → Making X → List Item → Known X → Expr → Inlining X
inlining making all known e = fold-Expr (Inlining _) (inlining_step making all known) e

-- what an expression is worth, and what stands in its place
abbrev pub inlined : {X : Type 0} → Making X → List Item → Known X → Expr → Inner (Value X) → Value X
inlined making all known e inner = (inlining making all known e).value inner

-- the parameters of a function, from number k on, in place of their names in its body
abbrev pub parameter_values : {X : Type 0} → Making X → ℕ → List Parameter → Inner (Value X)
parameter_values making k [] = []
parameter_values making k (parameter ∷ more) = (parameter.name.text, typed (making.node (heads.Parameter k) [])) ∷ parameter_values making (k + 1) more

-- the fields of a format, from number k on, in place of their names in a behaviour
abbrev pub field_values : {X : Type 0} → Making X → ℕ → List Text → Inner (Value X)
field_values making k [] = []
field_values making k (text ∷ more) = (text, typed (making.node (heads.Field k) [])) ∷ field_values making (k + 1) more

abbrev pub with_bodies : {X : Type 0} → Constants → Aliases → (Text → X) → Known X
with_bodies constants aliases bodies = record { constants = constants; aliases = aliases; bodies = bodies }

-- The body of a function with everything in place but its parameters; a whole number takes the type of the result. Nothing
-- is called by any other name.
abbrev pub body_step : {X : Type 0} → Making X → List Item → Constants → Aliases → (Text → X) → Option Item → X
body_step making all constants aliases bodies (Some (items.Function at name parameters result body)) =
    taking making (declared_type constants aliases result) (inlined making all (with_bodies constants aliases bodies) body (parameter_values making 0 parameters))
body_step making all constants aliases bodies _ = making.node heads.Missing []

-- the bodies of the functions of these items
abbrev pub bodies_of : {X : Type 0} → Making X → List Item → Constants → Aliases → Text → X
bodies_of making all constants aliases = worked all (making.node heads.Missing []) (body_step making all constants aliases)
