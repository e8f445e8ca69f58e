-- The tree of a processor that stands for an expression with everything in place: kinds of types are gone, operators tell
-- whether they are signed, all comparisons are `=` and `<`, and whole numbers are constants of the width of their place.
use Rattle.std.specs.Prelude.{ℕ, Bool, true, false, ◌%◌, ◌^◌, nat_eq, nat_lt, List, [], ◌∷◌, ◌++◌, Option, Some, None, slice_get, if◌then◌else◌}
use Rattle.std.specs.Option.{option_map_or}
use Rattle.vg_ast.specs.declared.operator.UnaryOperator.{UnaryOperator}
use Rattle.vg_ast.specs.declared.operator.UnaryOperator.TheVariants as unary
use Rattle.vg_ast.specs.declared.operator.BinaryOperator.{BinaryOperator}
use Rattle.vg_ast.specs.declared.operator.BinaryOperator.TheVariants as binary
use Rattle.vg_ast.specs.declared.type_expr.BitsKind.TheVariants as kinds
use Rattle.vg_names.specs.Definition.{Text}
use Rattle.vg_whole.specs.declared.worth.Worth.{Worth}
use Rattle.vg_whole.specs.declared.worth.Worth.TheVariants as worths
use Rattle.vg_inline.specs.declared.declared.Declared.{Declared}
use Rattle.vg_inline.specs.declared.head.Head.{Head}
use Rattle.vg_inline.specs.declared.head.Head.TheVariants as heads
use Rattle.vg_inline.specs.declared.tree.Tree.{Tree, fold-Tree}
use Rattle.vg_inline.specs.declared.tree.Tree.TheOpen.{Tree-F}
use Rattle.vg_type.specs.declared.value_type.ValueType.{ValueType}
use Rattle.vg_type.specs.declared.value_type.ValueType.TheVariants.{Sized}
use Rattle.vg_type.specs.declared.sort.Sort.{Sort}
use Rattle.vg_type.specs.declared.sort.Sort.TheVariants as sorts
use Rattle.vg_type.specs.ValueType.{is_width, same_type, type_of, width_of, sort_of_type, whole_or, common_type}
use Rattle.vg_type.specs.Operator.{is_shift, unary_type, binary_type, operand_type, cast_type, slice_type, join_type, bytes_type, choice_type}
use Rattle.vg_type.specs.Scope.{address_type, address_width}
use Rattle.vg_type.specs.Item.{Setting}
use Rattle.vg_isa.specs.declared.expr.Expr.{Expr}
use Rattle.vg_isa.specs.declared.expr.Expr.TheVariants as exprs
use Rattle.vg_isa.specs.declared.operator.UnOp.TheVariants as unop
use Rattle.vg_isa.specs.declared.operator.BinOp.{BinOp}
use Rattle.vg_isa.specs.declared.operator.BinOp.TheVariants as binop
use Rattle.vg_isa.specs.declared.operator.CastOp.{CastOp}
use Rattle.vg_isa.specs.declared.operator.CastOp.TheVariants as castop
use Rattle.vg_tree.specs.Number.{value_or}
use Rattle.vg_tree.specs.declared.made.Made.{Made}
use Rattle.vg_tree.specs.declared.reading.Reading.{Reading}
use Rattle.vg_tree.specs.declared.resource.Resource.{Resource}
use Rattle.vg_tree.specs.Resource.{resource_at, typed_sort}

-- ---- what a tree is made with

-- the items, and the format of the instruction, with what its fields are
pub record Frame : Type 0 where
  pub setting : Setting
  pub format : ℕ
  pub fields : List (Text × Sort)

-- ---- constants

-- where an expression has no type, it has no tree either: this one stands there
abbrev pub no_tree : Expr
no_tree = exprs.Const (record { width = 128; number = 0 })

-- a number at a width of values; one that fits stays as it is
unfoldable pub constant : ℕ → ℕ → Expr
constant width n = if is_width width then exprs.Const (record { width = width; number = n % 2 ^ width }) else no_tree

-- At a place of this type stand a tree of the type, and a whole number, which takes it. Anything else is refused by the rule
-- of types, and counts as 0 here.
abbrev pub taken : ValueType → Sort → Expr → Expr
taken t (sorts.Typed u) tree = if same_type t u then tree else constant (width_of t) 0
taken t (sorts.Whole n) tree = constant (width_of t) n
taken t _ tree = constant (width_of t) 0

abbrev pub placed : Option ValueType → Sort → Expr → Expr
placed None sort tree = tree
placed (Some t) sort tree = taken t sort tree

abbrev pub at_place : Option ValueType → Made → Expr
at_place t made = placed t made.sort made.tree

-- ---- operators

abbrev pub is_signed : Option ValueType → Bool
is_signed (Some (Sized kinds.SInt width)) = true
is_signed _ = false

abbrev pub unary_tree : UnaryOperator → Expr → Expr
unary_tree unary.Complement a = exprs.Unary unop.Not a
unary_tree unary.Negate a = exprs.Unary unop.Neg a
unary_tree unary.Not a = exprs.Unary unop.Not a

abbrev pub negated : Expr → Expr
negated a = exprs.Unary unop.Not a

abbrev pub less : Bool → Expr → Expr → Expr
less true a b = exprs.Binary binop.Slt a b
less false a b = exprs.Binary binop.Lt a b

abbrev pub either : Bool → BinOp → BinOp → BinOp
either true signed unsigned = signed
either false signed unsigned = unsigned

-- `x > y` is `y < x`, `x <= y` is `!(y < x)`, `x >= y` is `!(x < y)` and `x != y` is `!(x = y)`
abbrev pub binary_tree : BinaryOperator → Bool → Expr → Expr → Expr
binary_tree binary.Or signed a b = exprs.Binary binop.Or a b
binary_tree binary.Xor signed a b = exprs.Binary binop.Xor a b
binary_tree binary.And signed a b = exprs.Binary binop.And a b
binary_tree binary.Equal signed a b = exprs.Binary binop.Eq a b
binary_tree binary.NotEqual signed a b = negated (exprs.Binary binop.Eq a b)
binary_tree binary.Less signed a b = less signed a b
binary_tree binary.LessEqual signed a b = negated (less signed b a)
binary_tree binary.Greater signed a b = less signed b a
binary_tree binary.GreaterEqual signed a b = negated (less signed a b)
binary_tree binary.ShiftLeft signed a b = exprs.Binary binop.Shl a b
binary_tree binary.ShiftRight signed a b = exprs.Binary (either signed binop.Sar binop.Shr) a b
binary_tree binary.Add signed a b = exprs.Binary binop.Add a b
binary_tree binary.Subtract signed a b = exprs.Binary binop.Sub a b
binary_tree binary.Multiply signed a b = exprs.Binary binop.Mul a b
binary_tree binary.MultiplyLong signed a b = exprs.Binary (binop.MulLong signed) a b
binary_tree binary.Divide signed a b = exprs.Binary (either signed binop.Sdiv binop.Udiv) a b
binary_tree binary.Remainder signed a b = exprs.Binary (either signed binop.Srem binop.Urem) a b

-- the operands are signed where their type is SInt; of a shift the left one counts
abbrev pub operands_type : BinaryOperator → Sort → Sort → Option ValueType
operands_type op left right = if is_shift op then typed_sort left else common_type left right

-- ---- casts

-- to a wider type SInt is extended by its sign and all else by zeros
abbrev pub extension : Bool → CastOp
extension true = castop.SignExtend
extension false = castop.Extend

abbrev pub cast_operator : ValueType → ℕ → CastOp
cast_operator from width =
    if nat_eq (width_of from) width then castop.Keep
    else if nat_lt width (width_of from) then castop.Cut
    else extension (is_signed (Some from))

-- a whole number is the constant itself
abbrev pub cast_tree : Option ValueType → Sort → Expr → Expr
cast_tree None from tree = tree
cast_tree (Some t) (sorts.Whole n) tree = constant (width_of t) n
cast_tree (Some t) (sorts.Typed from) tree = exprs.Cast (cast_operator from (width_of t)) (width_of t) tree
cast_tree (Some t) _ tree = constant (width_of t) 0

-- ---- nodes

abbrev pub tree_where : Option ValueType → Expr → Expr
tree_where None tree = no_tree
tree_where (Some t) tree = tree

-- what has a type, if it has one
abbrev pub made_of : Option ValueType → Expr → List Reading → Made
made_of t tree readings = record { sort = sort_of_type t; tree = tree_where t tree; readings = readings }

abbrev pub nothing_made : Made
nothing_made = record { sort = sorts.Untyped; tree = no_tree; readings = [] }

-- a whole number stands there at 128 bits, until it takes the type of its place
abbrev pub whole_made : Worth → Made
whole_made worth = record { sort = whole_or worth sorts.Untyped; tree = constant 128 (value_or worth); readings = [] }

-- a whole number that took a declared type
abbrev pub constant_made : Worth → Option ValueType → Made
constant_made worth None = nothing_made
constant_made worth (Some t) = made_of (Some t) (constant (width_of t) (value_or worth)) []

abbrev pub field_sort_at : Frame → ℕ → Sort
field_sort_at frame k = option_map_or (λ (field : Text × Sort). field.1) (slice_get frame.fields k) sorts.Untyped

abbrev pub field_tree : ℕ → ℕ → Expr
field_tree format k = exprs.Field (record { format = record { 0 = format }; index = k })

abbrev pub field_made : Frame → ℕ → Made
field_made frame k = made_of (typed_sort (field_sort_at frame k)) (field_tree frame.format k) []

-- the program counter, or a single register
abbrev pub resource_tree : Resource → Expr
resource_tree r = if r.is_counter then exprs.Pc else exprs.Reg r.id None

abbrev pub resource_made : Resource → Made
resource_made r = made_of r.single (resource_tree r) []

-- a register of a file
abbrev pub indexed_made : Resource → Made → Made
indexed_made r index = made_of r.gives (exprs.Reg r.id (Some (at_place r.index index))) index.readings

-- the type of an address
abbrev pub address_in : Setting → Option ValueType
address_in setting = address_type (address_width setting.all setting.globals)

abbrev pub reading_of : ℕ → Worth → ℕ → Expr → Reading
reading_of at size address_at address = record { at = at; address_at = address_at; address = address; bytes = value_or size }

-- a memory read, of an address of this type
abbrev pub access_made : Option ValueType → ℕ → Worth → ℕ → Made → Made
access_made t at size address_at address =
    made_of (bytes_type (whole_or size sorts.Untyped)) (exprs.Mem (at_place t address) (value_or size))
    (address.readings ++ reading_of at size address_at (at_place t address) ∷ [])

abbrev pub unary_made : UnaryOperator → Made → Made
unary_made op a = made_of (unary_type op a.sort) (unary_tree op a.tree) a.readings

abbrev pub operation_tree : BinaryOperator → Sort → Sort → Expr → Expr → Expr
operation_tree op left right a b =
    binary_tree op (is_signed (operands_type op left right)) (placed (operand_type op left right) left a) (placed (operand_type op left right) right b)

abbrev pub binary_made : BinaryOperator → Made → Made → Made
binary_made op a b = made_of (binary_type op a.sort b.sort) (operation_tree op a.sort b.sort a.tree b.tree) (a.readings ++ b.readings)

abbrev pub cast_made : Declared → Made → Made
cast_made target a = made_of (cast_type (type_of target) a.sort) (cast_tree (type_of target) a.sort a.tree) a.readings

abbrev pub slice_made : Worth → Worth → Made → Made
slice_made high low a =
    made_of (slice_type a.sort (whole_or high sorts.Untyped) (whole_or low sorts.Untyped)) (exprs.Slice a.tree (value_or high) (value_or low)) a.readings

abbrev pub join_made : Made → Made → Made
join_made a b = made_of (join_type a.sort b.sort) (exprs.Join a.tree b.tree) (a.readings ++ b.readings)

abbrev pub choice_tree : Sort → Sort → Expr → Expr → Expr → Expr
choice_tree one other c a b = exprs.If c (placed (common_type one other) one a) (placed (common_type one other) other b)

abbrev pub if_made : Made → Made → Made → Made
if_made c a b = made_of (choice_type c.sort a.sort b.sort) (choice_tree a.sort b.sort c.tree a.tree b.tree) ((c.readings ++ a.readings) ++ b.readings)

-- what a whole number is worth
abbrev pub worth_given : Option ℕ → Worth
worth_given None = worths.NoValue
worth_given (Some n) = worths.Whole n

-- a node without parts, and those over one, two and three parts
abbrev pub leaf_made : Frame → Head → Made
leaf_made frame (heads.Whole value) = whole_made (worth_given value)
leaf_made frame (heads.Constant value given) = constant_made (worth_given value) (type_of given)
leaf_made frame (heads.Field k) = field_made frame k
leaf_made frame (heads.Resource k) = resource_made (resource_at frame.setting k)
leaf_made frame _ = nothing_made

abbrev pub over_one : Frame → Head → Made → Made
over_one frame (heads.Indexed k at index_at) a = indexed_made (resource_at frame.setting k) a
over_one frame (heads.Access at size address_at) a = access_made (address_in frame.setting) at size address_at a
over_one frame (heads.Unary op) a = unary_made op a
over_one frame (heads.Cast target) a = cast_made target a
over_one frame (heads.Slice high low) a = slice_made high low a
over_one frame _ a = nothing_made

abbrev pub over_two : Head → Made → Made → Made
over_two heads.Join a b = join_made a b
over_two (heads.Binary op) a b = binary_made op a b
over_two _ a b = nothing_made

abbrev pub over_three : Head → Made → Made → Made → Made
over_three heads.If c a b = if_made c a b
over_three _ c a b = nothing_made

-- a node over its parts
abbrev pub node_made : Frame → Head → List Made → Made
node_made frame head [] = leaf_made frame head
node_made frame head (a ∷ []) = over_one frame head a
node_made frame head (a ∷ b ∷ []) = over_two head a b
node_made frame head (c ∷ a ∷ b ∷ []) = over_three head c a b
node_made frame head _ = nothing_made

-- one level of a tree
abbrev pub made_step : Frame → Tree-F Made → Made
made_step frame layer = node_made frame layer.head layer.parts

-- what stands for a tree
abbrev pub made : Frame → Tree → Made
made frame t = fold-Tree Made (made_step frame) t
