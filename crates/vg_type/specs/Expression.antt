-- The type of an expression as it is written, in a scope; and the places in it at which types and ranges are broken.
-- `let`s and arguments that aren't used are judged as all others.
use Rattle.std.specs.Prelude.{ℕ, Bool, true, false, ◌||◌, not, List, [], ◌∷◌, ◌++◌, map, is_none, Option, Some, None, if◌then◌else◌}
use Rattle.std.specs.List.{list_any}
use Rattle.vg_ast.specs.declared.name.Name.{Name}
use Rattle.vg_ast.specs.declared.operator.UnaryOperator.{UnaryOperator}
use Rattle.vg_ast.specs.declared.operator.BinaryOperator.{BinaryOperator}
use Rattle.vg_ast.specs.declared.expr.Expr.{Expr, fold-Expr}
use Rattle.vg_ast.specs.declared.expr.Expr.TheOpen.{Expr-F}
use Rattle.vg_ast.specs.declared.type_expr.TypeExpr.{TypeExpr}
use Rattle.vg_ast.specs.declared.type_expr.TypeExpr.TheVariants as types
use Rattle.vg_names.specs.Definition.{Text}
use Rattle.vg_whole.specs.declared.worth.Worth.{Worth}
use Rattle.vg_whole.specs.declared.worth.Worth.TheVariants as worths
use Rattle.vg_whole.specs.Whole.{Inner, inner_of, or_else, binary_whole}
use Rattle.vg_inline.specs.Types.{Aliases, type_of as declared_of, type_worths}
use Rattle.vg_type.specs.declared.value_type.ValueType.{ValueType}
use Rattle.vg_type.specs.declared.sort.Sort.{Sort}
use Rattle.vg_type.specs.declared.sort.Sort.TheVariants as sorts
use Rattle.vg_type.specs.ValueType.{is_width, type_of, worth_of, is_untyped, is_valueless, may_be, common_type}
use Rattle.vg_type.specs.Operator.{unary_type, binary_type, operand_type, is_too_wide, cast_type, slice_type, leaves, join_type, is_too_long, is_wrong_size, bytes_type, choice_type}
use Rattle.vg_type.specs.Judged.{Judged, sound, settled, told, unfit, number_widths, is_any_untyped, all_widths, argument_ranges, are_arguments, types_for}

-- what may be called: a function, or a register file over an index. A type is none where its declaration is at fault.
pub record Signature : Type 0 where
  pub parameters : List (Option ValueType)
  pub result : Option ValueType

-- what is known of the names of items, where no inner name hides them
pub record Scope : Type 0 where
  pub value : Text → Sort
  pub callee : Text → Option Signature
  pub is_memory : Text → Bool
  pub address : Option ValueType
  pub aliases : Aliases

-- ---- types as they are written

-- a width that isn't 1 to 128
abbrev pub is_no_width : Sort → Bool
is_no_width (sorts.Whole n) = not (is_width n)
is_no_width _ = false

abbrev pub type_widths : TypeExpr Judged → List ℕ
type_widths (types.Sized kind at width) = number_widths width
type_widths (types.Bool at) = []
type_widths (types.Alias name) = []

-- a wrong width is told at the first token of its type
abbrev pub type_ranges : TypeExpr Judged → List ℕ
type_ranges (types.Sized kind at width) = told (is_no_width width.sort) at ++ width.ranges
type_ranges (types.Bool at) = []
type_ranges (types.Alias name) = []

-- a type with what is found of its width
abbrev pub type_over : {E : Type 0} → (E → Judged) → TypeExpr E → TypeExpr Judged
type_over judge (types.Sized kind at width) = types.Sized kind at (judge width)
type_over judge (types.Bool at) = types.Bool at
type_over judge (types.Alias name) = types.Alias name

-- what a type stands for, where its width is 1 to 128
abbrev pub target_type : Aliases → TypeExpr Judged → Option ValueType
target_type aliases t = type_of (declared_of aliases (type_worths (λ (width : Judged). worth_of width.sort) t))

-- a type whose width has no value, or whose alias is at fault where it is declared
abbrev pub is_type_blocked : Aliases → TypeExpr Judged → Bool
is_type_blocked aliases (types.Sized kind at width) = is_valueless width.sort
is_type_blocked aliases (types.Bool at) = false
is_type_blocked aliases (types.Alias name) = is_none (type_of (aliases name.text))

-- ---- expressions over their parts

abbrev pub in_parentheses : ℕ → Judged → Judged
in_parentheses at body = record { start = at; sort = body.sort; widths = body.widths; ranges = body.ranges }

abbrev pub unary_judged : UnaryOperator → ℕ → Judged → Judged
unary_judged op at operand = settled at (is_untyped operand.sort) operand.widths operand.ranges (unary_type op operand.sort)

abbrev pub binary_ranges : BinaryOperator → ℕ → Judged → Judged → List ℕ
binary_ranges op at left right =
    left.ranges ++ unfit (operand_type op left.sort right.sort) left
    ++ told (is_too_wide op (common_type left.sort right.sort)) at
    ++ right.ranges ++ unfit (operand_type op left.sort right.sort) right

abbrev pub typed_binary : BinaryOperator → ℕ → Judged → Judged → Judged
typed_binary op at left right =
    settled left.start (is_untyped left.sort || is_untyped right.sort) (left.widths ++ right.widths) (binary_ranges op at left right)
    (binary_type op left.sort right.sort)

-- `+ - * / %` on two whole numbers are a whole number, and all else has a type
abbrev pub binary_over : Worth → BinaryOperator → ℕ → Judged → Judged → Judged
binary_over (worths.Whole n) op at left right = sound left.start (sorts.Whole n)
binary_over worths.NoValue op at left right = sound left.start sorts.NoValue
binary_over worths.Typed op at left right = typed_binary op at left right

abbrev pub binary_judged : BinaryOperator → ℕ → Judged → Judged → Judged
binary_judged op at left right = binary_over (binary_whole op (worth_of left.sort) (worth_of right.sort)) op at left right

abbrev pub cast_judged : Aliases → Judged → TypeExpr Judged → Judged
cast_judged aliases operand target =
    settled operand.start (is_untyped operand.sort || is_type_blocked aliases target) (operand.widths ++ type_widths target)
    (operand.ranges ++ unfit (target_type aliases target) operand ++ type_ranges target)
    (cast_type (target_type aliases target) operand.sort)

abbrev pub slice_judged : Judged → ℕ → Judged → Judged → Judged
slice_judged operand at high low =
    settled operand.start (is_untyped operand.sort || is_valueless high.sort || is_valueless low.sort)
    (operand.widths ++ number_widths high ++ number_widths low)
    (operand.ranges ++ told (leaves operand.sort high.sort low.sort) at ++ high.ranges ++ low.ranges)
    (slice_type operand.sort high.sort low.sort)

abbrev pub join_judged : ℕ → Judged → Judged → Judged
join_judged at high low =
    settled at (is_untyped high.sort || is_untyped low.sort) (high.widths ++ low.widths)
    (told (is_too_long high.sort low.sort) at ++ high.ranges ++ low.ranges)
    (join_type high.sort low.sort)

abbrev pub if_judged : ℕ → Judged → Judged → Judged → Judged
if_judged at condition one other =
    settled at (is_untyped condition.sort || is_untyped one.sort || is_untyped other.sort) (condition.widths ++ one.widths ++ other.widths)
    (condition.ranges ++ one.ranges ++ unfit (common_type one.sort other.sort) one ++ other.ranges ++ unfit (common_type one.sort other.sort) other)
    (choice_type condition.sort one.sort other.sort)

-- an address of the program counter's width gives so many bytes
abbrev pub access_type : Option ValueType → Sort → Sort → Option ValueType
access_type None size address = None
access_type (Some t) size address = if may_be t address then bytes_type size else None

abbrev pub access_ranges : Option ValueType → ℕ → Judged → Judged → List ℕ
access_ranges t at size address = told (is_wrong_size size.sort) at ++ size.ranges ++ address.ranges ++ unfit t address

abbrev pub access_judged : Scope → Name → ℕ → Judged → Judged → Judged
access_judged scope memory at size address =
    settled memory.at (is_valueless size.sort || is_untyped address.sort || not (scope.is_memory memory.text) || is_none scope.address)
    (number_widths size ++ address.widths) (access_ranges scope.address at size address)
    (access_type scope.address size.sort address.sort)

-- a type in a signature is at fault where it is declared
abbrev pub is_faulty : Signature → Bool
is_faulty signature = list_any is_none signature.parameters || is_none signature.result

abbrev pub result_type : Signature → List Judged → Option ValueType
result_type signature arguments = if are_arguments signature.parameters arguments then signature.result else None

abbrev pub call_judged : Name → Option Signature → List Judged → Judged
call_judged name None arguments = settled name.at true (all_widths arguments) (argument_ranges [] arguments) None
call_judged name (Some signature) arguments =
    settled name.at (is_any_untyped arguments || is_faulty signature) (all_widths arguments)
    (argument_ranges (types_for signature.parameters arguments) arguments) (result_type signature arguments)

-- a `let` is what its body is, unless what it binds has no type
abbrev pub let_judged : ℕ → Judged → Judged → Judged
let_judged at bound body =
    record { start = at; sort = if is_untyped bound.sort then sorts.Untyped else body.sort; widths = bound.widths ++ body.widths; ranges = bound.ranges ++ body.ranges }

-- ---- expressions

-- what an expression is, where inner names are this
abbrev pub Judges : Type 0
Judges = Inner Sort → Judged

-- what is called by a name, unless an inner name hides it
abbrev pub called : Option Sort → Option Signature → Option Signature
called None signature = signature
called (Some inner) signature = None

-- one level of an expression, with its parts
abbrev pub judged_step : Scope → Expr-F Judges → Judges
judged_step scope (Expr-F.Number value at) inner = sound at (sorts.Whole value)
judged_step scope (Expr-F.Name name) inner = sound name.at (or_else (inner_of inner name.text) (scope.value name.text))
judged_step scope (Expr-F.Call name arguments) inner =
    call_judged name (called (inner_of inner name.text) (scope.callee name.text)) (map (λ (argument : Judges). argument inner) arguments)
judged_step scope (Expr-F.Access memory at size address) inner = access_judged scope memory at (size inner) (address inner)
judged_step scope (Expr-F.Join at high low) inner = join_judged at (high inner) (low inner)
judged_step scope (Expr-F.Parentheses at body) inner = in_parentheses at (body inner)
judged_step scope (Expr-F.Unary op at operand) inner = unary_judged op at (operand inner)
judged_step scope (Expr-F.Binary op at left right) inner = binary_judged op at (left inner) (right inner)
judged_step scope (Expr-F.Cast operand at target) inner = cast_judged scope.aliases (operand inner) (type_over (λ (width : Judges). width inner) target)
judged_step scope (Expr-F.Slice operand at high low) inner = slice_judged (operand inner) at (high inner) (low inner)
judged_step scope (Expr-F.If at condition one other) inner = if_judged at (condition inner) (one inner) (other inner)
judged_step scope (Expr-F.Let at name bound body) inner = let_judged at (bound inner) (body ((name.text, (bound inner).sort) ∷ inner))

abbrev pub judged : Scope → Expr → Judges
judged scope e = fold-Expr Judges (judged_step scope) e
