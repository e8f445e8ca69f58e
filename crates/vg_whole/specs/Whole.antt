-- Whole numbers: what an expression is worth before any width is known.
use Rattle.std.specs.Prelude.{ℕ, ◌+◌, ◌-◌, ◌*◌, ◌/◌, ◌%◌, ◌^◌, Bool, true, false, nat_lt, nat_le, nat_eq, List, [], ◌∷◌, ◌++◌, Option, Some, None, if◌then◌else◌}
use Rattle.std.specs.Str.{bytes_eq}
use Rattle.vg_ast.specs.declared.operator.BinaryOperator.{BinaryOperator}
use Rattle.vg_ast.specs.declared.operator.BinaryOperator.TheVariants as binary
use Rattle.vg_ast.specs.declared.expr.Expr.{Expr, fold-Expr}
use Rattle.vg_ast.specs.declared.expr.Expr.TheOpen.{Expr-F}
use Rattle.vg_ast.specs.declared.type_expr.TypeExpr.{TypeExpr}
use Rattle.vg_ast.specs.declared.type_expr.TypeExpr.TheVariants as types
use Rattle.vg_ast.specs.declared.item.Item.{Item}
use Rattle.vg_ast.specs.declared.item.Item.TheVariants as items
use Rattle.vg_names.specs.Definition.{Text}
use Rattle.vg_whole.specs.declared.worth.Worth.{Worth}
use Rattle.vg_whole.specs.declared.worth.Worth.TheVariants as worths

-- what inner names stand for, the innermost first
abbrev pub Inner : Type 0 → Type 0
Inner X = List (Text × X)

abbrev pub inner_of : {X : Type 0} → Inner X → Text → Option X
inner_of [] text = None
inner_of (x ∷ xs) text = if bytes_eq x.0 text then Some x.1 else inner_of xs text

abbrev pub below_limit : ℕ → Worth
below_limit n = if nat_lt n (2 ^ 128) then worths.Whole n else worths.NoValue

abbrev pub quotient : ℕ → ℕ → Worth
quotient a b = if nat_eq b 0 then worths.NoValue else worths.Whole (a / b)

abbrev pub remainder : ℕ → ℕ → Worth
remainder a b = if nat_eq b 0 then worths.NoValue else worths.Whole (a % b)

-- exactly, as whole numbers
abbrev pub computed : BinaryOperator → ℕ → ℕ → Worth
computed binary.Add a b = below_limit (a + b)
computed binary.Subtract a b = if nat_le b a then worths.Whole (a - b) else worths.NoValue
computed binary.Multiply a b = below_limit (a * b)
computed binary.Divide a b = quotient a b
computed binary.Remainder a b = remainder a b
computed _ a b = worths.Typed

abbrev pub is_arithmetic : BinaryOperator → Bool
is_arithmetic binary.Add = true
is_arithmetic binary.Subtract = true
is_arithmetic binary.Multiply = true
is_arithmetic binary.Divide = true
is_arithmetic binary.Remainder = true
is_arithmetic _ = false

-- over a whole number without a value
abbrev pub valueless : BinaryOperator → Worth
valueless op = if is_arithmetic op then worths.NoValue else worths.Typed

-- `+ - * / %` over two whole numbers are one; over one that has no value they aren't judged themselves
abbrev pub binary_whole : BinaryOperator → Worth → Worth → Worth
binary_whole op (worths.Whole a) (worths.Whole b) = computed op a b
binary_whole op (worths.Whole a) worths.NoValue = valueless op
binary_whole op worths.NoValue (worths.Whole b) = valueless op
binary_whole op worths.NoValue worths.NoValue = valueless op
binary_whole op worths.Typed b = worths.Typed
binary_whole op (worths.Whole a) worths.Typed = worths.Typed
binary_whole op worths.NoValue worths.Typed = worths.Typed

-- what a name stands for: an inner name hides an item
abbrev pub or_else : {X : Type 0} → Option X → X → X
or_else None other = other
or_else (Some x) other = x

-- what the names of items are
abbrev pub Constants : Type 0
Constants = Text → Worth

-- What an expression is, and the places of the operators in it that leave 0 to 2^128 - 1 or divide by 0, in the order of
-- the text.
pub record Judged : Type 0 where
  pub worth : Worth
  pub places : List ℕ

abbrev pub Judges : Type 0
Judges = Inner Worth → Judged

abbrev pub has_type : List ℕ → Judged
has_type places = record { worth = worths.Typed; places = places }

abbrev pub is_valueless : Worth → Bool
is_valueless (worths.Whole n) = false
is_valueless worths.NoValue = true
is_valueless worths.Typed = false

-- the operator itself is at fault
abbrev pub operator_places : BinaryOperator → ℕ → Worth → Worth → List ℕ
operator_places op at (worths.Whole a) (worths.Whole b) = if is_valueless (computed op a b) then at ∷ [] else []
operator_places op at _ _ = []

abbrev pub places_of_all : List Judges → Inner Worth → List ℕ
places_of_all [] inner = []
places_of_all (x ∷ xs) inner = (x inner).places ++ places_of_all xs inner

abbrev pub type_places : TypeExpr Judges → Inner Worth → List ℕ
type_places (types.Sized kind at width) inner = (width inner).places
type_places (types.Bool at) inner = []
type_places (types.Alias name) inner = []

-- one level of an expression, with its parts
abbrev pub judged_step : Constants → Expr-F Judges → Judges
judged_step constants (Expr-F.Number value at) inner = record { worth = worths.Whole value; places = [] }
judged_step constants (Expr-F.Name name) inner = record { worth = or_else (inner_of inner name.text) (constants name.text); places = [] }
judged_step constants (Expr-F.Call name arguments) inner = has_type (places_of_all arguments inner)
judged_step constants (Expr-F.Access memory at size address) inner = has_type ((size inner).places ++ (address inner).places)
judged_step constants (Expr-F.Join at high low) inner = has_type ((high inner).places ++ (low inner).places)
judged_step constants (Expr-F.Parentheses at body) inner = body inner
judged_step constants (Expr-F.Unary op at operand) inner = has_type (operand inner).places
judged_step constants (Expr-F.Binary op at left right) inner =
    record {
      worth = binary_whole op (left inner).worth (right inner).worth;
      places = (left inner).places ++ operator_places op at (left inner).worth (right inner).worth ++ (right inner).places;
    }
judged_step constants (Expr-F.Cast operand at target) inner = has_type ((operand inner).places ++ type_places target inner)
judged_step constants (Expr-F.Slice operand at high low) inner = has_type ((operand inner).places ++ (high inner).places ++ (low inner).places)
judged_step constants (Expr-F.If at condition one other) inner = has_type ((condition inner).places ++ (one inner).places ++ (other inner).places)
judged_step constants (Expr-F.Let at name bound body) inner =
    record {
      worth = (body ((name.text, (bound inner).worth) ∷ inner)).worth;
      places = (bound inner).places ++ (body ((name.text, (bound inner).worth) ∷ inner)).places;
    }

abbrev pub judged : Constants → Expr → Judges
judged constants e = fold-Expr Judges (judged_step constants) e

abbrev pub whole_of : Constants → Expr → Inner Worth → Worth
whole_of constants e inner = (judged constants e inner).worth

-- a constant whose expression is no whole number is one without a value
abbrev pub constant_worth : Worth → Worth
constant_worth (worths.Whole n) = worths.Whole n
constant_worth worths.NoValue = worths.NoValue
constant_worth worths.Typed = worths.NoValue

-- what the name of an item is worth
abbrev pub constant_whole : Constants → Option Item → Worth
constant_whole constants (Some (items.Constant at name value)) = constant_worth (whole_of constants value [])
constant_whole constants _ = worths.Typed
