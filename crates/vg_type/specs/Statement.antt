-- The places in a statement at which types and ranges are broken.
use Rattle.std.specs.Prelude.{ℕ, List, [], ◌∷◌, ◌++◌, Option, Some, None, if◌then◌else◌}
use Rattle.vg_ast.specs.declared.goal.Goal.{Goal}
use Rattle.vg_ast.specs.declared.goal.Goal.TheVariants as goals
use Rattle.vg_ast.specs.declared.statement.Statement.{Statement, fold-Statement}
use Rattle.vg_ast.specs.declared.statement.Statement.TheOpen.{Statement-F}
use Rattle.vg_whole.specs.Whole.{Inner}
use Rattle.vg_type.specs.declared.value_type.ValueType.{ValueType}
use Rattle.vg_type.specs.declared.sort.Sort.{Sort}
use Rattle.vg_type.specs.declared.sort.Sort.TheVariants as sorts
use Rattle.vg_type.specs.Operator.{bytes_type, is_bool}
use Rattle.vg_type.specs.Judged.{Judged}
use Rattle.vg_type.specs.Expression.{Scope, Signature, judged, call_judged, access_judged}
use Rattle.vg_type.specs.Faults.{Faults, no_faults, both, of_each, of_any, in_expression, at_type}

-- A goal is judged as the expression that reads what it writes: it has no type where that has none, and is told at its
-- first token.
abbrev pub goal_judged : Scope → Goal → Inner Sort → Faults
goal_judged scope (goals.Name name) inner = no_faults
goal_judged scope (goals.Indexed name index) inner = in_expression (call_judged name (scope.callee name.text) (judged scope index inner ∷ []))
goal_judged scope (goals.Access memory at size address) inner = in_expression (access_judged scope memory at (judged scope size inner) (judged scope address inner))

abbrev pub typed_sort : Sort → Option ValueType
typed_sort (sorts.Typed t) = Some t
typed_sort _ = None

abbrev pub register_type : Option Signature → Option ValueType
register_type None = None
register_type (Some signature) = signature.result

-- the type of what is written: that of the program counter or a register, or of so many bytes
abbrev pub written_type : Scope → Goal → Inner Sort → Option ValueType
written_type scope (goals.Name name) inner = typed_sort (scope.value name.text)
written_type scope (goals.Indexed name index) inner = register_type (scope.callee name.text)
written_type scope (goals.Access memory at size address) inner = bytes_type (judged scope size inner).sort

-- a condition is a Bool, and a whole number is none
abbrev pub condition_widths : ℕ → Sort → List ℕ
condition_widths at sorts.Untyped = []
condition_widths at sort = if is_bool sort then [] else at ∷ []

abbrev pub at_condition : Judged → Faults
at_condition j = record { widths = j.widths ++ condition_widths j.start j.sort; ranges = j.ranges }

-- the places in a statement, where inner names are this
abbrev pub Places : Type 0
Places = Inner Sort → Faults

abbrev pub statement_step : Scope → Statement-F Places → Places
statement_step scope (Statement-F.Block at body) inner = of_each (λ (x : Places). x inner) body
statement_step scope (Statement-F.Let at name bound body) inner =
    both (in_expression (judged scope bound inner)) (body ((name.text, (judged scope bound inner).sort) ∷ inner))
statement_step scope (Statement-F.If at condition body other) inner =
    both (at_condition (judged scope condition inner)) (both (body inner) (of_any (λ (x : Places). x inner) other))
statement_step scope (Statement-F.Assign goal assigned) inner =
    both (goal_judged scope goal inner) (at_type (written_type scope goal inner) (judged scope assigned inner))

abbrev pub statement_faults : Scope → Statement → Places
statement_faults scope s = fold-Statement Places (statement_step scope) s
