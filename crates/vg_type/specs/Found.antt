-- What the code finds of an expression over its parts: the first places alone.
use Rattle.std.specs.Prelude.{ℕ, Bool, true, false, ◌||◌, not, is_none, Option, Some, None, if◌then◌else◌}
use Rattle.std.specs.Option.{option_or}
use Rattle.vg_ast.specs.declared.operator.UnaryOperator.{UnaryOperator}
use Rattle.vg_ast.specs.declared.operator.BinaryOperator.{BinaryOperator}
use Rattle.vg_names.specs.First.{first_of}
use Rattle.vg_whole.specs.declared.worth.Worth.{Worth}
use Rattle.vg_whole.specs.declared.worth.Worth.TheVariants as worths
use Rattle.vg_whole.specs.Whole.{binary_whole}
use Rattle.vg_type.specs.declared.value_type.ValueType.{ValueType}
use Rattle.vg_type.specs.declared.sort.Sort.{Sort}
use Rattle.vg_type.specs.declared.sort.Sort.TheVariants as sorts
use Rattle.vg_type.specs.declared.judgement.Judgement.{Judgement}
use Rattle.vg_type.specs.ValueType.{worth_of, is_untyped, is_valueless, common_type}
use Rattle.vg_type.specs.Operator.{unary_type, binary_type, operand_type, is_too_wide, cast_type, slice_type, leaves, join_type, is_too_long, is_wrong_size, choice_type}
use Rattle.vg_type.specs.Judged.{Judged, told, unfit_at, type_found}
use Rattle.vg_type.specs.Expression.{access_type}

-- what is found, with the first places
abbrev pub first_found : Judged → Judgement
first_found j = record { start = j.start; sort = j.sort; width = first_of j.widths; range = first_of j.ranges }

abbrev pub sound_found : ℕ → Sort → Judgement
sound_found start sort = record { start = start; sort = sort; width = None; range = None }

abbrev pub sort_found : Bool → Option ℕ → Option ValueType → Sort
sort_found true range t = sorts.Untyped
sort_found false (Some at) t = sorts.Untyped
sort_found false None None = sorts.Untyped
sort_found false None (Some t) = sorts.Typed t

abbrev pub own_width : ℕ → Bool → Option ℕ → Option ValueType → Option ℕ
own_width start true range t = None
own_width start false (Some at) t = None
own_width start false None (Some t) = None
own_width start false None None = Some start

abbrev pub settled_found : ℕ → Bool → Option ℕ → Option ℕ → Option ValueType → Judgement
settled_found start blocked width range t =
    record { start = start; sort = sort_found blocked range t; width = option_or (own_width start blocked range t) width; range = range }

abbrev pub first_unfit : Option ValueType → Judgement → Option ℕ
first_unfit t f = first_of (unfit_at t f.start f.sort)

abbrev pub number_width : Judgement → Option ℕ
number_width f = option_or f.width (first_of (type_found f.start f.sort))

abbrev pub parentheses_found : ℕ → Judgement → Judgement
parentheses_found at f = record { start = at; sort = f.sort; width = f.width; range = f.range }

abbrev pub unary_found : UnaryOperator → ℕ → Judgement → Judgement
unary_found op at f = settled_found at (is_untyped f.sort) f.width f.range (unary_type op f.sort)

abbrev pub binary_range : BinaryOperator → ℕ → Judgement → Judgement → Option ℕ
binary_range op at l r =
    option_or (option_or (option_or (option_or l.range (first_unfit (operand_type op l.sort r.sort) l)) (first_of (told (is_too_wide op (common_type l.sort r.sort)) at)))
    r.range) (first_unfit (operand_type op l.sort r.sort) r)

abbrev pub typed_binary_found : BinaryOperator → ℕ → Judgement → Judgement → Judgement
typed_binary_found op at l r =
    settled_found l.start (is_untyped l.sort || is_untyped r.sort) (option_or l.width r.width) (binary_range op at l r) (binary_type op l.sort r.sort)

abbrev pub binary_found_over : Worth → BinaryOperator → ℕ → Judgement → Judgement → Judgement
binary_found_over (worths.Whole n) op at l r = sound_found l.start (sorts.Whole n)
binary_found_over worths.NoValue op at l r = sound_found l.start sorts.NoValue
binary_found_over worths.Typed op at l r = typed_binary_found op at l r

unfoldable pub binary_found : BinaryOperator → ℕ → Judgement → Judgement → Judgement
binary_found op at l r = binary_found_over (binary_whole op (worth_of l.sort) (worth_of r.sort)) op at l r

-- a type as it is written: whether it is blocked, what it is, and the first places in it
unfoldable pub cast_found : Judgement → Bool → Option ValueType → Option ℕ → Option ℕ → Judgement
cast_found f blocked target width range =
    settled_found f.start (is_untyped f.sort || blocked) (option_or f.width width) (option_or (option_or f.range (first_unfit target f)) range) (cast_type target f.sort)

unfoldable pub slice_found : Judgement → ℕ → Judgement → Judgement → Judgement
slice_found f at high low =
    settled_found f.start (is_untyped f.sort || is_valueless high.sort || is_valueless low.sort)
    (option_or (option_or f.width (number_width high)) (number_width low))
    (option_or (option_or (option_or f.range (first_of (told (leaves f.sort high.sort low.sort) at))) high.range) low.range)
    (slice_type f.sort high.sort low.sort)

unfoldable pub join_found : ℕ → Judgement → Judgement → Judgement
join_found at high low =
    settled_found at (is_untyped high.sort || is_untyped low.sort) (option_or high.width low.width)
    (option_or (option_or (first_of (told (is_too_long high.sort low.sort) at)) high.range) low.range)
    (join_type high.sort low.sort)

abbrev pub if_range : Option ValueType → Judgement → Judgement → Judgement → Option ℕ
if_range t c one other =
    option_or (option_or (option_or (option_or c.range one.range) (first_unfit t one)) other.range) (first_unfit t other)

unfoldable pub if_found : ℕ → Judgement → Judgement → Judgement → Judgement
if_found at c one other =
    settled_found at (is_untyped c.sort || is_untyped one.sort || is_untyped other.sort) (option_or (option_or c.width one.width) other.width)
    (if_range (common_type one.sort other.sort) c one other) (choice_type c.sort one.sort other.sort)

abbrev pub access_range : Option ValueType → ℕ → Judgement → Judgement → Option ℕ
access_range t at size address = option_or (option_or (option_or (first_of (told (is_wrong_size size.sort) at)) size.range) address.range) (first_unfit t address)

unfoldable pub access_found : Bool → Option ValueType → ℕ → ℕ → Judgement → Judgement → Judgement
access_found is_memory t start at size address =
    settled_found start (is_valueless size.sort || is_untyped address.sort || not is_memory || is_none t)
    (option_or (number_width size) address.width) (access_range t at size address) (access_type t size.sort address.sort)

unfoldable pub let_found : ℕ → Judgement → Judgement → Judgement
let_found at bound body =
    record { start = at; sort = if is_untyped bound.sort then sorts.Untyped else body.sort; width = option_or bound.width body.width; range = option_or bound.range body.range }
