-- The first places of an expression are found by the first places of its parts.
use Rattle.std.proofs.Common.{◌≡◌, ℕ, Bool, true, false, ◌||◌, not, List, [], ◌∷◌, ◌++◌, is_none, Option, Some, None, refl, ap, ◌∙◌, if◌then◌else◌}
use Rattle.std.specs.Option.{option_or}
use Rattle.vg_ast.specs.declared.name.Name.{Name}
use Rattle.vg_ast.specs.declared.operator.UnaryOperator.{UnaryOperator}
use Rattle.vg_ast.specs.declared.operator.BinaryOperator.{BinaryOperator}
use Rattle.vg_ast.specs.declared.type_expr.TypeExpr.{TypeExpr}
use Rattle.vg_names.specs.First.{first_of}
use Rattle.vg_names.proofs.FirstLemmas.{first_of_append, first_of_three, first_of_four}
use Rattle.vg_whole.specs.declared.worth.Worth.{Worth}
use Rattle.vg_whole.specs.declared.worth.Worth.TheVariants as worths
use Rattle.vg_whole.specs.Whole.{binary_whole}
use Rattle.vg_inline.specs.Types.{Aliases}
use Rattle.vg_type.specs.declared.value_type.ValueType.{ValueType}
use Rattle.vg_type.specs.declared.sort.Sort.TheVariants as sorts
use Rattle.vg_type.specs.ValueType.{worth_of, is_untyped, is_valueless, common_type}
use Rattle.vg_type.specs.Operator.{unary_type, binary_type, operand_type, is_too_wide, cast_type, slice_type, leaves, join_type, is_too_long, is_wrong_size, choice_type}
use Rattle.vg_type.specs.Judged.{Judged, settled, told, unfit, number_widths, type_found}
use Rattle.vg_type.specs.Expression.{Scope, in_parentheses, unary_judged, binary_judged, binary_over, typed_binary, binary_ranges, cast_judged, slice_judged, join_judged, if_judged, access_judged, access_ranges, access_type, let_judged, type_widths, type_ranges, target_type, is_type_blocked}
use Rattle.vg_type.specs.Found.{first_found, settled_found, number_width, parentheses_found, unary_found, binary_range, typed_binary_found, binary_found, binary_found_over, cast_found, slice_found, join_found, if_found, access_found, let_found}

-- an expression is settled by first places
settled_first : (start : ℕ) (blocked : Bool) (ws rs : List ℕ) (t : Option ValueType) → first_found (settled start blocked ws rs t) ≡ settled_found start blocked (first_of ws) (first_of rs) t
settled_first start true ws rs t = refl
settled_first start false ws (r ∷ rs) t = refl
settled_first start false ws [] None = refl
settled_first start false ws [] (Some t) = refl

pub settled_by : (start : ℕ) (blocked : Bool) (ws rs : List ℕ) (t : Option ValueType) (w r : Option ℕ) → first_of ws ≡ w → first_of rs ≡ r
    → first_found (settled start blocked ws rs t) ≡ settled_found start blocked w r t
settled_by start blocked ws rs t w r e h =
    settled_first start blocked ws rs t ∙ ap (λ o. settled_found start blocked o (first_of rs) t) e ∙ ap (λ o. settled_found start blocked w o t) h

first_of_five : (vs ws xs ys zs : List ℕ) → first_of ((((vs ++ ws) ++ xs) ++ ys) ++ zs) ≡ option_or (option_or (option_or (option_or (first_of vs) (first_of ws)) (first_of xs)) (first_of ys)) (first_of zs)
first_of_five vs ws xs ys zs = first_of_append (((vs ++ ws) ++ xs) ++ ys) zs ∙ ap (λ o. option_or o (first_of zs)) (first_of_four vs ws xs ys)

number_first : (j : Judged) → first_of (number_widths j) ≡ number_width (first_found j)
number_first j = first_of_append j.widths (type_found j.start j.sort)

pub found_parentheses : (at : ℕ) (j : Judged) → first_found (in_parentheses at j) ≡ parentheses_found at (first_found j)
found_parentheses at j = refl

pub found_unary : (op : UnaryOperator) (at : ℕ) (j : Judged) → first_found (unary_judged op at j) ≡ unary_found op at (first_found j)
found_unary op at j = settled_first at (is_untyped j.sort) j.widths j.ranges (unary_type op j.sort)

binary_first : (op : BinaryOperator) (at : ℕ) (l r : Judged) → first_of (binary_ranges op at l r) ≡ binary_range op at (first_found l) (first_found r)
binary_first op at l r =
    first_of_five l.ranges (unfit (operand_type op l.sort r.sort) l) (told (is_too_wide op (common_type l.sort r.sort)) at) r.ranges (unfit (operand_type op l.sort r.sort) r)

found_typed_binary : (op : BinaryOperator) (at : ℕ) (l r : Judged) → first_found (typed_binary op at l r) ≡ typed_binary_found op at (first_found l) (first_found r)
found_typed_binary op at l r =
    settled_by l.start (is_untyped l.sort || is_untyped r.sort) (l.widths ++ r.widths) (binary_ranges op at l r) (binary_type op l.sort r.sort) _ _
    (first_of_append l.widths r.widths) (binary_first op at l r)

found_binary_over : (w : Worth) (op : BinaryOperator) (at : ℕ) (l r : Judged) → first_found (binary_over w op at l r) ≡ binary_found_over w op at (first_found l) (first_found r)
found_binary_over (worths.Whole n) op at l r = refl
found_binary_over worths.NoValue op at l r = refl
found_binary_over worths.Typed op at l r = found_typed_binary op at l r

pub found_binary : (op : BinaryOperator) (at : ℕ) (l r : Judged) → first_found (binary_judged op at l r) ≡ binary_found op at (first_found l) (first_found r)
unfolding binary_found
found_binary op at l r = found_binary_over (binary_whole op (worth_of l.sort) (worth_of r.sort)) op at l r

pub found_cast : (aliases : Aliases) (j : Judged) (t : TypeExpr Judged)
    → first_found (cast_judged aliases j t) ≡ cast_found (first_found j) (is_type_blocked aliases t) (target_type aliases t) (first_of (type_widths t)) (first_of (type_ranges t))
unfolding cast_found
found_cast aliases j t =
    settled_by j.start (is_untyped j.sort || is_type_blocked aliases t) (j.widths ++ type_widths t) ((j.ranges ++ unfit (target_type aliases t) j) ++ type_ranges t)
    (cast_type (target_type aliases t) j.sort) _ _ (first_of_append j.widths (type_widths t)) (first_of_three j.ranges (unfit (target_type aliases t) j) (type_ranges t))

pub found_slice : (j : Judged) (at : ℕ) (high low : Judged) → first_found (slice_judged j at high low) ≡ slice_found (first_found j) at (first_found high) (first_found low)
unfolding slice_found
found_slice j at high low =
    settled_by j.start (is_untyped j.sort || is_valueless high.sort || is_valueless low.sort) ((j.widths ++ number_widths high) ++ number_widths low)
    (((j.ranges ++ told (leaves j.sort high.sort low.sort) at) ++ high.ranges) ++ low.ranges) (slice_type j.sort high.sort low.sort) _ _
    (first_of_three j.widths (number_widths high) (number_widths low)
    ∙ ap (λ o. option_or (option_or (first_of j.widths) o) (first_of (number_widths low))) (number_first high)
    ∙ ap (λ o. option_or (option_or (first_of j.widths) (number_width (first_found high))) o) (number_first low))
    (first_of_four j.ranges (told (leaves j.sort high.sort low.sort) at) high.ranges low.ranges)

pub found_join : (at : ℕ) (high low : Judged) → first_found (join_judged at high low) ≡ join_found at (first_found high) (first_found low)
unfolding join_found
found_join at high low =
    settled_by at (is_untyped high.sort || is_untyped low.sort) (high.widths ++ low.widths) ((told (is_too_long high.sort low.sort) at ++ high.ranges) ++ low.ranges)
    (join_type high.sort low.sort) _ _ (first_of_append high.widths low.widths) (first_of_three (told (is_too_long high.sort low.sort) at) high.ranges low.ranges)

pub found_if : (at : ℕ) (c one other : Judged) → first_found (if_judged at c one other) ≡ if_found at (first_found c) (first_found one) (first_found other)
unfolding if_found
found_if at c one other =
    let t = common_type one.sort other.sort in
    settled_by at (is_untyped c.sort || is_untyped one.sort || is_untyped other.sort) ((c.widths ++ one.widths) ++ other.widths)
    ((((c.ranges ++ one.ranges) ++ unfit t one) ++ other.ranges) ++ unfit t other) (choice_type c.sort one.sort other.sort) _ _
    (first_of_three c.widths one.widths other.widths) (first_of_five c.ranges one.ranges (unfit t one) other.ranges (unfit t other))

pub found_access : (scope : Scope) (memory : Name) (at : ℕ) (size address : Judged)
    → first_found (access_judged scope memory at size address) ≡ access_found (scope.is_memory memory.text) scope.address memory.at at (first_found size) (first_found address)
unfolding access_found
found_access scope memory at size address =
    settled_by memory.at (is_valueless size.sort || is_untyped address.sort || not (scope.is_memory memory.text) || is_none scope.address)
    (number_widths size ++ address.widths) (access_ranges scope.address at size address) (access_type scope.address size.sort address.sort) _ _
    (first_of_append (number_widths size) address.widths ∙ ap (λ o. option_or o (first_of address.widths)) (number_first size))
    (first_of_four (told (is_wrong_size size.sort) at) size.ranges address.ranges (unfit scope.address address))

pub found_let : (at : ℕ) (bound body : Judged) → first_found (let_judged at bound body) ≡ let_found at (first_found bound) (first_found body)
unfolding let_found
found_let at bound body =
    ap (λ (o : Option ℕ). record { start = at; sort = if is_untyped bound.sort then sorts.Untyped else body.sort; width = o; range = first_of (bound.ranges ++ body.ranges) }) (first_of_append bound.widths body.widths)
    ∙ ap (λ (o : Option ℕ). record { start = at; sort = if is_untyped bound.sort then sorts.Untyped else body.sort; width = option_or (first_of bound.widths) (first_of body.widths); range = o }) (first_of_append bound.ranges body.ranges)
