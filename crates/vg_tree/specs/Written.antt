-- What a behaviour writes: for each resource the condition of the paths that write it, where and what.
use Rattle.std.specs.Prelude.{ℕ, Bool, false, ◌&&◌, nat_eq, List, [], ◌∷◌, ◌++◌, Option, Some, None, if◌then◌else◌}
use Rattle.std.specs.Option.{option_map, option_or}
use Rattle.vg_inline.specs.declared.tree.Tree.{Tree}
use Rattle.vg_inline.specs.declared.effect.Target.{Target}
use Rattle.vg_inline.specs.declared.effect.Target.TheVariants as targets
use Rattle.vg_inline.specs.declared.effect.Effect.{Effect, fold-Effect}
use Rattle.vg_inline.specs.declared.effect.Effect.TheOpen.{Effect-F}
use Rattle.vg_type.specs.declared.value_type.ValueType.{ValueType}
use Rattle.vg_type.specs.declared.value_type.ValueType.TheVariants.{Bool as BoolType}
use Rattle.vg_type.specs.declared.sort.Sort.TheVariants as sorts
use Rattle.vg_type.specs.ValueType.{whole_or}
use Rattle.vg_type.specs.Operator.{bytes_type}
use Rattle.vg_type.specs.Item.{Setting}
use Rattle.vg_isa.specs.declared.expr.Expr.{Expr, fold-Expr}
use Rattle.vg_isa.specs.declared.expr.Expr.TheOpen.{Expr-F}
use Rattle.vg_isa.specs.declared.expr.Expr.TheVariants as exprs
use Rattle.vg_isa.specs.declared.operator.BinOp.TheVariants as binop
use Rattle.vg_tree.specs.declared.made.Made.{Made}
use Rattle.vg_tree.specs.declared.reading.Reading.{Reading}
use Rattle.vg_tree.specs.declared.written.Written.{Written}
use Rattle.vg_tree.specs.Resource.{memory_number, resource_at}
use Rattle.vg_tree.specs.Made.{Frame, made, at_place, negated, address_in}

-- ---- targets

-- the number of the item that is written
abbrev pub target_number : Setting → Target → ℕ
target_number setting (targets.Resource k at) = k
target_number setting (targets.Indexed k at index_at) = k
target_number setting (targets.Access at size address_at) = memory_number setting.all

-- where its name stands
abbrev pub target_place : Target → ℕ
target_place (targets.Resource k at) = at
target_place (targets.Indexed k at index_at) = at
target_place (targets.Access at size address_at) = at

-- where its index or address stands
abbrev pub part_place : Target → Option ℕ
part_place (targets.Resource k at) = None
part_place (targets.Indexed k at index_at) = Some index_at
part_place (targets.Access at size address_at) = Some address_at

-- the type of an index or address
abbrev pub part_type : Setting → Target → Option ValueType
part_type setting (targets.Resource k at) = None
part_type setting (targets.Indexed k at index_at) = (resource_at setting k).index
part_type setting (targets.Access at size address_at) = address_in setting

-- the type of what is written
abbrev pub target_type : Setting → Target → Option ValueType
target_type setting (targets.Resource k at) = (resource_at setting k).single
target_type setting (targets.Indexed k at index_at) = (resource_at setting k).gives
target_type setting (targets.Access at size address_at) = bytes_type (whole_or size sorts.Untyped)

-- ---- writes

-- the constant true
abbrev pub always : Expr
always = exprs.Const (record { width = 1; number = 1 })

abbrev pub always_step : Expr-F Bool → Bool
always_step (Expr-F.Const bits) = nat_eq bits.width 1 && nat_eq bits.number 1
always_step _ = false

-- a guard is the constant true
abbrev pub is_always : Expr → Bool
is_always guard = fold-Expr Bool always_step guard

-- the index or address, if there is one
abbrev pub first_part : Frame → List Tree → Option Made
first_part frame [] = None
first_part frame (part ∷ more) = Some (made frame part)

abbrev pub readings_in : Option Made → List Reading
readings_in None = []
readings_in (Some made) = made.readings

-- a write alone is always made
abbrev pub alone : Frame → Target → Option Made → ℕ → Made → Written
alone frame target part value_at value =
    record {
      guard = always;
      guard_spot = None;
      at = option_map (at_place (part_type frame.setting target)) part;
      at_spot = part_place target;
      value = at_place (target_type frame.setting target) value;
      value_spot = value_at;
      readings = readings_in part ++ value.readings;
    }

-- a condition and the guard behind it
abbrev pub guarded : Expr → Expr → Expr
guarded condition guard = if is_always guard then condition else exprs.Binary binop.And condition guard

-- written on one side of a conditional alone, where this is the condition of that side
abbrev pub on_one_side : ℕ → Expr → List Reading → Written → Written
on_one_side at condition readings written =
    record {
      guard = guarded condition written.guard;
      guard_spot = Some at;
      at = written.at;
      at_spot = written.at_spot;
      value = written.value;
      value_spot = written.value_spot;
      readings = readings ++ written.readings;
    }

-- the guard of a write on both sides
abbrev pub either_guard : Expr → Expr → Expr → Expr
either_guard condition one other = if is_always one && is_always other then always else exprs.If condition one other

-- written on both sides
abbrev pub on_both_sides : ℕ → Expr → List Reading → Written → Written → Written
on_both_sides at condition readings one other =
    record {
      guard = either_guard condition one.guard other.guard;
      guard_spot = Some at;
      at = one.at;
      at_spot = one.at_spot;
      value = exprs.If condition one.value other.value;
      value_spot = one.value_spot;
      readings = (readings ++ one.readings) ++ other.readings;
    }

abbrev pub chosen : ℕ → Expr → List Reading → Option Written → Option Written → Option Written
chosen at condition readings None None = None
chosen at condition readings (Some one) None = Some (on_one_side at condition readings one)
chosen at condition readings None (Some other) = Some (on_one_side at (negated condition) readings other)
chosen at condition readings (Some one) (Some other) = Some (on_both_sides at condition readings one other)

-- a block writes what its one part does that writes it
abbrev pub first_written : List (Option Written) → Option Written
first_written [] = None
first_written (one ∷ more) = option_or one (first_written more)

abbrev pub else_written : Option (Option Written) → Option Written
else_written None = None
else_written (Some other) = other

-- a condition stands at a place of type Bool
abbrev pub condition_tree : Made → Expr
condition_tree condition = at_place (Some BoolType) condition

-- one level of a statement: what it writes to the resource of this item
abbrev pub written_step : Frame → ℕ → Effect-F (Option Written) → Option Written
written_step frame k (Effect-F.Block parts) = first_written parts
written_step frame k (Effect-F.If at condition one other) = chosen at (condition_tree (made frame condition)) (made frame condition).readings one (else_written other)
written_step frame k (Effect-F.Assign target parts value_at value) =
    if nat_eq (target_number frame.setting target) k then Some (alone frame target (first_part frame parts) value_at (made frame value)) else None

-- what a behaviour writes to a resource, if it writes it
abbrev pub written : Frame → ℕ → Effect → Option Written
written frame k x = fold-Effect (Option Written) (written_step frame k) x
