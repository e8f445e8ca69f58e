-- Formats whose ranges don't name each of their bits once.
use Rattle.std.specs.Prelude.{ℕ, Bool, true, false, ◌&&◌, ◌||◌, not, nat_le, nat_lt, List, [], ◌∷◌, ◌++◌, map, flat_map, Option, Some, None, if◌then◌else◌}
use Rattle.std.specs.List.{list_all, list_any, range_with_len}
use Rattle.vg_ast.specs.declared.expr.Expr.{Expr}
use Rattle.vg_ast.specs.declared.type_expr.TypeExpr.{TypeExpr}
use Rattle.vg_ast.specs.declared.field.Field.{Field}
use Rattle.vg_ast.specs.declared.range.Range.{Range}
use Rattle.vg_ast.specs.declared.item.Item.{Item}
use Rattle.vg_ast.specs.declared.item.Item.TheVariants as items
use Rattle.vg_names.specs.Unknown.{in_each}
use Rattle.vg_whole.specs.Whole.{Constants}
use Rattle.vg_type.specs.Judged.{told}
use Rattle.vg_type.specs.Scope.{declared_in, width_in, high_of, low_of}
use Rattle.vg_type.specs.Item.{Setting}
use Rattle.vg_tree.specs.Number.{value_or, width_or}
use Rattle.vg_declare.specs.declared.span.Span.{Span}

-- the high and the low bit of a range, as they are written
abbrev pub ends_of : Constants → Range → ℕ × ℕ
ends_of constants range = (value_or (high_of constants range), value_or (low_of constants range))

abbrev pub runs_upwards : ℕ × ℕ → Bool
runs_upwards ends = nat_lt ends.0 ends.1

-- the highest and the lowest bit of a range, whichever way it runs
abbrev pub span : ℕ × ℕ → Span
span ends = if runs_upwards ends then record { high = ends.1; low = ends.0 } else record { high = ends.0; low = ends.1 }

abbrev pub names_bit : ℕ → Span → Bool
names_bit b s = nat_le s.low b && nat_le b s.high

-- two spans have a bit in common
abbrev pub meet : Span → Span → Bool
meet s t = nat_le s.low t.high && nat_le t.low s.high

-- a range runs upwards, lies above the word, or names a bit that one of these spans names
abbrev pub is_wrong_range : ℕ → List Span → ℕ × ℕ → Bool
is_wrong_range width front ends = runs_upwards ends || nat_le width (span ends).high || list_any (meet (span ends)) front

-- one of a field's ranges is wrong behind the others and those in front
abbrev pub is_wrong_field : ℕ → List Span → List (ℕ × ℕ) → Bool
is_wrong_field width front [] = false
is_wrong_field width front (ends ∷ more) = is_wrong_range width front ends || is_wrong_field width (span ends ∷ front) more

abbrev pub field_ends : Constants → Field → List (ℕ × ℕ)
field_ends constants field = map (ends_of constants) field.ranges

-- the spans that are named behind these ranges
abbrev pub named_behind : List Span → List (ℕ × ℕ) → List Span
named_behind front [] = front
named_behind front (ends ∷ more) = named_behind (span ends ∷ front) more

-- the fields that are wrong, where these spans are named in front
abbrev pub wrong_fields : Constants → ℕ → List Span → List Field → List ℕ
wrong_fields constants width front [] = []
wrong_fields constants width front (field ∷ more) =
    told (is_wrong_field width front (field_ends constants field)) field.name.at ++ wrong_fields constants width (named_behind front (field_ends constants field)) more

abbrev pub spans_of : Constants → List Field → List Span
spans_of constants fields = flat_map (λ (field : Field). map span (field_ends constants field)) fields

-- each bit of a word of this width is named
abbrev pub are_named : ℕ → List Span → Bool
are_named width spans = list_all (λ b. list_any (names_bit b) spans) (range_with_len 0 width)

-- a bit without a field is told at the format's name, and any other fault at the field
abbrev pub format_covers : Constants → ℕ → ℕ → List Field → List ℕ
format_covers constants width at fields = told (not (are_named width (spans_of constants fields))) at ++ wrong_fields constants width [] fields

abbrev pub format_width : Setting → TypeExpr Expr → ℕ
format_width setting given = width_or (width_in (declared_in setting.globals given))

abbrev pub item_covers : Setting → Item → List ℕ
item_covers setting (items.Format at name given fields) = format_covers setting.globals.constants (format_width setting given) name.at fields
item_covers setting _ = []

-- the places at which formats don't name each of their bits once
abbrev pub covers : Setting → List ℕ
covers setting = in_each (item_covers setting) setting.all

-- a format isn't wider than 64 bits: so it is where no range is broken
abbrev pub is_narrow : Setting → Item → Bool
is_narrow setting (items.Format at name given fields) = nat_le (format_width setting given) 64
is_narrow setting _ = true

abbrev pub are_narrow : Setting → Bool
are_narrow setting = list_all (is_narrow setting) setting.all
