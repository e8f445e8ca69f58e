-- The items of a context, and the fields of a format among them.
use Rattle.std.specs.Prelude.{ℕ, List, Option, map}
use Rattle.vg_ast.specs.declared.item.Item.{Item}
use Rattle.vg_names.specs.Definition.{Text, item_named}
use Rattle.vg_names.specs.Numbers.{number_named}
use Rattle.vg_whole.specs.Whole.{Constants}
use Rattle.vg_inline.specs.Inline.{number_or}
use Rattle.vg_type.specs.declared.sort.Sort.{Sort}
use Rattle.vg_type.specs.Scope.{field_sorts}
use Rattle.vg_type.specs.Item.{Setting}
use Rattle.vg_tree.specs.Resource.{format_id}

-- the number of a format, and what its fields are
abbrev pub format_given : Setting → Text → ℕ
format_given setting name = format_id setting.all (number_or (number_named setting.all name))

abbrev pub sorts_in : Constants → Option Item → List Sort
sorts_in constants item = map (λ (field : Text × Sort). field.1) (field_sorts constants item)

abbrev pub sorts_given : Setting → Text → List Sort
sorts_given setting name = sorts_in setting.globals.constants (item_named setting.all name)
