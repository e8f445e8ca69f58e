-- Encodings that name a field twice, or give it a value that doesn't fit.
use Rattle.std.specs.Prelude.{ℕ, Bool, true, ◌||◌, not, List, [], ◌∷◌, ◌++◌, Option, Some, None}
use Rattle.vg_ast.specs.declared.fix.Fix.{Fix}
use Rattle.vg_ast.specs.declared.item.Item.{Item}
use Rattle.vg_ast.specs.declared.item.Item.TheVariants as items
use Rattle.vg_names.specs.Definition.{Text, item_named, is_among}
use Rattle.vg_names.specs.Unknown.{in_each}
use Rattle.vg_whole.specs.declared.worth.Worth.{Worth}
use Rattle.vg_whole.specs.declared.worth.Worth.TheVariants as worths
use Rattle.vg_whole.specs.Whole.{Inner, inner_of, whole_of}
use Rattle.vg_type.specs.declared.sort.Sort.{Sort}
use Rattle.vg_type.specs.declared.sort.Sort.TheVariants as sorts
use Rattle.vg_type.specs.ValueType.{fits}
use Rattle.vg_type.specs.Judged.{told}
use Rattle.vg_type.specs.Scope.{field_sorts}
use Rattle.vg_type.specs.Item.{Setting}

-- the format of the instruction of a name
abbrev pub format_of : List Item → Option Item → Option Item
format_of all (Some (items.Instruction at name format behaviour)) = item_named all format.text
format_of all _ = None

-- a number fits what a field is
abbrev pub fits_field : Option Sort → Worth → Bool
fits_field (Some (sorts.Typed t)) (worths.Whole n) = fits n t
fits_field field value = true

-- a field that is named in front, or whose value doesn't fit
abbrev pub is_wrong_fix : Setting → Inner Sort → List Text → Fix → Bool
is_wrong_fix setting fields front fix =
    is_among fix.name.text front || not (fits_field (inner_of fields fix.name.text) (whole_of setting.globals.constants fix.value []))

-- the names of the wrong ones, where these fields are named in front
abbrev pub wrong_fixes : Setting → Inner Sort → List Text → List Fix → List ℕ
wrong_fixes setting fields front [] = []
wrong_fixes setting fields front (fix ∷ more) =
    told (is_wrong_fix setting fields front fix) fix.name.at ++ wrong_fixes setting fields (fix.name.text ∷ front) more

abbrev pub item_values : Setting → Item → List ℕ
item_values setting (items.Encoding at name fixes) =
    wrong_fixes setting (field_sorts setting.globals.constants (format_of setting.all (item_named setting.all name.text))) [] fixes
item_values setting _ = []

-- the places at which encodings do so
abbrev pub values : Setting → List ℕ
values setting = in_each (item_values setting) setting.all
