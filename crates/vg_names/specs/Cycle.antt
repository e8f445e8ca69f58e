-- Which constants, aliases and functions use themselves, directly or through others.
use Rattle.std.specs.Prelude.{ℕ, Bool, false, ◌&&◌, ◌||◌, List, [], ◌∷◌, Option, Some, None, if◌then◌else◌}
use Rattle.vg_ast.specs.declared.name.Name.{Name}
use Rattle.vg_ast.specs.declared.item.Item.{Item}
use Rattle.vg_names.specs.Definition.{Text, item_named, is_among}
use Rattle.vg_names.specs.Unknown.{in_each}
use Rattle.vg_names.specs.Cyclic.{replaced_name, is_replaced, replaced_names}
use Rattle.vg_names.specs.Uses.{uses_of}

abbrev pub names_used : Option Item → List Text
names_used None = []
names_used (Some item) = uses_of item

-- the item of one name uses another name, which is put in place of what it stands for
abbrev pub uses_directly : List Item → Text → Text → Bool
uses_directly all a b = is_among b (names_used (item_named all a)) && is_replaced (item_named all b)

-- directly, or through items of some of these names
abbrev pub uses_through : List Item → List Text → Text → Text → Bool
uses_through all [] a b = uses_directly all a b
uses_through all (middle ∷ more) a b = uses_through all more a b || (uses_through all more a middle && uses_through all more middle b)

abbrev pub name_cycle : List Item → Option Name → List ℕ
name_cycle all None = []
name_cycle all (Some name) = if uses_through all (replaced_names all) name.text name.text then name.at ∷ [] else []

abbrev pub item_cycle : List Item → Item → List ℕ
item_cycle all item = name_cycle all (replaced_name item)

-- the places of the names of those that use themselves, in the order of the text
abbrev pub cycles : List Item → List ℕ
cycles all = in_each (item_cycle all) all
