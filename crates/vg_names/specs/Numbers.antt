-- The numbers of items by the names that they define, and the graph of which item uses which.
use Rattle.std.specs.Prelude.{ℕ, List, [], ◌∷◌, ◌++◌, map, Option}
use Rattle.std.specs.Option.{option_to_list}
use Rattle.vg_ast.specs.declared.item.Item.{Item}
use Rattle.vg_names.specs.Definition.{Text}
use Rattle.vg_names.specs.Table.{number_from}
use Rattle.vg_names.specs.Uses.{uses_of}

-- the number of the first item that defines a name
abbrev pub number_named : List Item → Text → Option ℕ
number_named all text = number_from 0 all text

-- the numbers of these names, of those that have one
abbrev pub numbers_of : (Text → Option ℕ) → List Text → List ℕ
numbers_of number [] = []
numbers_of number (text ∷ more) = option_to_list (number text) ++ numbers_of number more

-- the numbers behind others
unfoldable pub with_numbers : (Text → Option ℕ) → List ℕ → List Text → List ℕ
with_numbers number front names = front ++ numbers_of number names

-- for each item the numbers of the items whose names it uses
abbrev pub graph_of : List Item → List (List ℕ)
graph_of all = map (λ (item : Item). with_numbers (number_named all) [] (uses_of item)) all
