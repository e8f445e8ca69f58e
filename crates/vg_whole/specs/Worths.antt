-- What the constants of a description are worth.
use Rattle.std.specs.Prelude.{◌≡◌, ℕ, List, [], Option}
use Rattle.vg_ast.specs.declared.item.Item.{Item}
use Rattle.vg_ast.specs.declared.desc.Desc.{Desc}
use Rattle.vg_names.specs.Definition.{Text}
use Rattle.vg_names.specs.Duplicate.{duplicates}
use Rattle.vg_names.specs.Cyclic.{IsOrder}
use Rattle.vg_names.specs.Worked.{worked, value_at, value_by, IsWorked}
use Rattle.vg_whole.specs.declared.worth.Worth.{Worth}
use Rattle.vg_whole.specs.declared.worth.Worth.TheVariants as worths
use Rattle.vg_whole.specs.Whole.{Constants, constant_whole}

-- what the names of these items are worth
abbrev pub constants_of : List Item → Constants
constants_of all = worked all worths.Typed constant_whole

-- what the item of a number is worth, typed where there is no number
abbrev pub worth_at : List Worth → Option ℕ → Worth
worth_at list number = value_at worths.Typed list number

-- what a name is worth: that of the first item that defines it
abbrev pub constants_by : List Item → List Worth → Constants
constants_by all list = value_by worths.Typed all list

-- the list has one worth for each item
abbrev pub AreWorths : List Item → List Worth → Type 0
AreWorths all list = constants_by all list ≡ constants_of all

-- Where nothing is defined twice and there is an order, each constant is worth what its expression is, and there is one way
-- to value the names so.
pub record AreConstants (d : Desc) : Type 0 where
  pub worked_out : IsWorked d.items constant_whole (constants_of d.items)
  pub only : (other : Constants) → IsWorked d.items constant_whole other → (text : Text) → other text ≡ constants_of d.items text

abbrev pub ConstantsAreWorked : Type 0
ConstantsAreWorked = (d : Desc) (order : List ℕ) → duplicates d ≡ [] → IsOrder d.items order → AreConstants d
