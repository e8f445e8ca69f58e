-- What the constants, aliases and functions of a description stand for, each by what it uses.
use Rattle.std.specs.Prelude.{◌≡◌, ℕ, zero, suc, true, false, List, length, Option, None, Some, slice_index_or}
use Rattle.vg_ast.specs.declared.item.Item.{Item}
use Rattle.vg_names.specs.Definition.{Text, item_named, is_among}
use Rattle.vg_names.specs.Cyclic.{is_replaced}
use Rattle.vg_names.specs.Numbers.{number_named}
use Rattle.vg_names.specs.Uses.{uses_of}

-- How an item is worked out from what the names that it uses stand for.
abbrev pub Step : Type 0 → Type 0
Step X = (Text → X) → Option Item → X

-- A name stands for what the step makes of its item. Names are followed through so many items, and behind them each name
-- stands for what is plain.
abbrev pub worked_within : {X : Type 0} → List Item → X → Step X → ℕ → Text → X
worked_within all plain step zero text = plain
worked_within all plain step (suc n) text = step (worked_within all plain step n) (item_named all text)

-- as many as there are, which is far enough where no item uses itself
unfoldable pub worked : {X : Type 0} → List Item → X → Step X → Text → X
worked all plain step text = worked_within all plain step (length all) text

-- what is at a number, where the list has one for each item
abbrev pub value_at : {X : Type 0} → X → List X → Option ℕ → X
value_at plain list None = plain
value_at plain list (Some number) = slice_index_or list number plain

-- what a name stands for by such a list
abbrev pub value_by : {X : Type 0} → X → List Item → List X → Text → X
value_by plain all list text = value_at plain list (number_named all text)

-- A step looks at the names that an item uses alone, and what isn't put in place of its name is plain to it.
pub record IsStep (X : Type 0) (plain : X) (step : Step X) : Type 0 where
  pub plainly : (F : Text → X) (item : Option Item) → is_replaced item ≡ false → step F item ≡ plain
  pub locally : (F G : Text → X) (item : Item) → ((text : Text) → is_among text (uses_of item) ≡ true → F text ≡ G text) → step F (Some item) ≡ step G (Some item)

-- each name stands for what the step makes of its item
abbrev pub IsWorked : {X : Type 0} → List Item → Step X → (Text → X) → Type 0
IsWorked all step F = (text : Text) → F text ≡ step F (item_named all text)
