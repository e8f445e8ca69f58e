-- What is answered about the order of items.
use Rattle.std.specs.Prelude.{List}
use Rattle.vg_ast.specs.declared.item.Item.{Item}
use Rattle.vg_names.specs.declared.ordering.Order.{Order}
use Rattle.vg_names.specs.declared.ordering.Order.TheVariants.{Sorted, Cyclic}
use Rattle.vg_names.specs.Cyclic.{IsOrder, IsFirstCyclic}

abbrev pub Answers : List Item → Order → Type 0
Answers all (Sorted numbers) = IsOrder all numbers
Answers all (Cyclic at) = IsFirstCyclic all at
