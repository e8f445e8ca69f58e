-- What is answered about the order of the nodes of a graph.
use Rattle.std.specs.Prelude.{ℕ, List}
use Rattle.vg_names.specs.declared.sorting.Sorting.{Sorting}
use Rattle.vg_names.specs.declared.sorting.Sorting.TheVariants.{Order, Circular}
use Rattle.vg_names.specs.Graph.{IsSorting, IsFirstCircular}

abbrev pub SortsGraph : List (List ℕ) → Sorting → Type 0
SortsGraph graph (Order order) = IsSorting graph order
SortsGraph graph (Circular node) = IsFirstCircular graph node
