use Rattle.std.proofs.Common.{◌≡◌, [], map, take}
use Rattle.vg_ast.specs.declared.item.Item.{Item}
use Rattle.vg_names.specs.Uses.{uses_of}
use Rattle.vg_names.specs.Numbers.{number_named, with_numbers}
use Rattle.vg_names.proofs.uses.uses_of_items.Given as goal

abbrev pub invariant-loop-item : goal.invariant-loop-item
invariant-loop-item l = l.graph.items ≡ map (λ (item : Item). with_numbers (number_named l.items) [] (uses_of item)) (take l.item-index l.items)
