use Rattle.std.proofs.Common.{◌≡◌, List, Option, Some, None, ℕ, sym, ap, subst, ◌∙◌, rules}
use Rattle.std.specs.Borrow.{Bor}
use Rattle.std.specs.Option.{option_copied}
use Rattle.vg_ast.specs.declared.name.Name.{Name}
use Rattle.vg_names.specs.declared.sorting.Sorting.{Sorting}
use Rattle.vg_names.specs.Cyclic.{replaced_name as name_replaced}
use Rattle.vg_names.specs.Graph.{IsSorting, IsFirstCircular}
use Rattle.vg_names.specs.Numbers.{graph_of}
use Rattle.vg_names.specs.Sorted.{SortsGraph}
use Rattle.vg_names.proofs.OrderLemmas.{closed_graph, order_of_items, circular_named, cyclic_item}
use Rattle.vg_names.proofs.ordering.order_of.Goals as goal

pub sorted-requires : goal.sorted-requires
sorted-requires c =
    let same : c.as_slice.result.now ≡ graph_of c.as_slice-items.result.now = c.as_slice.ensures.value ∙ c.in_ok-graph.ensures in
    closed_graph c.as_slice-items.result.now c.as_slice.result.now same

pub returns-in-Order : goal.returns-in-Order
returns-in-Order c =
    let same : c.as_slice.result.now ≡ graph_of c.as_slice-items.result.now = c.as_slice.ensures.value ∙ c.in_ok-graph.ensures in
    let sorting : SortsGraph c.as_slice.result.now c.in_ok-order.field-0 = c.in_ok-order.ensures in
    let order : c.as_slice-in-Order.result.now ≡ c.in-Order.order = first_of (search rules, cc (c.as_slice-in-Order.ensures, c.order.view_is)) in
    let sorted : IsSorting c.as_slice.result.now c.in-Order.order = subst (λ (s : Sorting). SortsGraph c.as_slice.result.now s) c.in-Order.is sorting in
    order_of_items c.args.description.now c.as_slice-items.result.now c.as_slice.result.now c.as_slice-in-Order.result.now c.in_ok-replaced_items-in-Order.field-0 c.requires.distinct c.as_slice-items.ensures same
    (subst (λ (l : List ℕ). IsSorting c.as_slice.result.now l) (sym order) sorted) c.in_ok-replaced_items-in-Order.ensures

pub returns-in-Some : goal.returns-in-Some
returns-in-Some c =
    let same : c.as_slice.result.now ≡ graph_of c.as_slice-items.result.now = c.as_slice.ensures.value ∙ c.in_ok-graph.ensures in
    let sorting : SortsGraph c.as_slice.result.now c.in_ok-order.field-0 = c.in_ok-order.ensures in
    let first : IsFirstCircular c.as_slice.result.now c.in-Circular.node = subst (λ (s : Sorting). SortsGraph c.as_slice.result.now s) c.in-Circular.is sorting in
    let named : name_replaced c.index-items-node.result ≡ Some c.in-Some.name.now = sym c.replaced_name.ensures ∙ ap (λ (o : Option (Bor Name)). option_copied o) c.in-Some.is in
    cyclic_item c.args.description.now c.as_slice-items.result.now c.as_slice.result.now c.in-Circular.node c.index-items-node.result c.in-Some.name.now c.requires.distinct c.as_slice-items.ensures same first c.index-items-node.is named

pub unreachable-requires : goal.unreachable-requires
unreachable-requires c =
    let same : c.as_slice.result.now ≡ graph_of c.as_slice-items.result.now = c.as_slice.ensures.value ∙ c.in_ok-graph.ensures in
    let sorting : SortsGraph c.as_slice.result.now c.in_ok-order.field-0 = c.in_ok-order.ensures in
    let first : IsFirstCircular c.as_slice.result.now c.in-Circular.node = subst (λ (s : Sorting). SortsGraph c.as_slice.result.now s) c.in-Circular.is sorting in
    let unnamed : name_replaced c.index-items-node.result ≡ None = sym c.replaced_name.ensures ∙ ap (λ (o : Option (Bor Name)). option_copied o) c.in-None.is in
    circular_named c.as_slice-items.result.now c.as_slice.result.now c.in-Circular.node c.index-items-node.result same first c.index-items-node.is unnamed
