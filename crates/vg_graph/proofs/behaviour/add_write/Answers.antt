use Rattle.std.proofs.Common.{sym, subst}
use Rattle.vg_isa.specs.declared.isa.Parts.{Parts}
use Rattle.vg_graph.specs.Behaviour.{IsTypedAt}
use Rattle.vg_graph.proofs.BuildLemmas.{Extends-trans}
use Rattle.vg_graph.proofs.BehaviourLemmas.{at_extended, parts_typed, tree_extended}
use Rattle.vg_graph.proofs.behaviour.add_write.Goals as goal

pub add_at-requires : goal.add_at-requires
add_at-requires c =
    subst (λ (d : Parts). IsTypedAt d c.args.write.now.at) (sym c.in_ok-guard.ensures.extends.isa)
    (parts_typed c.args.graph.now.isa c.args.write.now c.requires).at

pub returns-clause-stands : goal.returns-clause-stands
returns-clause-stands c =
    let g1 = c.add_tree.new.graph in
    let g2 = c.add_at.new.graph in
    let g3 = c.add_tree-2.new.graph in
    let w = c.args.write.now in
    let later = Extends-trans g1 g2 g3 c.in_ok-at.ensures.extends c.in_ok-value.ensures.extends in
    record {
      guard = tree_extended g1 g3 c.in_ok-guard.guard w.guard later c.in_ok-guard.ensures.tree;
      at = at_extended g2 g3 c.in_ok-at.at w.at c.in_ok-value.ensures.extends c.in_ok-at.ensures.stands;
      value = c.in_ok-value.ensures.tree;
    }

pub returns-clause-extends : goal.returns-clause-extends
returns-clause-extends c =
    let g0 = c.args.graph.now in
    let g1 = c.add_tree.new.graph in
    let g2 = c.add_at.new.graph in
    let g3 = c.add_tree-2.new.graph in
    Extends-trans g0 g1 g3 c.in_ok-guard.ensures.extends (Extends-trans g1 g2 g3 c.in_ok-at.ensures.extends c.in_ok-value.ensures.extends)
