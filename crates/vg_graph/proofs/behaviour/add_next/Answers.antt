use Rattle.std.proofs.Common.{sym, subst, Option, Some}
use Rattle.vg_isa.specs.declared.expr.Expr.{Expr}
use Rattle.vg_graph.specs.Behaviour.{IsNextAt}
use Rattle.vg_graph.proofs.BehaviourLemmas.{tree_extended}
use Rattle.vg_graph.proofs.behaviour.add_next.Goals as goal

pub returns-in_ok-value-in-Some-clause-stands : goal.returns-in_ok-value-in-Some-clause-stands
returns-in_ok-value-in-Some-clause-stands c =
    let g1 = c.add_tree.new.graph in
    let g2 = c.add_tree-in-Some.new.graph in
    subst (λ (next : Option (Expr × Expr)). IsNextAt g2.nodes (Some (record { guard = c.in_ok-guard-in-Some.guard; value = c.in_ok-value-in-Some.value })) next) (sym c.in-Some.is)
    (tree_extended g1 g2 c.in_ok-guard-in-Some.guard c.in-Some.guard c.in_ok-value-in-Some.ensures.extends c.in_ok-guard-in-Some.ensures.tree, c.in_ok-value-in-Some.ensures.tree)
