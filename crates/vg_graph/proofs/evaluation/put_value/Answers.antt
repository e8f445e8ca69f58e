use Rattle.std.proofs.Common.{◌≡◌, ℕ, ◌<◌, List, length, Some, sym, ap, ◌∙◌, subst}
use Rattle.vg_bits.specs.BitValue.{BitValue}
use Rattle.vg_graph.specs.Node.{AllBelow, args_of}
use Rattle.vg_graph.specs.Evaluation.{AreBitValues, IsWorth, constant_at, tree_over, value_in}
use Rattle.vg_graph.proofs.EvaluationLemmas.{over_typed, over_worth, tree_over-some, value_in-same}
use Rattle.vg_graph.proofs.OrderLemmas.{are_trees, args_within}
use Rattle.vg_graph.proofs.evaluation.put_value.Goals as goal

pub level_tree-requires-clause-within : goal.level_tree-requires-clause-within
level_tree-requires-clause-within g c =
    subst (λ (count : ℕ). AllBelow count (args_of c.node_at.result.now)) (sym (ap length c.as_slice.ensures.value ∙ c.requires.count))
    (args_within c.args.nodes.now c.args.n c.node_at.result.now (are_trees c.args.isa.now c.args.nodes.now c.requires.trees) c.requires.within c.node_at.ensures)

pub level_tree-requires-clause-level : goal.level_tree-requires-clause-level
level_tree-requires-clause-level g c =
    let has = c.requires.trees c.args.n c.requires.within in
    tree_over-some c.args.nodes.now c.args.n c.node_at.result.now has.tree (constant_at c.as_slice.result.now) has.stands c.node_at.ensures

pub eval-requires-clause-typed : goal.eval-requires-clause-typed
eval-requires-clause-typed g c =
    let values = c.args.values.now.items in
    let node = c.node_at.result.now in
    let bits : AreBitValues values (args_of node) = subst (λ (vs : List BitValue). AreBitValues vs (args_of node)) c.as_slice.ensures.value c.in_ok-e.ensures.bits in
    let tree : tree_over (constant_at values) node ≡ Some c.in_ok-e.e = subst (λ (vs : List BitValue). tree_over (constant_at vs) node ≡ Some c.in_ok-e.e) c.as_slice.ensures.value c.in_ok-e.ensures.tree in
    over_typed c.args.isa.now c.args.nodes.now c.args.word.number (g.V.View.reads c.args.v.now) values c.args.n node c.in_ok-e.e
    c.requires.trees c.requires.within c.node_at.ensures c.requires.operands bits tree

pub returns-clause-worth : goal.returns-clause-worth
returns-clause-worth g c =
    let d = c.args.isa.now in
    let nodes = c.args.nodes.now in
    let word = c.args.word.number in
    let s = g.V.View.reads c.args.v.now in
    let values = c.args.values.now.items in
    let n = c.args.n in
    let node = c.node_at.result.now in
    let e = c.in_ok-e.e in
    let b = c.eval.result in
    let bits : AreBitValues values (args_of node) = subst (λ (vs : List BitValue). AreBitValues vs (args_of node)) c.as_slice.ensures.value c.in_ok-e.ensures.bits in
    let tree : tree_over (constant_at values) node ≡ Some e = subst (λ (vs : List BitValue). tree_over (constant_at vs) node ≡ Some e) c.as_slice.ensures.value c.in_ok-e.ensures.tree in
    let worth : IsWorth d nodes word s n b = over_worth d nodes word s values n node e b c.requires.trees c.requires.within c.node_at.ensures c.requires.operands bits tree c.eval.ensures.value c.eval.ensures.width in
    let inside : n < length values = subst (λ (count : ℕ). n < count) (sym c.requires.count) c.requires.within in
    subst (λ (v : BitValue). IsWorth d nodes word s n v) (sym (value_in-same values n b inside)) worth
